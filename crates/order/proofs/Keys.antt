-- The keys in ascending order are those of the records in ascending order of code. Assumes nothing.
use mathlib.Core.Path.{◌≡◌, refl, sym, ap, ◌∙◌}
use mathlib.Core.Logic.{⊎_elim}
use mathlib.Core.Bool.{Bool, true, false}
use mathlib.Core.List.{List, ◌++◌, map}
use Prim.Native.Nat.{ℕ, ◌%◌, ◌≤◌, ◌<◌}
use native.Mathlib.Nat.{eq-or-lt_of_le}
use native.Mathlib.Omega.{arith}
use lib.Dec.{ltb}
use lib.ListN.{length, get_or, take, drop, length-map, get_or-append}
use lib.Seq.{ext_get_or, take_at, length_front, length-take-le}
use borrow.Author.Tests.{ltb-true, ltb-false, lt-ltb, le-ltb}
use Rattle.std.proofs.lemmas.List.{get_or-map}
use Rattle.ranking.specs.Sort.{itself, sort_by}
use Rattle.ranking.proofs.Sorted.{sort_length, sort_map, sort_same_order}
use Rattle.image.specs.Fields.{count_of, code_at}
use Rattle.image.specs.Strains.{each}
use Rattle.image.specs.Library.{Library}
use Rattle.image.proofs.Strains.{each_length, each_at}
use Rattle.content.proofs.Filing.{each_map}
use Rattle.order.specs.Key.{key_at, numbers_of, order_of}
use Rattle.order.specs.Ordered.{Ordered}
use Rattle.order.proofs.Order.{number_in_lem, order_length, order_in}

-- where each record's key was put, all were
pub keys_filled : (xs : List ℕ) (count : ℕ) (keys : List ℕ) → length keys ≡ count → ((i : ℕ) → i < count → get_or keys i 0 ≡ key_at xs i)
    → keys ≡ each (key_at xs) 0 count
keys_filled xs count keys long put =
    ext_get_or 0 keys (each (key_at xs) 0 count) (long ∙ sym (each_length (key_at xs) 0 count))
    (λ i h. let k : i < count = omega arith in put i k ∙ sym (each_at (key_at xs) 0 count i 0 k ∙ ap (key_at xs) (omega arith)))

module _ (xs : List ℕ) (l : Library xs) where
  -- where the codes differ the numbers weigh nothing, and where they do not it is one record
  same_order : (i j : ℕ) → i < count_of xs → j < count_of xs → ltb (key_at xs i) (key_at xs j) ≡ ltb (code_at xs i) (code_at xs j)
  same_order i j h k = go (ltb (code_at xs i) (code_at xs j)) refl
    where
      go : (t : Bool) → ltb (code_at xs i) (code_at xs j) ≡ t → ltb (key_at xs i) (key_at xs j) ≡ t
      go true e = lt-ltb (key_at xs i) (key_at xs j) (omega (arith, l.layout.count.1, ltb-true (code_at xs i) (code_at xs j) e))
      go false e =
          le-ltb (key_at xs i) (key_at xs j)
          (⊎_elim (λ (q : code_at xs j ≡ code_at xs i). omega (arith, l.layout.codes i j h k (sym q)))
          (λ (q : code_at xs j < code_at xs i). omega (arith, l.layout.count.1))
          (eq-or-lt_of_le (ltb-false (code_at xs i) (code_at xs j) e)))

  -- the keys of all records, sorted
  sorted_keys : sort_by itself (each (key_at xs) 0 (count_of xs)) ≡ map (key_at xs) (order_of xs)
  unfolding order_of
  sorted_keys =
      rw (← each_map (key_at xs) (λ (k : ℕ). k) 0 (count_of xs), ← sort_map (key_at xs) itself (numbers_of xs))
      (ap
      (map (key_at xs))
      (sort_same_order (key_at xs) (code_at xs) (numbers_of xs)
      (λ i j m n. same_order i j (number_in_lem xs m) (number_in_lem xs n))))

  -- the number in the i-th of them
  sorted_number : (i : ℕ) (ks : List ℕ) → i < count_of xs → get_or (map (key_at xs) (order_of xs) ++ ks) i 0 % 65536 ≡ get_or (order_of xs) i 0
  sorted_number i ks h =
      let k : i < length (order_of xs) = omega (arith, order_length xs) in
      rw (get_or-append (map (key_at xs) (order_of xs)) ks 0 i (rw length-map k), get_or-map (key_at xs) (order_of xs) i 0 0 k)
      (omega (arith, order_in xs i h, l.layout.count.1))

  -- the keys put in front of a list, then sorted
  pub keys_ordered : (count : ℕ) {before put after : List ℕ} → count ≡ count_of xs → count ≤ length before
      → put ≡ each (key_at xs) 0 count ++ drop count before → after ≡ sort_by itself (take count put) ++ drop count put
      → Ordered xs before after count
  keys_ordered count {before} {put} {after} same room p q = record {
    long =
        ap length q ∙ length_front put (sort_by itself (take count put)) count (sort_length itself (take count put))
        ∙ ap length p ∙ length_front before (each (key_at xs) 0 count) count (rw (length-take-le count before room) (each_length (key_at xs) 0 count));
    number = λ i h. rw (q, front, same) (sorted_number i (drop (count_of xs) put) (omega arith));
  }
    where
      front : sort_by itself (take count put) ≡ map (key_at xs) (order_of xs)
      front = rw (p, take_at (each (key_at xs) 0 count) (drop count before) count (each_length (key_at xs) 0 count), same) sorted_keys
