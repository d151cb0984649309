-- The numbers of a list that a test holds of, and how many they are; lists that hold just the numbers below n, each once. Assumes nothing.
use mathlib.Core.Path.{◌≡◌, refl, sym, ap, ◌∙◌}
use mathlib.Core.Bool.{Bool, true, false, cond}
use mathlib.Core.List.Memᴰ
use mathlib.Core.List.{List, [], ◌∷◌, ◌++◌, Memᴰ}
use Prim.Native.Nat.{ℕ, ◌+◌, ◌<◌}
use native.Mathlib.Omega.{arith}
use lib.Dec.{ltb}
use lib.ListN.{length}
use Rattle.ranking.specs.Sort.{itself, insert, sort_by}
use Rattle.ranking.specs.Order.{Distinct}
use Rattle.ranking.proofs.Last.{by_last}
use Rattle.ranking.proofs.Places.{mem_get_or, get_or_mem, distinct_get_or}
use Rattle.ranking.proofs.Sorted.{sort_append, sort_length, sort_only_by_set}
use Rattle.image.specs.Strains.{each}
use Rattle.image.proofs.Strains.{each_length, each_at}

module _ (test : ℕ → Bool) where
  unfoldable pub counted : List ℕ → ℕ
  counted [] = 0
  counted (i ∷ is) = cond (test i) 1 0 + counted is

  counted_append : (is js : List ℕ) → counted (is ++ js) ≡ counted is + counted js
  unfolding counted
  counted_append [] js = omega arith
  counted_append (i ∷ is) js = let e = counted_append is js in omega arith

  counted_insert : (i : ℕ) (js : List ℕ) → counted (insert itself i js) ≡ cond (test i) 1 0 + counted js
  unfolding counted insert
  counted_insert i [] = refl
  counted_insert i (j ∷ js) = go (counted_insert i js) (ltb i j)
    where
      go : counted (insert itself i js) ≡ cond (test i) 1 0 + counted js → (b : Bool)
          → counted (cond b (i ∷ j ∷ js) (j ∷ insert itself i js)) ≡ cond (test i) 1 0 + (cond (test j) 1 0 + counted js)
      go rest true = refl
      go rest false = omega arith

  -- the order does not matter
  counted_sort : (is : List ℕ) → counted (sort_by itself is) ≡ counted is
  unfolding counted sort_by
  counted_sort =
      by_last (λ (is : List ℕ). counted (sort_by itself is) ≡ counted is)
      (λ is i e. rw sort_append (omega (arith, counted_insert i (sort_by itself is), counted_append is (i ∷ []))))
      refl

-- the numbers that a test holds of
module _ (test : ℕ → Bool) where
  unfoldable pub picked : List ℕ → List ℕ
  picked [] = []
  picked (i ∷ is) = cond (test i) (i ∷ picked is) (picked is)

  pub picked_append : (is js : List ℕ) → picked (is ++ js) ≡ picked is ++ picked js
  unfolding picked
  picked_append [] js = refl
  picked_append (i ∷ is) js = go (picked_append is js) (test i)
    where
      go : picked (is ++ js) ≡ picked is ++ picked js → (b : Bool)
          → cond b (i ∷ picked (is ++ js)) (picked (is ++ js)) ≡ cond b (i ∷ picked is) (picked is) ++ picked js
      go rest true = ap (λ (ks : List ℕ). i ∷ ks) rest
      go rest false = rest

  pub picked_length : (is : List ℕ) → length (picked is) ≡ counted test is
  unfolding picked counted
  picked_length [] = refl
  picked_length (i ∷ is) = go (picked_length is) (test i)
    where
      go : length (picked is) ≡ counted test is → (b : Bool) → length (cond b (i ∷ picked is) (picked is)) ≡ cond b 1 0 + counted test is
      go rest true = omega arith
      go rest false = omega arith

  pub picked_mem : (is : List ℕ) {j : ℕ} → Memᴰ j (picked is) → Memᴰ j is × (test j ≡ true)
  unfolding picked
  picked_mem [] m = absurd (Memᴰ.not-nil m)
  picked_mem (i ∷ is) {j} m = go (picked_mem is) (test i) refl m
    where
      go : (Memᴰ j (picked is) → Memᴰ j is × (test j ≡ true)) → (b : Bool) → test i ≡ b → Memᴰ j (cond b (i ∷ picked is) (picked is))
          → Memᴰ j (i ∷ is) × (test j ≡ true)
      go rest true e (Memᴰ.head p) = (Memᴰ.head p, ap test p ∙ e)
      go rest true e (Memᴰ.tail n) = let w = rest n in (Memᴰ.tail w.0, w.1)
      go rest false e n = let w = rest n in (Memᴰ.tail w.0, w.1)

  pub mem_picked : (is : List ℕ) {j : ℕ} → Memᴰ j is → test j ≡ true → Memᴰ j (picked is)
  unfolding picked
  mem_picked [] {j = j} x'' e = elim x'' [ ]
  mem_picked (i ∷ is) (Memᴰ.head p) e = rw (sym (ap test p) ∙ e) (Memᴰ.head p)
  mem_picked (i ∷ is) {j} (Memᴰ.tail m) e = go (test i) (mem_picked is m e)
    where
      go : (b : Bool) → Memᴰ j (picked is) → Memᴰ j (cond b (i ∷ picked is) (picked is))
      go true n = Memᴰ.tail n
      go false n = n

  pub picked_distinct : {is : List ℕ} → Distinct itself is → Distinct itself (picked is)
  unfolding picked
  picked_distinct Distinct.none = Distinct.none
  picked_distinct (Distinct.next {x = i} {xs = is} apart d) = go (picked_distinct d) (test i)
    where
      go : Distinct itself (picked is) → (b : Bool) → Distinct itself (cond b (i ∷ picked is) (picked is))
      go rest true = Distinct.next (λ j m. apart j (picked_mem is m).0) rest
      go rest false = rest

module _ (n : ℕ) where
  each_mem : (i : ℕ) → Memᴰ i (each itself 0 n) → i < n
  each_mem i m =
      let w = get_or_mem 0 m in
      let h : w.0 < n = omega (arith, w.1, each_length itself 0 n) in
      omega (arith, w.2, each_at itself 0 n w.0 0 h)

  mem_each : (i : ℕ) → i < n → Memᴰ i (each itself 0 n)
  mem_each i h =
      let e = each_length itself 0 n in
      let p = each_at itself 0 n i 0 h in
      Memᴰ.cast (omega arith) (mem_get_or (each itself 0 n) i 0 (omega arith))

  each_distinct : Distinct itself (each itself 0 n)
  each_distinct =
      distinct_get_or itself (each itself 0 n) 0
      (λ i j h g e.
      let p = each_length itself 0 n in
      omega (arith, each_at itself 0 n i 0 (omega arith), each_at itself 0 n j 0 (omega arith)))

  module _ {is : List ℕ} (once : Distinct itself is) (all : (i : ℕ) → i < n → Memᴰ i is) (only : (i : ℕ) → Memᴰ i is → i < n) where
    sorted_all : sort_by itself is ≡ sort_by itself (each itself 0 n)
    sorted_all = sort_only_by_set once each_distinct (λ i m. mem_each i (only i m)) (λ i m. all i (each_mem i m))

    pub length_all : length is ≡ n
    length_all = sym (sort_length itself is) ∙ ap length sorted_all ∙ sort_length itself (each itself 0 n) ∙ each_length itself 0 n

    pub counted_all : (test : ℕ → Bool) → counted test is ≡ counted test (each itself 0 n)
    counted_all test = sym (counted_sort test is) ∙ ap (counted test) sorted_all ∙ counted_sort test (each itself 0 n)
