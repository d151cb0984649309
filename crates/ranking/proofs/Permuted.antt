-- Numbers in ascending order that are a list's in another order: they are that list, sorted. Assumes nothing.
use mathlib.Core.Path.{◌≡◌, refl, sym, ap, ◌∙◌}
use mathlib.Core.Bool.{cond}
use mathlib.Core.List.{List, [], ◌∷◌, ◌++◌, Memᴰ}
use Prim.Native.Nat.{ℕ, ◌+◌, ◌≤◌, ◌<◌}
use native.Mathlib.Omega.{arith}
use lib.Dec.{ltb}
use lib.ListN.{take, drop}
use borrow.Author.Tests.{lt-ltb, le-ltb}
use Rattle.std.specs.List.{sum_by}
use Rattle.std.specs.List.Sorted.{IsPermutation, IsSorted}
use Rattle.std.specs.Ordering.{nat_cmp}
use Rattle.std.proofs.lemmas.List.Sums.{sum_by-cons, sum_by_push}
use Rattle.std.proofs.lemmas.List.Sorted.{sum_by-IsPermutation, IsNonDecreasingBy-from_sort}
use Rattle.ranking.specs.Sort.{itself, insert, sort_by}
use Rattle.ranking.specs.Order.{Ascending}
use Rattle.ranking.proofs.Last.{by_last}
use Rattle.ranking.proofs.Insert.{split, insert_before, insert_after}
use Rattle.ranking.proofs.Placed.{ascending_places}
use Rattle.ranking.proofs.Sorted.{sort_append, sort_none, sort_ascending}

-- two lists have the same numbers, each as often: whatever is summed over both comes to the same
record Same (xs ys : List ℕ) : Type 0 where
  sums : (f : ℕ → ℕ) → sum_by f xs ≡ sum_by f ys

same_back : {xs ys : List ℕ} → Same xs ys → Same ys xs
same_back same = record { sums = λ f. sym (same.sums f) }

-- ---- a sum over a list that is sorted

module _ (f : ℕ → ℕ) where
  sum_insert : (x : ℕ) (ys : List ℕ) → sum_by f (insert itself x ys) ≡ f x + sum_by f ys
  unfolding insert
  sum_insert x [] = sum_by-cons f x []
  sum_insert x (y ∷ ys) =
      split x y (λ h. rw (insert_before itself x y ys h) (sum_by-cons f x (y ∷ ys)))
      (λ h. rw (insert_after itself x y ys h) (omega (arith, sum_by-cons f y (insert itself x ys), sum_by-cons f y ys, sum_insert x ys)))

  sum_sort : (xs : List ℕ) → sum_by f (sort_by itself xs) ≡ sum_by f xs
  sum_sort =
      by_last (λ (xs : List ℕ). sum_by f (sort_by itself xs) ≡ sum_by f xs)
      (λ xs x e. rw (sort_append itself xs x) (omega (arith, sum_insert x (sort_by itself xs), sum_by_push f xs x, e)))
      (ap (sum_by f) (sort_none itself))

-- ---- the same numbers in ascending order are one list

-- how many lie below a bound
abbrev below : ℕ → ℕ → ℕ
below n x = cond (ltb x n) 1 0

one_lt : (x n : ℕ) → x < n → below n x ≡ 1
one_lt x n h = rw (lt-ltb x n h)

no_le : (x n : ℕ) → n ≤ x → below n x ≡ 0
no_le x n h = rw (le-ltb x n h)

none_below : (n : ℕ) (xs : List ℕ) → ((y : ℕ) → Memᴰ y xs → n ≤ y) → sum_by (below n) xs ≡ 0
none_below n [] high = refl
none_below n (x ∷ xs) high =
    omega (arith, sum_by-cons (below n) x xs, none_below n xs (λ y m. high y (Memᴰ.tail m)), no_le x n (high x (Memᴰ.head refl)))

-- no number of a list is less than its first
least : {x : ℕ} {xs : List ℕ} → Ascending itself (x ∷ xs) → (y : ℕ) → Memᴰ y (x ∷ xs) → x ≤ y
least (Ascending.next low up) y (Memᴰ.head e) = omega (arith, e)
least (Ascending.next low up) y (Memᴰ.tail m) = low y m

first_le : {x y : ℕ} {xs ys : List ℕ} → Ascending itself (x ∷ xs) → Same (x ∷ xs) (y ∷ ys) → x ≤ y
first_le {x} {y} {xs} {ys} up same =
    split y x (λ h. absurd (fewer h)) (λ h. h)
  where
    fewer : y < x → ⊥
    fewer h = omega (arith, none_below x (x ∷ xs) (least up), same.sums (below x), sum_by-cons (below x) y ys, one_lt y x h)

one_list : {xs ys : List ℕ} → Ascending itself xs → Ascending itself ys → Same xs ys → xs ≡ ys
one_list {xs = []} {ys = []} u v same = refl
one_list {xs = []} {ys = y ∷ ys} u v same = absurd (omega (arith, same.sums (λ _. 1), sum_by-cons (λ (_ : ℕ). 1) y ys))
one_list {xs = x ∷ xs} {ys = []} u v same = absurd (omega (arith, same.sums (λ _. 1), sum_by-cons (λ (_ : ℕ). 1) x xs))
one_list {xs = x ∷ xs} {ys = y ∷ ys} (Ascending.next low u) (Ascending.next high v) same =
    let e : x ≡ y = omega (arith, first_le (Ascending.next low u) same, first_le (Ascending.next high v) (same_back same)) in
    let rest : xs ≡ ys = one_list u v (record { sums = λ f. omega (arith, same.sums f, sum_by-cons f x xs, sum_by-cons f y ys, ap f e) }) in
    cc

-- what the library's sort ensures
pub sorted_is : (xs ys : List ℕ) → IsPermutation xs ys → IsSorted nat_cmp ys → ys ≡ sort_by itself xs
sorted_is xs ys moved up =
    one_list (ascending_places ys (IsNonDecreasingBy-from_sort itself ys up)) (sort_ascending itself xs)
    (record { sums = λ f. sum_by-IsPermutation f xs ys moved ∙ sym (sum_sort f xs) })

-- the first of a list, sorted, and the rest as it is
pub sorted_front : {n to : ℕ} (xs ys : List ℕ) → to ≡ n → IsPermutation (take to xs) ys → IsSorted nat_cmp ys
    → ys ++ drop to xs ≡ sort_by itself (take n xs) ++ drop n xs
sorted_front {n} {to} xs ys e moved up = rw (← e) (ap (λ zs. zs ++ drop to xs) (sorted_is (take to xs) ys moved up))
