-- A list sorted by a key: its members, its order, and what decides it. Assumes nothing.
use mathlib.Core.Path.{◌≡◌, refl, sym, ap, ◌∙◌}
use mathlib.Core.Logic.{◌⊎◌, inl, inr}
use mathlib.Core.List.{List, [], ◌∷◌, ◌++◌, map, map-append, foldl-append, Memᴰ}
use mathlib.Core.List.Memᴰ
use Prim.Native.Nat.{ℕ}
use native.Mathlib.Omega.{arith}
use lib.Dec.{ltb}
use lib.ListN.{length, length-append}
use Rattle.ranking.specs.Sort.{insert, sort_by}
use Rattle.ranking.specs.Order.{Ascending, Distinct}
use Rattle.ranking.proofs.Last.{by_last}
use Rattle.ranking.proofs.Insert.{insert_length, insert_new, insert_old, insert_mem, insert_ascending, insert_distinct, insert_last, insert_same_order, insert_map}
use Rattle.ranking.proofs.Order.{ascending_front, ascending_below, distinct_front, distinct_apart, ascending_one}

module _ {A : Type 0} (key : A → ℕ) where
  -- one more at the end is one more put in
  pub sort_append : (xs : List A) (x : A) → sort_by key (xs ++ (x ∷ [])) ≡ insert key x (sort_by key xs)
  unfolding sort_by
  sort_append xs x = foldl-append (λ (ys : List A) (y : A). insert key y ys) [] xs (x ∷ [])

  pub sort_none : sort_by key [] ≡ []
  unfolding sort_by
  sort_none = refl

module _ {A : Type 0} (key : A → ℕ) where
  pub sort_length : (xs : List A) → length (sort_by key xs) ≡ length xs
  sort_length =
      by_last (λ (xs : List A). length (sort_by key xs) ≡ length xs)
      (λ xs x e. rw sort_append (simp (insert_length, length-append) (omega arith)))
      (ap length (sort_none key))

  pub sort_mem : (xs : List A) {a : A} → Memᴰ a (sort_by key xs) → Memᴰ a xs
  sort_mem xs {a} =
      by_last (λ (ys : List A). Memᴰ a (sort_by key ys) → Memᴰ a ys)
      (λ ys y below m. put ys y below (insert_mem key y (sort_by key ys) (rw sort_append at m)))
      (λ m. rw (sort_none key) at m) xs
    where
      put : (ys : List A) (y : A) → (Memᴰ a (sort_by key ys) → Memᴰ a ys) → (a ≡ y) ⊎ Memᴰ a (sort_by key ys) → Memᴰ a (ys ++ y ∷ [])
      put ys y below (inl e) = Memᴰ.append_right ys (Memᴰ.head e)
      put ys y below (inr m) = Memᴰ.append_left (y ∷ []) (below m)

  pub mem_sort : (xs : List A) {a : A} → Memᴰ a xs → Memᴰ a (sort_by key xs)
  mem_sort xs {a} =
      by_last (λ (ys : List A). Memᴰ a ys → Memᴰ a (sort_by key ys))
      (λ ys y below m. rw sort_append (put ys y below (Memᴰ.append_cases ys m)))
      (λ m. rw (sort_none key) m) xs
    where
      put : (ys : List A) (y : A) → (Memᴰ a ys → Memᴰ a (sort_by key ys)) → Memᴰ a ys ⊎ Memᴰ a (y ∷ []) → Memᴰ a (insert key y (sort_by key ys))
      put ys y below (inl m) = insert_old key y (sort_by key ys) (below m)
      put ys y below (inr m) = Memᴰ.cast (Memᴰ.eq_of_singleton m) (insert_new key y (sort_by key ys))

  pub sort_ascending : (xs : List A) → Ascending key (sort_by key xs)
  sort_ascending =
      by_last (λ (xs : List A). Ascending key (sort_by key xs)) (λ xs x up. rw sort_append (insert_ascending key x up)) (rw (sort_none key) Ascending.none)

  -- a key that tells the elements apart in the same way sorts them in the same way
  pub sort_same_order : (key' : A → ℕ) (xs : List A)
      → ((a b : A) → Memᴰ a xs → Memᴰ b xs → ltb (key a) (key b) ≡ ltb (key' a) (key' b))
      → sort_by key xs ≡ sort_by key' xs
  sort_same_order key' =
      by_last
      (λ (xs : List A). ((a b : A) → Memᴰ a xs → Memᴰ b xs → ltb (key a) (key b) ≡ ltb (key' a) (key' b)) → sort_by key xs ≡ sort_by key' xs)
      (λ xs x below same.
      let e : sort_by key xs ≡ sort_by key' xs = below (λ a b m n. same a b (Memᴰ.append_left (x ∷ []) m) (Memᴰ.append_left (x ∷ []) n)) in
      rw (sort_append key xs x, sort_append key' xs x, ← e)
      (insert_same_order key key' x (sort_by key xs) (λ y m. same x y (Memᴰ.append_right xs (Memᴰ.head refl)) (Memᴰ.append_left (x ∷ []) (sort_mem xs m)))))
      (λ same. sort_none key ∙ sym (sort_none key'))

module _ {A : Type 0} {key : A → ℕ} where
  pub sort_distinct : {xs : List A} → Distinct key xs → Distinct key (sort_by key xs)
  sort_distinct {xs} =
      by_last (λ (ys : List A). Distinct key ys → Distinct key (sort_by key ys))
      (λ ys y below d.
      rw sort_append
      (insert_distinct key y (λ z m q. distinct_apart ys (y ∷ []) d (sort_mem key ys m) (Memᴰ.head refl) (sym q)) (below (distinct_front ys (y ∷ []) d))))
      (λ d. rw (sort_none key) d) xs

  pub sort_sorted : {xs : List A} → Ascending key xs → sort_by key xs ≡ xs
  sort_sorted {xs} =
      by_last (λ (ys : List A). Ascending key ys → sort_by key ys ≡ ys)
      (λ ys y below up.
      rw (sort_append, below (ascending_front ys (y ∷ []) up))
      (insert_last key y ys (λ z m. ascending_below ys (y ∷ []) up m (Memᴰ.head refl))))
      (λ up. sort_none key) xs

  -- where no two elements have one key, members alone decide the sorted list
  pub sort_only_by_set : {xs ys : List A} → Distinct key xs → Distinct key ys
      → ((a : A) → Memᴰ a xs → Memᴰ a ys)
      → ((a : A) → Memᴰ a ys → Memᴰ a xs)
      → sort_by key xs ≡ sort_by key ys
  sort_only_by_set {xs} {ys} d e there back =
      ascending_one (sort_ascending key xs) (sort_ascending key ys) (sort_distinct d) (sort_distinct e)
      (λ a m. mem_sort key ys (there a (sort_mem key xs m)))
      (λ a m. mem_sort key xs (back a (sort_mem key ys m)))

pub sort_map : {A B : Type 0} (f : A → B) (key : B → ℕ) (xs : List A) → map f (sort_by (λ a. key (f a)) xs) ≡ sort_by key (map f xs)
sort_map {A} {B} f key =
    by_last (λ (xs : List A). map f (sort_by (λ a. key (f a)) xs) ≡ sort_by key (map f xs))
    (λ xs x e. rw (sort_append (λ (a : A). key (f a)) xs x, insert_map f key, e, map-append, sort_append key (map f xs) (f x)))
    (rw (sort_none (λ (a : A). key (f a)), sort_none key))
