-- The first k of a list, and the running list that has kept them. Assumes nothing.
use mathlib.Core.Path.{◌≡◌, refl, sym, ap, ◌∙◌}
use mathlib.Core.Logic.{◌⊎◌, inl, inr}
use mathlib.Core.List.{List, [], ◌∷◌, ◌++◌, map, foldl-append, Memᴰ}
use mathlib.Core.List.Memᴰ
use Prim.Native.Nat.{ℕ, zero, suc, min, ◌≤◌}
use native.Mathlib.Omega.{arith}
use lib.ListN.{length, take, drop, length-take, take-append-drop}
use lib.Seq.{take-take, take-nil, take_at}
use Rattle.ranking.specs.Sort.{insert, sort_by}
use Rattle.ranking.specs.Order.{Ascending, Distinct}
use Rattle.ranking.specs.First.{first_k, offered, offers}
use Rattle.ranking.proofs.Last.{by_last}
use Rattle.ranking.proofs.Insert.{split, insert_before, insert_after, insert_length, insert_mem, insert_ascending, insert_last, insert_map}
use Rattle.ranking.proofs.Order.{ascending_take}
use Rattle.ranking.proofs.Sorted.{sort_none, sort_append, sort_only_by_set}

module _ {A : Type 0} (key : A → ℕ) (k : ℕ) where
  pub offers_none : (kept : List A) → offers key k [] kept ≡ kept
  unfolding offers
  offers_none kept = refl

  pub offers_next : (x : A) (xs kept : List A) → offers key k (x ∷ xs) kept ≡ offers key k xs (offered key k x kept)
  unfolding offers
  offers_next x xs kept = refl

  pub offers_append : (xs ys kept : List A) → offers key k (xs ++ ys) kept ≡ offers key k ys (offers key k xs kept)
  unfolding offers
  offers_append xs ys kept = foldl-append (λ (zs : List A) (z : A). offered key k z zs) kept xs ys

-- what the first k of a list are does not depend on what is behind its first k
take_behind : {A : Type 0} (k : ℕ) (x : A) (xs : List A) → take k (x ∷ take k xs) ≡ take k (x ∷ xs)
take_behind zero x xs = refl
take_behind {A} (suc k) x xs = ap (λ (ys : List A). x ∷ ys) (take-take k (suc k) xs (omega arith))

take_insert : {A : Type 0} (key : A → ℕ) (k : ℕ) (x : A) (xs : List A) → take k (insert key x (take k xs)) ≡ take k (insert key x xs)
take_insert key zero x xs = refl
take_insert key (suc k) x [] = refl
take_insert {A} key (suc k) x (y ∷ xs) =
    split (key x) (key y)
    (λ h. rw (insert_before key x y (take k xs) h, insert_before key x y xs h) (ap (λ (ys : List A). x ∷ ys) (take_behind k y xs)))
    (λ h. rw (insert_after key x y (take k xs) h, insert_after key x y xs h) (ap (λ (ys : List A). y ∷ ys) (take_insert key k x xs)))

map_take : {A B : Type 0} (f : A → B) (k : ℕ) (xs : List A) → map f (take k xs) ≡ take k (map f xs)
map_take f zero xs = refl
map_take f (suc k) [] = refl
map_take {B = B} f (suc k) (x ∷ xs) = ap (λ (ys : List B). f x ∷ ys) (map_take f k xs)

module _ {A : Type 0} (key : A → ℕ) (k : ℕ) where
  offered_one : (xs : List A) (x : A) → take k (insert key x (take k (sort_by key xs))) ≡ take k (sort_by key (xs ++ x ∷ []))
  offered_one xs x = rw sort_append (take_insert key k x (sort_by key xs))

  pub offers_first : (xs : List A) → offers key k xs [] ≡ first_k key k xs
  unfolding first_k offered
  offers_first =
      by_last (λ (xs : List A). offers key k xs [] ≡ take k (sort_by key xs))
      (λ xs x e. rw (offers_append key k xs (x ∷ []) [], offers_next key k x [], offers_none key k, e) (offered_one xs x))
      (rw (offers_none key k [], sort_none key) (sym (take-nil k)))

  pub offered_length : (x : A) (kept : List A) → length (offered key k x kept) ≡ min k (suc (length kept))
  unfolding offered
  offered_length x kept = rw (length-take, insert_length)

  pub offered_ascending : (x : A) {kept : List A} → Ascending key kept → Ascending key (offered key k x kept)
  unfolding offered
  offered_ascending x up = ascending_take k (insert_ascending key x up)

  pub offered_mem : (x : A) (kept : List A) {a : A} → Memᴰ a (offered key k x kept) → (a ≡ x) ⊎ Memᴰ a kept
  unfolding offered
  offered_mem x kept m = insert_mem key x kept (rw take-append-drop at (Memᴰ.append_left (drop k (insert key x kept)) m))

  -- a full list stays as it is where what is offered lies behind it
  pub offered_beyond : (x : A) (kept : List A) → length kept ≡ k → ((y : A) → Memᴰ y kept → key y ≤ key x) → offered key k x kept ≡ kept
  unfolding offered
  offered_beyond x kept full low = rw (insert_last key x kept low) (take_at kept (x ∷ []) k full)

  pub offers_beyond : (xs kept : List A) → length kept ≡ k
      → ((x y : A) → Memᴰ x xs → Memᴰ y kept → key y ≤ key x)
      → offers key k xs kept ≡ kept
  offers_beyond [] kept full low = offers_none key k kept
  offers_beyond (x ∷ xs) kept full low =
      rw (offers_next key k x xs kept, offered_beyond x kept full (λ y m. low x y (Memᴰ.head refl) m))
      (offers_beyond xs kept full (λ z y n m. low z y (Memᴰ.tail n) m))

-- an offer to a full list raises no bound on it
pub offered_under : {A : Type 0} (key : A → ℕ) (k bound : ℕ) (x : A) {kept : List A} → Ascending key kept → length kept ≡ k
    → ((y : A) → Memᴰ y kept → key y ≤ bound)
    → {a : A} → Memᴰ a (offered key k x kept) → key a ≤ bound
offered_under {A} key k bound x {kept} up full under {a} m =
    split bound (key x)
    (λ h. under a (rw (offered_beyond key k x kept full (λ y n. omega (arith, under y n))) at m))
    (λ h. new h (offered_mem key k x kept m))
  where
    new : key x ≤ bound → (a ≡ x) ⊎ Memᴰ a kept → key a ≤ bound
    new h (inl e) = omega (arith, ap key e)
    new h (inr n) = under a n

module _ {A B : Type 0} (f : A → B) (key : B → ℕ) (k : ℕ) where
  pub offered_map : (x : A) (kept : List A) → map f (offered (λ a. key (f a)) k x kept) ≡ offered key k (f x) (map f kept)
  unfolding offered
  offered_map x kept = map_take f k (insert (λ a. key (f a)) x kept) ∙ ap (take k) (insert_map f key x kept)

-- the first k of a set are one list
pub first_only_by_set : {A : Type 0} {key : A → ℕ} (k : ℕ) {xs ys : List A} → Distinct key xs → Distinct key ys
    → ((a : A) → Memᴰ a xs → Memᴰ a ys)
    → ((a : A) → Memᴰ a ys → Memᴰ a xs)
    → first_k key k xs ≡ first_k key k ys
unfolding first_k
first_only_by_set k d e there back = ap (take k) (sort_only_by_set d e there back)

-- so the order in which they are offered does not matter
pub offers_any_order : {A : Type 0} {key : A → ℕ} (k : ℕ) {xs ys : List A} → Distinct key xs → Distinct key ys
    → ((a : A) → Memᴰ a xs → Memᴰ a ys)
    → ((a : A) → Memᴰ a ys → Memᴰ a xs)
    → offers key k xs [] ≡ offers key k ys []
offers_any_order {key = key} k {xs} {ys} d e there back = offers_first key k xs ∙ first_only_by_set k d e there back ∙ sym (offers_first key k ys)
