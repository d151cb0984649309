-- A list in order lies under its last, and what is offered to a running list is kept or changes nothing. Assumes nothing.
use mathlib.Core.Path.{◌≡◌, refl, ap, ◌∙◌}
use mathlib.Core.Logic.{◌⊎◌, inl, inr}
use mathlib.Core.Bool.{Bool, true, false}
use mathlib.Core.List.{List, [], ◌∷◌, Memᴰ}
use Prim.Native.Nat.{ℕ, zero, suc, ◌≤◌}
use native.Mathlib.Omega.{arith}
use lib.Dec.{ltb}
use lib.ListN.{length, get_or, take}
use lib.Seq.{take_all}
use borrow.Author.Tests.{ltb-true, ltb-false}
use Rattle.ranking.specs.Order.{Ascending}
use Rattle.ranking.specs.Sort.{insert}
use Rattle.ranking.specs.First.{offered}
use Rattle.ranking.proofs.Insert.{insert_before, insert_after}
use Rattle.ranking.proofs.Places.{mem_get_or}

module _ {A : Type 0} {key : A → ℕ} where
  -- none of a list in order exceeds its last
  pub under_last : {xs : List A} {a : A} (i : ℕ) (d : A) → Ascending key xs → length xs ≡ suc i → Memᴰ a xs → key a ≤ key (get_or xs i d)
  under_last {a = a} zero d Ascending.none l x8 = elim x8 [ ]
  under_last zero d (Ascending.next low up) l (Memᴰ.head e) = rw e (omega arith)
  under_last {a = a} zero d (Ascending.next {xs = []} low up) l (Memᴰ.tail m) = elim m [ ]
  under_last zero d (Ascending.next {xs = x ∷ xs} low up) l (Memᴰ.tail m) = absurd (omega arith)
  under_last {a = a} (suc i) d Ascending.none l x9 = elim x9 [ ]
  under_last (suc i) d (Ascending.next {xs = xs} low up) l (Memᴰ.head e) = rw e (low (get_or xs i d) (mem_get_or xs i d (omega arith)))
  under_last (suc i) d (Ascending.next {xs = xs} low up) l (Memᴰ.tail m) = under_last {xs = xs} i d up (omega arith) m

module _ {A : Type 0} (key : A → ℕ) where
  -- of the first k of a list into which x was put, x is one, or they are what they were
  front_new : (k : ℕ) (x : A) (ys : List A) → Memᴰ x (take k (insert key x ys)) ⊎ (take k (insert key x ys) ≡ take k ys)
  unfolding insert
  front_new zero x ys = inr refl
  front_new (suc k) x [] = inl (Memᴰ.head refl)
  front_new (suc k) x (y ∷ ys) = go (ltb (key x) (key y)) refl (front_new k x ys)
    where
      later : Memᴰ x (take k (insert key x ys)) ⊎ (take k (insert key x ys) ≡ take k ys)
          → Memᴰ x (y ∷ take k (insert key x ys)) ⊎ (◌≡◌ {A = List A} (y ∷ take k (insert key x ys)) (y ∷ take k ys))
      later (inl m) = inl (Memᴰ.tail m)
      later (inr e) = inr (ap (λ (zs : List A). y ∷ zs) e)

      go : (t : Bool) → ltb (key x) (key y) ≡ t → Memᴰ x (take k (insert key x ys)) ⊎ (take k (insert key x ys) ≡ take k ys)
          → Memᴰ x (take (suc k) (insert key x (y ∷ ys))) ⊎ (take (suc k) (insert key x (y ∷ ys)) ≡ take (suc k) (y ∷ ys))
      go true t r = rw (insert_before key x y ys (ltb-true (key x) (key y) t)) (inl (Memᴰ.head refl))
      go false t r = rw (insert_after key x y ys (ltb-false (key x) (key y) t)) (later r)

  -- what is offered is kept, or changes nothing
  pub offered_new : (k : ℕ) (x : A) (kept : List A) → length kept ≤ k → Memᴰ x (offered key k x kept) ⊎ (offered key k x kept ≡ kept)
  unfolding offered
  offered_new k x kept h = go (front_new k x kept)
    where
      go : Memᴰ x (take k (insert key x kept)) ⊎ (take k (insert key x kept) ≡ take k kept)
          → Memᴰ x (take k (insert key x kept)) ⊎ (take k (insert key x kept) ≡ kept)
      go (inl m) = inl m
      go (inr e) = inr (e ∙ take_all k kept h)
