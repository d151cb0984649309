-- The parent of a new strain: the nearest record that can take it, with the lowest code on a tie. Assumes nothing.
use mathlib.Core.Path.{◌≡◌, refl, sym, ◌∙◌}
use mathlib.Core.Logic.{◌⊎◌, inl, inr, ⊎_elim}
use mathlib.Core.Bool.{Bool, true, false, cond, ◌&&◌, true≢false}
use mathlib.Core.List.{List}
use Prim.Native.Nat.{ℕ, zero, suc, ◌≤◌, ◌<◌}
use native.Mathlib.Nat.{lt_of_not-le}
use native.Mathlib.Decide.{ℕ_discrete, dec_le}
use native.Mathlib.Omega.{arith}
use lib.IntN.{ℤ}
use Rattle.image.proofs.Tests.{Tells, told_false, tells_or, tells_and, tells_lt, tells_eq}
use Rattle.content.specs.Content.{Kept}
use Rattle.content.specs.Adding.{distance_to, near_enough, nearer, taker_below}

module _ (metric : ℕ) (x : List ℤ) where
  -- as a reader says it
  abbrev pub Nearer : Kept → Kept → Type 0
  Nearer r s = (distance_to metric x r < distance_to metric x s) ⊎ ((distance_to metric x r ≡ distance_to metric x s) × (r.strain.code < s.strain.code))

  pub tells_nearer : (r s : Kept) → Tells (nearer metric x r s) (Nearer r s)
  unfolding nearer
  tells_nearer r s = tells_or (tells_lt _ _) (tells_and (tells_eq _ _) (tells_lt _ _))

  -- what is not nearer is at least as far
  pub as_far : (r s : Kept) → nearer metric x r s ≡ false → distance_to metric x s ≤ distance_to metric x r
  as_far r s e = by (dec_le (distance_to metric x s) (distance_to metric x r))
    where
      by : Dec (distance_to metric x s ≤ distance_to metric x r) → distance_to metric x s ≤ distance_to metric x r
      by (yes h) = h
      by (no f) = absurd ((tells_nearer r s).no e (inl (lt_of_not-le f)))

  not_itself : (r : Kept) → nearer metric x r r ≡ false
  not_itself r = told_false (tells_nearer r r) (⊎_elim (λ (h : distance_to metric x r < distance_to metric x r). absurd (omega arith)) (λ h. absurd (omega (arith, h.1))))

  -- what is not nearer than s is not nearer than what is nearer than s
  not_over : (r s t : Kept) → nearer metric x r s ≡ false → nearer metric x t s ≡ true → nearer metric x r t ≡ false
  not_over r s t e f = told_false (tells_nearer r t) (λ h. (tells_nearer r s).no e (on h ((tells_nearer t s).yes f)))
    where
      on : Nearer r t → Nearer t s → Nearer r s
      on (inl h) (inl k) = inl (omega arith)
      on (inl h) (inr k) = inl (omega (arith, k.0))
      on (inr h) (inl k) = inl (omega (arith, h.0))
      on (inr h) (inr k) = inr (h.0 ∙ k.0, omega (arith, h.1, k.1))

  -- v is a record that can take x, and no record that can is nearer
  pub record Taker (root : ℕ) (at : ℕ → Kept) (n v : ℕ) : Type 0 where
    pub can : (v ≡ root) ⊎ ((v < n) × (near_enough metric x (at v) ≡ true))
    pub first : (u : ℕ) → (u ≡ root) ⊎ ((u < n) × (near_enough metric x (at u) ≡ true)) → nearer metric x (at u) (at v) ≡ false

  module _ (root : ℕ) (at : ℕ → Kept) where
    -- a record more that can, and is nearer
    taken : (n best : ℕ) → Taker root at n best → near_enough metric x (at n) ≡ true → nearer metric x (at n) (at best) ≡ true → Taker root at (suc n) n
    taken n best t e f = record { can = inr (omega arith, e); first = λ u h. by u (ℕ_discrete u n) h }
      where
        by : (u : ℕ) → Dec (u ≡ n) → (u ≡ root) ⊎ ((u < suc n) × (near_enough metric x (at u) ≡ true)) → nearer metric x (at u) (at n) ≡ false
        by u (yes q) h = rw q (not_itself (at n))
        by u (no ne) (inl q) = not_over (at u) (at best) (at n) (t.first u (inl q)) f
        by u (no ne) (inr h) = not_over (at u) (at best) (at n) (t.first u (inr (omega (arith, ne, h.0), h.1))) f

    -- a record more that cannot, or is not nearer
    left : (n best : ℕ) → Taker root at n best → (near_enough metric x (at n) ≡ true → nearer metric x (at n) (at best) ≡ false) → Taker root at (suc n) best
    left n best t f = record { can = ⊎_elim inl (λ h. inr (omega (arith, h.0), h.1)) t.can; first = λ u h. by u (ℕ_discrete u n) h }
      where
        by : (u : ℕ) → Dec (u ≡ n) → (u ≡ root) ⊎ ((u < suc n) × (near_enough metric x (at u) ≡ true)) → nearer metric x (at u) (at best) ≡ false
        by u d (inl q) = t.first u (inl q)
        by u (yes q) (inr h) = rw q (f (rw q at h).1)
        by u (no ne) (inr h) = t.first u (inr (omega (arith, ne, h.0), h.1))

    next : (n best : ℕ) → Taker root at n best → (b c : Bool) → near_enough metric x (at n) ≡ b → nearer metric x (at n) (at best) ≡ c
        → Taker root at (suc n) (cond (b && c) n best)
    next n best t true true e f = taken n best t e f
    next n best t true false e f = left n best t (λ _. f)
    next n best t false c e f = left n best t (λ q. absurd (true≢false (sym q ∙ e)))

    pub taker_is : (n : ℕ) → Taker root at n (taker_below metric x root at n)
    unfolding taker_below
    taker_is zero = record { can = inl refl; first = λ u h. by u h }
      where
        by : (u : ℕ) → (u ≡ root) ⊎ ((u < 0) × (near_enough metric x (at u) ≡ true)) → nearer metric x (at u) (at root) ≡ false
        by u (inl q) = rw q (not_itself (at root))
        by u (inr h) = absurd (omega (arith, h.0))
    taker_is (suc n) = next n _ (taker_is n) _ _ refl refl
