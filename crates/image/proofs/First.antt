-- The first record and the first pair: what a loop that looks for them shows, and what the answer tells. Assumes nothing.
use mathlib.Core.Path.{◌≡◌, refl, sym, subst}
use mathlib.Core.Logic.{⊎_elim}
use mathlib.Core.Bool.{Bool, true, false, cond}
use Prim.Native.Nat.{ℕ, zero, suc, ◌+◌, ◌≤◌, ◌<◌}
use native.Mathlib.Nat.{eq-or-lt_of_le}
use native.Mathlib.Omega.{arith}
use lib.Dec.{ltb}
use borrow.Author.Tests.{ltb-true, ltb-false}
use Rattle.image.specs.First.{first_from, first_below, later_below, First, FirstPair}
use Rattle.image.proofs.Tests.{Tells, told_true, told_false}

from_is : (f i k : ℕ) (p : ℕ → Bool) → i ≤ k → k ≤ i + f → ((j : ℕ) → i ≤ j → j < k → p j ≡ false) → (k < i + f → p k ≡ true) → first_from f i p ≡ k
unfolding first_from
from_is zero i k p a b before hit = omega arith
from_is (suc f) i k p a b before hit =
    ⊎_elim
    (λ e. let h : p i ≡ true = subst (λ (x : ℕ). p x ≡ true) (sym e) (hit (omega arith)) in simp h e)
    (λ l.
    let h : p i ≡ false = before i (omega arith) l in
    simp h (from_is f (suc i) k p l (omega arith) (λ j u v. before j (omega arith) v) (λ v. hit (omega arith))))
    (eq-or-lt_of_le a)

-- none before k, and k is one if it is below n: then k is the answer
pub first_is : (n : ℕ) (p : ℕ → Bool) (k : ℕ) → k ≤ n → ((j : ℕ) → j < k → p j ≡ false) → (k < n → p k ≡ true) → first_below n p ≡ k
unfolding first_below
first_is n p k a before hit = from_is n 0 k p (omega arith) (omega arith) (λ j u v. before j v) (λ v. hit (omega arith))

-- what the answer tells
pub record Told (from end : ℕ) (p : ℕ → Bool) (k : ℕ) : Type 0 where
  pub within : k ≤ end
  pub none : (j : ℕ) → from ≤ j → j < k → p j ≡ false
  pub hit : k < end → p k ≡ true

from_told : (f i : ℕ) (p : ℕ → Bool) → Told i (i + f) p (first_from f i p)
unfolding first_from
from_told zero i p = record { within = omega arith; none = λ j a b. absurd (omega arith); hit = λ l. absurd (omega arith) }
from_told (suc f) i p = by (p i) refl (from_told f (suc i) p)
  where
    by : (b : Bool) → p i ≡ b → Told (suc i) (suc i + f) p (first_from f (suc i) p) → Told i (i + suc f) p (cond (p i) i (first_from f (suc i) p))
    by true e t = rw e (record { within = omega arith; none = λ j a b. absurd (omega arith); hit = λ l. e })
    by false e t = rw e (record {
      within = omega (arith, t.within);
      none = λ j a b. ⊎_elim (λ (q : i ≡ j). subst (λ (x : ℕ). p x ≡ false) q e) (λ (l : i < j). t.none j l b) (eq-or-lt_of_le a);
      hit = λ l. t.hit (omega arith);
    })

pub first_told : (n : ℕ) (p : ℕ → Bool) → Told 0 n p (first_below n p)
unfolding first_below
first_told n p = subst (λ (m : ℕ). Told 0 m p (first_from n 0 p)) (omega arith) (from_told n 0 p)

-- where the answer is n, none is one
pub first_none : (n : ℕ) (p : ℕ → Bool) → n ≤ first_below n p → (j : ℕ) → j < n → p j ≡ false
first_none n p l j h = (first_told n p).none j (omega arith) (omega arith)

-- ---- a loop's two ways out

pub found : {n i : ℕ} {p : ℕ → Bool} → i < n → ((j : ℕ) → j < i → p j ≡ false) → p i ≡ true → i ≡ first_below n p
found {n} {i} {p} l before hit = sym (first_is n p i (omega arith) before (λ u. hit))

pub none_found : {n i : ℕ} {p : ℕ → Bool} → n ≤ i → ((j : ℕ) → j < i → p j ≡ false) → n ≡ first_below n p
none_found {n} {i} {p} l before = sym (first_is n p n (omega arith) (λ j u. before j (omega arith)) (λ u. absurd (omega arith)))

-- ---- as a reader says it

module _ {p : ℕ → Bool} {P : ℕ → Type 0} (tells : (i : ℕ) → Tells (p i) (P i)) (n : ℕ) where
  pub first_of_lem : first_below n p < n → First n P (first_below n p)
  first_of_lem h =
      let t = first_told n p in
      record { below = h; holds = (tells _).yes (t.hit h); none = λ k l. (tells k).no (t.none k (omega arith) l) }

  pub first_only : (i : ℕ) → First n P i → first_below n p ≡ i
  first_only i f = first_is n p i (omega (arith, f.below)) (λ j h. told_false (tells j) (f.none j h)) (λ h. told_true (tells i) f.holds)

module _ {p : ℕ → ℕ → Bool} {P : ℕ → ℕ → Type 0} (tells : (l e : ℕ) → Tells (p l e) (P l e)) where
  -- whether a number has an earlier one with it
  pub has_earlier : (l : ℕ) → Tells (ltb (first_below l (p l)) l) ((e : ℕ) × (e < l) × P l e)
  has_earlier l = record {
    yes = λ h. let f = first_of_lem (tells l) l (ltb-true _ _ h) in (first_below l (p l), f.below, f.holds);
    no = λ h s. (tells l s.0).no (first_none l (p l) (ltb-false _ _ h) s.0 s.1) s.2;
  }

  pub pair_of : (n : ℕ) → later_below n p < n → FirstPair n P (first_below (later_below n p) (p (later_below n p))) (later_below n p)
  unfolding later_below
  pair_of n h =
      let f = first_of_lem has_earlier n h in
      record { is_later = f; is_earlier = first_of_lem (tells (later_below n p)) (later_below n p) (ltb-true _ _ (told_true (has_earlier (later_below n p)) f.holds)) }

  pub pair_only : (n e l : ℕ) → FirstPair n P e l → (later_below n p ≡ l) × (first_below l (p l) ≡ e)
  unfolding later_below
  pair_only n e l f = (first_only has_earlier n l f.is_later, first_only (tells l) l e f.is_earlier)
