-- A test tells whether something holds: it is true where that holds, and false where it does not. Assumes nothing.
use mathlib.Core.Path.{◌≡◌, refl, sym}
use mathlib.Core.Logic.{◌⊎◌, inl, inr, ⊎_elim}
use Rattle.std.specs.Prelude.{Some, None}
use mathlib.Core.Bool.{Bool, true, false, cond, not, ◌||◌, ◌&&◌, true≢false}
use Prim.Native.Nat.{ℕ, ◌≤◌, ◌<◌}
use native.Mathlib.Omega.{arith}
use lib.Dec.{ltb, leb, eqb}
use borrow.Author.Tests.{ltb-true, ltb-false, leb-true, leb-false, eqb-true, eqb-false}

pub record Tells (b : Bool) (P : Type 0) : Type 0 where
  pub yes : b ≡ true → P
  pub no : b ≡ false → P → ⊥

module _ {b : Bool} {P : Type 0} (t : Tells b P) where
  pub told_true : P → b ≡ true
  told_true p = go b refl
    where
      go : (c : Bool) → b ≡ c → b ≡ true
      go true e = e
      go false e = absurd (t.no e p)

  pub told_false : (P → ⊥) → b ≡ false
  told_false f = go b refl
    where
      go : (c : Bool) → b ≡ c → b ≡ false
      go true e = absurd (f (t.yes e))
      go false e = e

  pub tells_not : Tells (not b) (P → ⊥)
  tells_not = record { yes = λ e. t.no (flip b e); no = λ e f. f (t.yes (flop b e)) }
    where
      flip : (c : Bool) → not c ≡ true → c ≡ false
      flip true e = sym e
      flip false e = refl

      flop : (c : Bool) → not c ≡ false → c ≡ true
      flop true e = refl
      flop false e = sym e

pub tells_or : {b c : Bool} {P Q : Type 0} → Tells b P → Tells c Q → Tells (b || c) (P ⊎ Q)
tells_or {b = true} t u = record { yes = λ e. inl (t.yes refl); no = λ e s. true≢false e }
tells_or {b = false} t u = record { yes = λ e. inr (u.yes e); no = λ e s. ⊎_elim (t.no refl) (u.no e) s }

pub tells_and : {b c : Bool} {P Q : Type 0} → Tells b P → Tells c Q → Tells (b && c) (P × Q)
tells_and {b = true} t u = record { yes = λ e. (t.yes refl, u.yes e); no = λ e s. u.no e s.1 }
tells_and {b = false} t u = record { yes = λ e. absurd (true≢false (sym e)); no = λ e s. t.no refl s.0 }

pub tells_lt : (a b : ℕ) → Tells (ltb a b) (a < b)
tells_lt a b = record { yes = ltb-true a b; no = λ e h. absurd (omega (arith, ltb-false a b e)) }

pub tells_le : (a b : ℕ) → Tells (leb a b) (a ≤ b)
tells_le a b = record { yes = leb-true a b; no = λ e h. absurd (omega (arith, leb-false a b e)) }

pub tells_eq : (a b : ℕ) → Tells (eqb a b) (a ≡ b)
tells_eq a b = record { yes = eqb-true a b; no = eqb-false a b }

-- a value that is there where a test is true
pub cond_none : {X : Type 0} (b : Bool) (x : X) → cond b (Some x) None ≡ None → b ≡ false
cond_none true x e = cc
cond_none false x e = refl

pub cond_some : {X : Type 0} (b : Bool) (x y : X) → cond b (Some x) None ≡ Some y → (b ≡ true) × (x ≡ y)
cond_some true x y e = (refl, cc)
cond_some false x y e = cc
