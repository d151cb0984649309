-- How a verdict is come to: by a rule that applies, or past one that does not; and the verdict as a reader says it. Assumes nothing.
use mathlib.Core.Path.{◌≡◌, refl, ◌∙◌}
use mathlib.Core.Bool.{Bool, true, false}
use mathlib.Core.List.{List, [], ◌∷◌, ◌++◌}
use Rattle.std.specs.Prelude.{Option, Some, None}
use Prim.Native.Nat.{ℕ, ◌<◌}
use native.Mathlib.Omega.{arith}
use lib.Dec.{ltb}
use Rattle.std.proofs.lemmas.Bool.Decides.{nat_tests}
use borrow.Author.Tests.{ltb-false}
use Rattle.image.proofs.First.{first_none}
use Rattle.image.proofs.Tests.{cond_none}
use Rattle.image.specs.declared.refusal.Place.{Place}
use Rattle.image.specs.First.{first_below, later_below}
use Rattle.image.specs.Verdict.{Verdict, accepted, refused, Rule, rule, when, at_first, at_pair, judge}

-- ---- in the code: a rule that applies, and one that does not

pub judge_some : (m : ℕ) (f : Option Place) (p : Place) (rules : List Rule) → f ≡ Some p → refused m p ≡ judge (rule m f ∷ rules)
unfolding judge
judge_some m f p rules e = rw e refl

pub judge_none : (m : ℕ) (f : Option Place) (rules : List Rule) → f ≡ None → judge rules ≡ judge (rule m f ∷ rules)
unfolding judge
judge_none m f rules e = rw e refl

-- a rule on the whole, by its test
pub judge_when : (m : ℕ) (b : Bool) (rules : List Rule) → b ≡ true → refused m Place.None ≡ judge (rule m (when b) ∷ rules)
unfolding when
judge_when m b rules e = judge_some m (when b) Place.None rules (rw e refl)

pub judge_unless : (m : ℕ) (b : Bool) (rules : List Rule) → b ≡ false → judge rules ≡ judge (rule m (when b) ∷ rules)
unfolding when
judge_unless m b rules e = judge_none m (when b) rules (rw e refl)

-- past the last rule
pub accepted_none : accepted ≡ judge []
unfolding judge
accepted_none = refl

-- what a function that joins rules needs: these, and what tests on numbers say
pub ruleset verdicts = (judge_some, judge_none, judge_when, judge_unless, accepted_none, nat_tests)

-- the same of a verdict x that is known
module _ (m : ℕ) (rules : List Rule) (x : Verdict) where
  pub hit : (b : Bool) → b ≡ true → x ≡ refused m Place.None → x ≡ judge (rule m (when b) ∷ rules)
  hit b e q = q ∙ judge_when m b rules e

  pub pass : (b : Bool) → b ≡ false → x ≡ judge rules → x ≡ judge (rule m (when b) ∷ rules)
  pass b e q = q ∙ judge_unless m b rules e

-- ---- an accepted verdict: each rule was passed

pub past : (m : ℕ) (f : Option Place) (rules : List Rule) → judge (rule m f ∷ rules) ≡ accepted → (f ≡ None) × (judge rules ≡ accepted)
unfolding judge
past m None rules e = (refl, e)
past m (Some p) rules e = let z : ◌≡◌ {A = ℕ} 0 1 = cc in absurd (omega arith)

pub when_none : (b : Bool) → when b ≡ None → b ≡ false
unfolding when
when_none b e = cond_none b _ e

pub first_passed : (n : ℕ) (p : ℕ → Bool) → at_first n p ≡ None → (i : ℕ) → i < n → p i ≡ false
unfolding at_first
first_passed n p e = first_none n p (ltb-false _ _ (cond_none _ _ e))

pub pair_passed : (n : ℕ) (p : ℕ → ℕ → Bool) → at_pair n p ≡ None → (later earlier : ℕ) → later < n → earlier < later → p later earlier ≡ false
unfolding at_pair later_below
pair_passed n p e later earlier h l =
    first_none later (p later) (ltb-false _ _ (first_none n (λ k. ltb (first_below k (p k)) k) (ltb-false _ _ (cond_none _ _ e)) later h)) earlier l

-- rules behind others: none of those applies, or one does
pub judge_on : (rules more : List Rule) → judge rules ≡ accepted → judge (rules ++ more) ≡ judge more
unfolding judge
judge_on [] more e = refl
judge_on (rule m None ∷ rules) more e = judge_on rules more e
judge_on (rule m (Some p) ∷ rules) more e = let z : ◌≡◌ {A = ℕ} 0 1 = cc in absurd (omega arith)

pub judge_both : (rules more : List Rule) → judge (rules ++ more) ≡ accepted → (judge rules ≡ accepted) × (judge more ≡ accepted)
unfolding judge
judge_both [] more e = (refl, e)
judge_both (rule m None ∷ rules) more e = judge_both rules more e
judge_both (rule m (Some p) ∷ rules) more e = let z : ◌≡◌ {A = ℕ} 0 1 = cc in absurd (omega arith)

pub judge_stops : (rules more : List Rule) (m : ℕ) (p : Place) → judge rules ≡ refused m p → judge (rules ++ more) ≡ refused m p
unfolding judge
judge_stops [] more m p e = let z : ◌≡◌ {A = ℕ} 0 1 = cc in absurd (omega arith)
judge_stops (rule k None ∷ rules) more m p e = judge_stops rules more m p e
judge_stops (rule k (Some q) ∷ rules) more m p e = e
