-- What a search hands back, from its verdict, and how its verdict comes about. Assumes nothing.
use mathlib.Core.Path.{◌≡◌, refl, sym}
use mathlib.Core.Logic.{◌≢◌, ◌⊎◌, inl, inr}
use mathlib.Core.Bool.{◌||◌}
use mathlib.Core.List.{List, ◌++◌}
use Prim.Native.Nat.{ℕ, ◌≤◌, ◌<◌, min}
use native.Mathlib.Omega.{arith}
use lib.Dec.{ltb}
use lib.IntN.{ℤ}
use Rattle.ranking.proofs.Insert.{split}
use Rattle.image.specs.declared.refusal.Place.{Place}
use Rattle.image.specs.declared.refusal.Refusal.{Refusal}
use Rattle.image.specs.Fields.{wells_of, count_of}
use Rattle.image.specs.Library.{Library}
use Rattle.image.specs.Refusals.{number_of, place_of}
use Rattle.image.specs.Verdict.{Verdict, accepted, refused, Rule, judge}
use Rattle.image.proofs.Tests.{Tells, told_true, told_false, tells_or, tells_lt}
use Rattle.image.proofs.Verdicts.{hit, pass, accepted_none, judge_on, judge_stops}
use Rattle.checker.specs.Check.{check_rules, check_of}
use Rattle.checker.proofs.Table.{tells_other}
use Rattle.checker.proofs.Accepted.{accepted_exactly}
use Rattle.image.specs.Answer.{given, denied}
use Rattle.search.specs.Answer.{Outcome, outcome, handed}
use Rattle.search.specs.Rules.{slice_rules, radius_rules}
use Rattle.search.specs.Calls.{around}
use Rattle.search.specs.Steps.{Lists}
use Rattle.search.specs.declared.Tally.{Tally}

module _ {Told : Type 0} (v : Verdict) (good : Outcome Told) (codes distances : List ℕ) where
  -- refused, all is as it was
  pub when_refused : (r : Refusal) → v ≡ refused (number_of r) (place_of r)
      → handed (denied (number_of r) (place_of r)) codes distances ≡ outcome v good codes distances
  unfolding outcome
  when_refused r e = rw e refl

  -- else it is what the search gives
  pub when_given : {o : Outcome Told} → v ≡ accepted → o ≡ good → o ≡ outcome v good codes distances
  unfolding outcome
  when_given e h = rw e h

  -- rules that were passed before
  pub after_rules : (v' : Verdict) {o : Outcome Told} → o ≡ outcome v good codes distances → v' ≡ v → o ≡ outcome v' good codes distances
  after_rules v' h e = rw e h

-- an answer that tells something was not refused, and what was handed back is what the search gives
pub granted : {Told : Type 0} (v : Verdict) (good : Outcome Told) (codes distances : List ℕ) (t : Told) → (outcome v good codes distances).answer ≡ given t
    → (v ≡ accepted) × (outcome v good codes distances ≡ good)
unfolding outcome
granted accepted good codes distances t e = (refl, refl)
granted (refused m p) good codes distances t e = let z : ◌≡◌ {A = ℕ} 0 1 = cc in absurd (omega arith)

-- ---- the check comes first, and then a search's own rules

pub image_refused : (xs : List ℕ) (rules : List Rule) (r : Refusal) → refused (number_of r) (place_of r) ≡ check_of xs
    → judge (check_rules xs ++ rules) ≡ refused (number_of r) (place_of r)
unfolding check_of
image_refused xs rules r e = judge_stops (check_rules xs) rules _ _ (sym e)

pub image_accepted : {xs : List ℕ} → Library xs → (rules : List Rule) → judge (check_rules xs ++ rules) ≡ judge rules
unfolding check_of
image_accepted {xs} l rules = judge_on (check_rules xs) rules ((accepted_exactly xs).1 l)

-- ---- rule 16: either slice has fewer places than are needed

module _ (needed codes distances : ℕ) where
  tells_short : Tells (ltb codes needed || ltb distances needed) ((codes < needed) ⊎ (distances < needed))
  tells_short = tells_or (tells_lt codes needed) (tells_lt distances needed)

  pub long_enough : needed ≤ codes → needed ≤ distances → judge (slice_rules needed codes distances) ≡ accepted
  unfolding slice_rules
  long_enough h l = sym (pass _ _ _ _ (told_false tells_short neither) accepted_none)
    where
      neither : (codes < needed) ⊎ (distances < needed) → ⊥
      neither (inl u) = omega arith
      neither (inr u) = omega arith

  pub too_short : min codes distances < needed → judge (slice_rules needed codes distances) ≡ refused 16 Place.None
  unfolding slice_rules
  too_short h = sym (hit _ _ _ _ (told_true tells_short either) refl)
    where
      either : (codes < needed) ⊎ (distances < needed)
      either = split codes needed inl (λ l. inr (omega arith))

-- ---- within a radius, rule 14: the plate has not as many values as the library has wells

module _ (xs : List ℕ) (values codes distances : ℕ) where
  pub plate_unfit : values ≢ wells_of xs → judge (radius_rules xs values codes distances) ≡ refused 14 Place.None
  unfolding radius_rules
  plate_unfit ne = sym (hit _ _ _ _ (told_true (tells_other _ _) ne) refl)

  pub plate_fits : values ≡ wells_of xs → judge (radius_rules xs values codes distances) ≡ judge (slice_rules (count_of xs) codes distances)
  unfolding radius_rules
  plate_fits e = sym (pass _ _ _ _ (told_false (tells_other _ _) (λ ne. ne e)) refl)

-- no rule applies: what was listed and counted is what the search gives
pub around_given : {xs : List ℕ} {plate : List ℤ} {radius : ℕ} {codes distances codes' distances' : List ℕ} {tally : Tally}
    → Lists xs plate radius codes distances codes' distances' tally
    → handed (given (record { strains = tally.strains; measured = tally.measured })) codes' distances' ≡ around xs plate radius codes distances
around_given l = λ i. record {
  answer = given (record { strains = l.strains i; measured = l.measured i });
  codes = l.is_codes i;
  distances = l.is_distances i;
}
