-- On an accepted library a search that is asked as it should be is not refused, and hands back what document 01 says. Assumes nothing.
use Rattle.image.proofs.Answers.{given_ok}
use Rattle.std.specs.Prelude.{Ok}
use Rattle.search.specs.Answer.{counted, Served, Gathered, outcome}
use mathlib.Core.Path.{◌≡◌, refl, sym, ◌∙◌}
use mathlib.Core.Logic.{◌⊎◌, inl, inr}
use mathlib.Core.Bool.{false, not, ◌||◌}
use mathlib.Core.List.{List}
use Prim.Native.Nat.{ℕ, ◌*◌, ◌%◌, ◌≤◌, min}
use native.Mathlib.Omega.{arith}
use lib.Dec.{eqb}
use lib.IntN.{ℤ}
use lib.ListN.{length}
use Rattle.image.specs.Fields.{wells_of, count_of}
use Rattle.image.specs.Library.{Library}
use Rattle.image.specs.Verdict.{accepted, judge}
use Rattle.image.proofs.Tests.{told_false, tells_or}
use Rattle.image.proofs.Verdicts.{pass}
use Rattle.checker.specs.Tests.{outside}
use Rattle.checker.proofs.Table.{tells_outside, tells_other}
use Rattle.search.specs.Ranked.{plates_in}
use Rattle.search.specs.Rules.{plate_rules, sitting_rules, within_rules}
use Rattle.search.specs.Calls.{sat, sitting_of, SittingGives, around, within_of, WithinGives}
use Rattle.search.proofs.Outcomes.{image_accepted, long_enough, plate_fits}
use Rattle.claims.specs.Demand2.{SittingFits}
use Rattle.claims.proofs.Parts.{told_is}

-- ---- no rule applies

module _ {image : List ℕ} (library : Library image) where
  -- the sitting: not 14 and not 15, and not 16
  module _ (plates : List ℤ) (k : ℕ) (whole : (not (eqb (length plates % wells_of image) 0) || outside 1 64 (plates_in image plates)) ≡ false)
      (some : outside 1 32 k ≡ false) (codes distances : List ℕ) (h : plates_in image plates * k ≤ length codes) (l : plates_in image plates * k ≤ length distances) where
    sitting_passes : judge (sitting_rules image (length plates) k (length codes) (length distances)) ≡ accepted
    unfolding sitting_rules plate_rules
    sitting_passes = image_accepted library _ ∙ sym (pass _ _ _ _ whole (pass _ _ _ _ some refl)) ∙ long_enough _ _ _ h l

    pub sits : sitting_of image plates k codes distances ≡ sat image plates k codes distances
    unfolding sitting_of outcome
    sits = rw sitting_passes refl

  -- within a radius: not 14 and not 16
  module _ (radius : ℕ) (plate : List ℤ) (fits : length plate ≡ wells_of image) (codes distances : List ℕ)
      (h : count_of image ≤ length codes) (l : count_of image ≤ length distances) where
    within_passes : judge (within_rules image (length plate) (length codes) (length distances)) ≡ accepted
    unfolding within_rules
    within_passes = image_accepted library _ ∙ plate_fits _ _ _ _ fits ∙ long_enough _ _ _ h l

    pub gathers : within_of image plate radius codes distances ≡ around image plate radius codes distances
    unfolding within_of outcome
    gathers = rw within_passes refl

-- ---- so the answer is no refusal

either : {A B : Type 0} → (A → ⊥) → (B → ⊥) → A ⊎ B → ⊥
either f g (inl a) = f a
either f g (inr b) = g b

pub served : (image : List ℕ) (plates : List ℤ) (k : ℕ) (codes distances : List ℕ) (r : Served) (codes' distances' : List ℕ) → Library image
    → SittingFits image plates k codes distances → SittingGives image plates k codes distances r codes' distances' → r ≡ Ok (min k (count_of image))
served image plates k codes distances r codes' distances' l f e =
    let whole =
    told_false (tells_or (tells_other (length plates % wells_of image) 0) (tells_outside 1 64 (plates_in image plates)))
    (either (λ u. u f.whole) (either (λ u. omega (arith, u, f.some_plates)) (λ u. omega (arith, u, f.most_plates)))) in
    let some = told_false (tells_outside 1 32 k) (either (λ u. omega (arith, u, f.some)) (λ u. omega (arith, u, f.most))) in
    given_ok r (told_is (e ∙ sits l plates k whole some codes distances f.codes_room f.distances_room))

pub gathered : (image : List ℕ) (plate : List ℤ) (radius : ℕ) (codes distances : List ℕ) (r : Gathered) (codes' distances' : List ℕ) → Library image
    → length plate ≡ wells_of image → count_of image ≤ length codes → count_of image ≤ length distances
    → WithinGives image plate radius codes distances r codes' distances' → (n : ℕ) × (m : ℕ) × (r ≡ counted n m)
gathered image plate radius codes distances r codes' distances' l fits room room' e =
    (_, _, given_ok r (told_is (e ∙ gathers l radius plate fits codes distances room room')))
