-- Rules 14 to 16 of the sitting, as its code tries them. Assumes nothing.
use mathlib.Core.Path.{◌≡◌, refl, sym, ◌∙◌}
use mathlib.Core.Bool.{Bool, true, false, not, ◌||◌}
use mathlib.Core.List.{List}
use Prim.Native.Nat.{ℕ, ◌*◌, ◌/◌, ◌%◌, ◌≤◌, ◌<◌, min}
use lib.Dec.{eqb}
use lib.IntN.{ℤ}
use Rattle.image.specs.declared.refusal.Place.{Place}
use Rattle.image.specs.Fields.{wells_of, count_of}
use Rattle.image.specs.Verdict.{accepted, refused, judge}
use Rattle.image.proofs.Verdicts.{hit, pass}
use Rattle.checker.specs.Tests.{outside}
use Rattle.image.specs.Answer.{given}
use Rattle.search.specs.Answer.{handed}
use Rattle.search.specs.Rules.{slice_rules, plate_rules}
use Rattle.search.specs.Calls.{code_in, distance_in, served, sat}
use Rattle.search.proofs.Outcomes.{too_short, long_enough}

module _ (xs : List ℕ) (values k codes distances : ℕ) where
  -- rule 14, and past it
  module _ {wells : ℕ} {far : Bool} (is_wells : wells ≡ wells_of xs) (is_far : far ≡ outside 1 64 (values / wells)) where
    same_test : (not (eqb (values % wells) 0) || far) ≡ (not (eqb (values % wells_of xs) 0) || outside 1 64 (values / wells_of xs))
    same_test = rw (is_far, is_wells) refl

    pub plates_unfit : (not (eqb (values % wells) 0) || far) ≡ true → judge (plate_rules xs values k codes distances) ≡ refused 14 Place.None
    unfolding plate_rules
    plates_unfit e = sym (hit _ _ _ _ (sym same_test ∙ e) refl)

    module _ (fit : (not (eqb (values % wells) 0) || far) ≡ false) where
      -- rule 15, and past it
      module _ {off : Bool} (is_off : off ≡ outside 1 32 k) where
        pub neighbours_unfit : off ≡ true → judge (plate_rules xs values k codes distances) ≡ refused 15 Place.None
        unfolding plate_rules
        neighbours_unfit e = sym (pass _ _ _ _ (sym same_test ∙ fit) (hit _ _ _ _ (sym is_off ∙ e) refl))

        module _ (few : off ≡ false) where
          -- rule 16, and past it
          to_room : judge (plate_rules xs values k codes distances) ≡ judge (slice_rules (values / wells_of xs * k) codes distances)
          unfolding plate_rules
          to_room = sym (pass _ _ _ _ (sym same_test ∙ fit) (pass _ _ _ _ (sym is_off ∙ few) refl))

          pub room_unfit : min codes distances < values / wells_of xs * k → judge (plate_rules xs values k codes distances) ≡ refused 16 Place.None
          room_unfit h = to_room ∙ too_short (values / wells_of xs * k) codes distances h

          pub all_passed : values / wells_of xs * k ≤ codes → values / wells_of xs * k ≤ distances → judge (plate_rules xs values k codes distances) ≡ accepted
          all_passed h l = to_room ∙ long_enough (values / wells_of xs * k) codes distances h l

-- no rule applies: what was served is what the sitting gives
pub sat_given : (xs : List ℕ) (plates : List ℤ) (k : ℕ) {n : ℕ} (codes distances : List ℕ) {codes' distances' : List ℕ} → n ≡ min k (count_of xs)
    → codes' ≡ served xs plates k code_in codes → distances' ≡ served xs plates k distance_in distances
    → handed (given n) codes' distances' ≡ sat xs plates k codes distances
sat_given xs plates k codes distances e c d = λ i. record { answer = given (e i); codes = c i; distances = d i }
