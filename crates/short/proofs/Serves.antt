-- The short call over an accepted library: rules 14 and 16, and then a sitting of one plate. Assumes nothing.
use mathlib.Core.Path.{◌≡◌, refl, sym, ◌∙◌, ap}
use mathlib.Core.Logic.{◌≢◌}
use mathlib.Core.List.{List, [], ◌∷◌, ◌++◌, append-nil}
use Prim.Native.Nat.{ℕ, ◌+◌, ◌*◌, ◌/◌, ◌≤◌, ◌<◌}
use native.Mathlib.Nat.{div_self, mod_self, zero-mul}
use native.Mathlib.Omega.{arith}
use lib.Dec.{ltb}
use lib.IntN.{ℤ}
use Rattle.std.specs.Prelude.{min}
use lib.ListN.{length, drop, drop_of_length-le}
use lib.Seq.{sets, sets-eq, take_all}
use borrow.Author.Tests.{lt-ltb, le-ltb}
use Rattle.ranking.specs.Found.{Found}
use Rattle.image.specs.declared.refusal.Place.{Place}
use Rattle.image.specs.Fields.{wells_of, count_of}
use Rattle.image.specs.Library.{Library}
use Rattle.image.specs.Verdict.{accepted, refused, rule, when, judge}
use Rattle.image.specs.Answer as image
use Rattle.image.proofs.Tests.{told_true, told_false}
use Rattle.image.proofs.Verdicts.{hit, pass, accepted_none}
use Rattle.checker.proofs.Table.{tells_other}
use Rattle.search.specs.Answer.{outcome, handed}
use Rattle.search.specs.Rules as sitting
use Rattle.search.specs.Ranked.{nearest, plate_at, places, rows}
use Rattle.search.specs.Calls.{code_in, distance_in, served, sat}
use Rattle.search.proofs.Outcomes.{long_enough}
use Rattle.short.specs.Short.{plate_rules, by_turns, five_of}
use Rattle.short.proofs.Turns.{turns_all}

module _ (xs : List ℕ) (plate out : ℕ) where
  pub plate_unfit : plate ≢ 2 * wells_of xs → judge (plate_rules xs plate out) ≡ refused 14 Place.None
  unfolding plate_rules
  plate_unfit ne = sym (hit _ _ _ _ (told_true (tells_other _ _) ne) refl)

  module _ (fits : plate ≡ 2 * wells_of xs) where
    to_room : judge (plate_rules xs plate out) ≡ judge (rule 16 (when (ltb out 40)) ∷ [])
    unfolding plate_rules
    to_room = sym (pass _ _ _ _ (told_false (tells_other _ _) (λ ne. ne fits)) refl)

    pub room_unfit : out < 40 → judge (plate_rules xs plate out) ≡ refused 16 Place.None
    room_unfit h = to_room ∙ sym (hit _ _ _ _ (lt-ltb _ _ h) refl)

    pub both_fit : 40 ≤ out → judge (plate_rules xs plate out) ≡ accepted
    both_fit h = to_room ∙ sym (pass _ _ _ _ (le-ltb _ _ h) accepted_none)

-- ---- a sitting of one plate, with five neighbours, in slices of five places
module _ {xs : List ℕ} (l : Library xs) (values : List ℤ) (fits : length values ≡ wells_of xs) where
  one_plate : length values / wells_of xs ≡ 1
  one_plate = ap (λ (n : ℕ). n / wells_of xs) fits ∙ div_self (omega (arith, l.layout.wells.0))

  is_seated : (codes distances : ℕ) → 5 ≤ codes → 5 ≤ distances → judge (sitting.plate_rules xs (length values) 5 codes distances) ≡ accepted
  unfolding sitting.plate_rules
  is_seated codes distances h k =
      sym (pass _ _ _ _ (rw (one_plate, fits, mod_self (wells_of xs)) refl) (pass _ _ _ _ refl refl))
      ∙ long_enough _ codes distances (rw one_plate h) (rw one_plate k)

  all_of_it : plate_at xs values 0 ≡ values
  unfolding plate_at
  all_of_it = rw (zero-mul (wells_of xs)) (take_all (wells_of xs) values (omega (arith, fits)))

  one_row : (part : Found → ℕ) (lent : List ℕ) → length lent ≡ 5 → served xs values 5 part lent ≡ places 5 part (nearest xs 5 values)
  unfolding rows
  one_row part lent h =
      rw (one_plate, all_of_it, drop_of_length-le lent {i = 5} (omega (arith, h))) (append-nil (places 5 part (nearest xs 5 values) ++ []) ∙ append-nil (places 5 part (nearest xs 5 values)))

  pub five : (codes distances : List ℕ) → length codes ≡ 5 → length distances ≡ 5 → {answer : image.Answer ℕ} {codes' distances' : List ℕ}
      → handed answer codes' distances'
      ≡ outcome (judge (sitting.plate_rules xs (length values) 5 (length codes) (length distances))) (sat xs values 5 codes distances) codes distances
      → (codes' ≡ places 5 code_in (nearest xs 5 values)) × (distances' ≡ places 5 distance_in (nearest xs 5 values))
  unfolding outcome
  five codes distances h k e =
      let p = rw (is_seated (length codes) (length distances) (omega (arith, h)) (omega (arith, k))) at e in
      (ap (λ o. o.codes) p ∙ one_row code_in codes h, ap (λ o. o.distances) p ∙ one_row distance_in distances k)

  pub five_told : (codes distances : List ℕ) → length codes ≡ 5 → length distances ≡ 5 → {answer : image.Answer ℕ} {codes' distances' : List ℕ}
      → handed answer codes' distances'
      ≡ outcome (judge (sitting.plate_rules xs (length values) 5 (length codes) (length distances))) (sat xs values 5 codes distances) codes distances
      → answer ≡ image.given (min 5 (count_of xs))
  unfolding outcome
  five_told codes distances h k e =
      let p = rw (is_seated (length codes) (length distances) (omega (arith, h)) (omega (arith, k))) at e in
      ap (λ o. o.answer) p

-- ---- what is handed back

-- the five places stand in front, and the rest is as it was
pub short_written : (fs : List Found) (codes distances out : List ℕ) {out' : List ℕ}
    → codes ≡ places 5 code_in fs → distances ≡ places 5 distance_in fs → length codes ≡ 5 → length distances ≡ 5 → 40 ≤ length out
    → out' ≡ sets out 0 (by_turns codes distances) → (length (five_of fs) ≡ 40) × (out' ≡ five_of fs ++ drop (length (five_of fs)) out)
short_written fs codes distances out p q h k room w =
    let long : length (by_turns codes distances) ≡ 40 = omega (arith, turns_all codes distances (k ∙ sym h), h) in
    let none_before : 0 + length (by_turns codes distances) ≡ length (by_turns codes distances) = omega arith in
    rw (← p, ← q)
    (long, w ∙ sets-eq (by_turns codes distances) out 0 (omega (arith, long)) ∙ ap (λ (n : ℕ). by_turns codes distances ++ drop n out) none_before)
