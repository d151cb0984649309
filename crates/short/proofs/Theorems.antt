-- What the short call promises to a program in C. Assumes nothing.
use mathlib.Core.Path.{◌≡◌, refl, sym, ◌∙◌, ap, ap₂}
use mathlib.Core.List.{List, ◌++◌}
use Prim.Native.Nat.{ℕ, ◌*◌, ◌≤◌}
use native.Mathlib.Omega.{arith}
use lib.IntN.{ℤ}
use lib.ListN.{length, drop}
use Rattle.profile.specs.Bytes.{wells_at}
use Rattle.profile.proofs.Reading.{wells_length}
use Rattle.image.specs.Fields.{wells_of}
use Rattle.image.specs.Library.{Library}
use Rattle.image.specs.Verdict.{Verdict, accepted, judge}
use Rattle.image.specs.Answer.{given, outcome}
use Rattle.image.proofs.Tests.{tells_lt}
use Rattle.image.proofs.Faults.{Match, end, next, match_append, finds_whole}
use Rattle.checker.proofs.Table.{tells_other, check_table}
use Rattle.content.specs.Bytes.{Bytes}
use Rattle.content.specs.Filing.{filing_form, Agree}
use Rattle.content.proofs.Filing.{file_accepted}
use Rattle.search.specs.Ranked.{nearest, places}
use Rattle.search.specs.Answer as search
use Rattle.search.specs.Calls.{code_in, distance_in, sat, sitting_of}
use Rattle.search.specs.Rules.{sitting_rules}
use Rattle.search.proofs.Serves.{nearest_places}
use Rattle.search.proofs.Outcomes.{image_accepted}
use Rattle.search.proofs.Theorems.{same_nearest, filing_agrees}
use Rattle.short.specs.Short.{plate_rules, short_rules, by_turns, five_of, short_of}
use Rattle.short.specs.Table.{short_table}
use Rattle.short.proofs.Turns.{turns_all}
use Rattle.short.proofs.Serves.{both_fit, five}

-- ---- which refusal is given

module _ (xs : List ℕ) (plate out : ℕ) where
  pub short_table_lem : Match (short_rules xs plate out) (short_table xs plate out)
  unfolding short_rules plate_rules short_table
  short_table_lem = match_append (check_table xs) (next (finds_whole (tells_other plate (2 * wells_of xs))) (next (finds_whole (tells_lt out 40)) end))

-- ---- what is written

module _ (xs : List ℕ) (values : List ℤ) where
  five_length : length (five_of (nearest xs 5 values)) ≡ 40
  five_length =
      omega (
        arith,
        turns_all (places 5 code_in (nearest xs 5 values)) (places 5 distance_in (nearest xs 5 values)) (nearest_places xs 5 values distance_in ∙ sym (nearest_places xs 5 values code_in)),
        nearest_places xs 5 values code_in,
      )

module _ {xs : List ℕ} (l : Library xs) (plate out : List ℕ) (fits : length plate ≡ 2 * wells_of xs) (room : 40 ≤ length out) where
  passes : judge (short_rules xs (length plate) (length out)) ≡ accepted
  unfolding short_rules
  passes = image_accepted l _ ∙ both_fit xs (length plate) (length out) fits room

  pub short_is : short_of xs plate out ≡ record { answer = given 40; buffer = five_of (nearest xs 5 (wells_at plate 0 (wells_of xs))) ++ drop 40 out }
  unfolding short_of outcome
  short_is = rw (passes, five_length xs (wells_at plate 0 (wells_of xs))) refl

  -- the codes and distances by turns of what a sitting with five neighbours writes for the plate read
  pub short_is_sitting : (codes distances : List ℕ) → length codes ≡ 5 → length distances ≡ 5
      → let o = sitting_of xs (wells_at plate 0 (wells_of xs)) 5 codes distances in
      short_of xs plate out ≡ record { answer = given 40; buffer = by_turns o.codes o.distances ++ drop 40 out }
  unfolding sitting_of sitting_rules
  short_is_sitting codes distances h k =
      let values = wells_at plate 0 (wells_of xs) in
      let wrote = five l values (wells_length plate 0 (wells_of xs)) codes distances h k
      (ap (λ (v : Verdict). search.outcome v (sat xs values 5 codes distances) codes distances) (image_accepted l _)) in
      short_is ∙ ap₂ (λ (c d : List ℕ). record { answer = given 40; buffer = by_turns c d ++ drop 40 out }) (sym wrote.0) (sym wrote.1)

-- ---- the tree does not matter

module _ {xs ys : List ℕ} (b : Bytes xs) (lx : Library xs) (ly : Library ys) (a : Agree xs ys) where
  same_rules : (plate out : ℕ) → judge (short_rules xs plate out) ≡ judge (short_rules ys plate out)
  unfolding short_rules plate_rules
  same_rules plate out =
      let e : plate_rules xs plate out ≡ plate_rules ys plate out = rw a.wells in
      image_accepted lx _ ∙ ap judge e ∙ sym (image_accepted ly _)

  pub tree_does_not_matter_short : (plate out : List ℕ) → short_of xs plate out ≡ short_of ys plate out
  unfolding short_of
  tree_does_not_matter_short plate out =
      let found = same_nearest b lx ly a 5 (wells_at plate 0 (wells_of xs)) ∙ ap (λ (w : ℕ). nearest ys 5 (wells_at plate 0 w)) a.wells in
      ap₂ (λ v fs. outcome v (five_of fs) out) (same_rules (length plate) (length out)) found

-- a library and its filing form
pub filing_same_short : (xs : List ℕ) → Bytes xs → Library xs → (plate out : List ℕ) → short_of xs plate out ≡ short_of (filing_form xs) plate out
filing_same_short xs b l = tree_does_not_matter_short b l (file_accepted xs b l) (filing_agrees xs b l)
