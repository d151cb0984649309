-- The refusals of each call fit into the answer word: a rule's number is a byte and not 0, and its place is none or has records of the library.
-- Assumes nothing.
use mathlib.Core.Path.{◌≡◌, refl}
use mathlib.Core.Bool.{Bool, true, false, cond}
use mathlib.Core.List.{List, [], ◌∷◌, ◌++◌}
use Rattle.std.specs.Prelude.{Option, Some, None}
use Prim.Native.Nat.{ℕ, ◌≤◌, ◌<◌}
use native.Mathlib.Omega.{arith}
use lib.Dec.{ltb}
use lib.IntN.{ℤ}
use lib.ListN.{take}
use borrow.Author.Tests.{ltb-true}
use Rattle.image.specs.declared.refusal.Place.{Place}
use Rattle.image.specs.Fields.{count_of}
use Rattle.image.specs.First.{first_below, later_below}
use Rattle.image.specs.Verdict.{Rule, rule, when, at_first, at_pair, judge}
use Rattle.image.proofs.First.{first_told}
use Rattle.checker.specs.Tests.{outside}
use Rattle.checker.specs.Check.{tree_rules, record_rules, layout_rules, header_rules, check_rules}
use Rattle.checker.proofs.Passed.{inside}
use Rattle.build.specs.Rules.{start_rules, room_rules, strain_rules, add_rules, file_rules}
use Rattle.text.specs.Calls.{list_rules}
use Rattle.search.specs.Rules.{slice_rules, plate_rules, sitting_rules, radius_rules, within_rules}
use Rattle.host.proofs.Words.{none_fits, record_fits, pair_fits, PlaceFits, VerdictFits, accepted_fits, refused_fits}

-- ---- of any rules

-- where a rule applies
data WhereFits : Option Place → Type 0 where
  nowhere : WhereFits None
  there : {p : Place} → PlaceFits p → WhereFits (Some p)

data RulesFit : List Rule → Type 0 where
  end : RulesFit []
  next : {m : ℕ} {f : Option Place} {rules : List Rule} → outside 1 255 m ≡ false → WhereFits f → RulesFit rules → RulesFit (rule m f ∷ rules)

fits_append : {rules more : List Rule} → RulesFit rules → RulesFit more → RulesFit (rules ++ more)
fits_append end n = n
fits_append (next b f m) n = next b f (fits_append m n)

-- a refusal comes from one of the rules
judge_fits : {rules : List Rule} → RulesFit rules → VerdictFits (judge rules)
unfolding judge
judge_fits end = accepted_fits
judge_fits (next b nowhere r) = judge_fits r
judge_fits (next {m = m} b (there f) r) =
    let h = inside 1 255 m b in
    refused_fits (record { some = h.0; low = omega (arith, h.1); at = f })

whole_fits : (b : Bool) → WhereFits (when b)
unfolding when
whole_fits true = there none_fits
whole_fits false = nowhere

module _ (n : ℕ) (few : n ≤ 65536) where
  first_fits : (p : ℕ → Bool) → WhereFits (at_first n p)
  unfolding at_first
  first_fits p = by (ltb (first_below n p) n) refl
    where
      by : (t : Bool) → ltb (first_below n p) n ≡ t → WhereFits (cond t (Some (Place.Record (first_below n p))) None)
      by true e = there (record_fits {i = first_below n p} (omega (arith, ltb-true (first_below n p) n e)))
      by false e = nowhere

  both_fit : (p : ℕ → ℕ → Bool) → WhereFits (at_pair n p)
  unfolding at_pair
  both_fit p = by (ltb (later_below n p) n) refl
    where
      by : (t : Bool) → ltb (later_below n p) n ≡ t
          → WhereFits (cond t (Some (Place.Pair (first_below (later_below n p) (p (later_below n p))) (later_below n p))) None)
      by true e =
          let later : later_below n p < n = ltb-true _ _ e in
          let earlier : first_below (later_below n p) (p (later_below n p)) ≤ later_below n p = (first_told (later_below n p) (p (later_below n p))).within in
          there (pair_fits {earlier = first_below (later_below n p) (p (later_below n p))} {later = later_below n p} (omega arith) (omega arith))
      by false e = nowhere

-- ---- of each call

-- bytes can tell of no more records
module _ (xs : List ℕ) (few : count_of xs ≤ 65536) where
  check_rules_lem : RulesFit (check_rules xs)
  unfolding check_rules header_rules layout_rules record_rules tree_rules
  check_rules_lem =
      next refl (whole_fits _)
      (next refl (whole_fits _)
      (next refl (whole_fits _)
      (next refl (whole_fits _)
      (next refl (whole_fits _)
      (next refl (whole_fits _)
      (next refl (whole_fits _)
      (next refl (whole_fits _)
      (next refl (first_fits _ few _)
      (next refl (both_fit _ few _)
      (next refl (first_fits _ few _)
      (next refl (first_fits _ few _)
      (next refl (both_fit _ few _) end))))))))))))

  strain_rules_lem : (code : ℕ) (profile : List ℤ) (room : ℕ) → RulesFit (strain_rules xs code profile room)
  unfolding strain_rules room_rules
  strain_rules_lem code profile room =
      next refl (whole_fits _)
      (next refl (whole_fits _)
      (next refl (first_fits _ few _)
      (next refl (first_fits _ few _)
      (next refl (whole_fits _)
      (next refl (whole_fits _) end)))))

  pub file_fits : (room : ℕ) → VerdictFits (judge (file_rules xs room))
  unfolding file_rules
  file_fits room = judge_fits (fits_append check_rules_lem (next refl (whole_fits _) end))

  pub list_fits : (room : ℕ) → VerdictFits (judge (list_rules xs room))
  unfolding list_rules
  list_fits room = judge_fits (fits_append check_rules_lem (next refl (whole_fits _) end))

  pub sitting_fits : (values k codes distances : ℕ) → VerdictFits (judge (sitting_rules xs values k codes distances))
  unfolding sitting_rules plate_rules slice_rules
  sitting_fits values k codes distances =
      judge_fits (fits_append check_rules_lem (next refl (whole_fits _) (next refl (whole_fits _) (next refl (whole_fits _) end))))

  pub within_fits : (values codes distances : ℕ) → VerdictFits (judge (within_rules xs values codes distances))
  unfolding within_rules radius_rules slice_rules
  within_fits values codes distances = judge_fits (fits_append check_rules_lem (next refl (whole_fits _) (next refl (whole_fits _) end)))

  pub check_fits : VerdictFits (judge (check_rules xs))
  check_fits = judge_fits check_rules_lem

pub start_fits : (wells metric code : ℕ) (profile : List ℤ) (room : ℕ) → VerdictFits (judge (start_rules wells metric code profile room))
unfolding start_rules
start_fits wells metric code profile room =
    judge_fits
    (next refl (whole_fits _)
    (next refl (whole_fits _)
    (next refl (whole_fits _)
    (next refl (whole_fits _)
    (next refl (whole_fits _) end)))))

pub add_fits : (buffer : List ℕ) (stated code : ℕ) (profile : List ℤ) → count_of (take stated buffer) ≤ 65536
    → VerdictFits (judge (add_rules buffer stated code profile))
unfolding add_rules
add_fits buffer stated code profile few =
    judge_fits (next refl (whole_fits _) (fits_append (check_rules_lem (take stated buffer) few) (strain_rules_lem (take stated buffer) few code profile _)))
