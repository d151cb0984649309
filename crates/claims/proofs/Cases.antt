-- Document 01's cases C1 to C12, each computed. Assumes nothing.
use mathlib.Core.Path.{◌≡◌, refl}
use mathlib.Core.Logic.{⊎_elim}
use mathlib.Core.List.{List, ◌∷◌, [], ◌++◌}
use Prim.Native.Nat.{ℕ}
use native.Mathlib.Omega.{arith}
use lib.IntN.{pos, neg_ℤ}
use Rattle.profile.specs.Bytes.{signed, well_at, wells_at}
use Rattle.profile.specs.Distance.{gap, joined, distance}
use Rattle.profile.specs.Level.{◌≤2^◌, lower, cover_limit, reach, bits, fitting_level}
use Rattle.ranking.specs.Sort.{insert, sort_by}
use Rattle.tree.specs.Grow.{CanTake}
use Rattle.image.specs.declared.refusal.Place.{Place}
use Rattle.image.specs.Fields.{profile_at, distance_at}
use Rattle.image.specs.First.{first_from, first_below, later_below}
use Rattle.image.specs.Library.{tree_of}
use Rattle.image.specs.Strains.{each, strains_of}
use Rattle.image.specs.Verdict.{when, at_first, at_pair, judge}
use Rattle.image.specs.Answer.{denied, outcome}
use Rattle.checker.specs.Tests.{bad_node, bad_level, bad_cover, same_code, too_near}
use Rattle.checker.specs.Check.{tree_rules, record_rules, layout_rules, header_rules, check_rules, check_of}
use Rattle.content.specs.Adding.{distance_to}
use Rattle.walk.specs.Walk.{opens}
use Rattle.walk.specs.Weighed.{weighed, found_at, reach_at}
use Rattle.walk.specs.Measured.{measured_in, is_measured, measured_from, measured_count}
use Rattle.search.specs.Ranked.{ranked, nearest, inside, within_radius, plate_at, places, rows}
use Rattle.build.specs.Rules.{alike, code_taken, profile_held, strain_rules}
use Rattle.build.specs.Calls.{add_of}
use Rattle.build.proofs.Calls.{add_checked}
use Rattle.claims.specs.Example.{example_with, example, reversed, with105}
use Rattle.claims.specs.Growing.{one_well}
use Rattle.claims.specs.Cases.{AddingHolds, GrowingHolds, LevelByteHolds, CaseHolds, none, next, TableHolds, cases}
use Rattle.claims.proofs.Example.{example_library, lower_refused}
use Rattle.claims.proofs.ExampleGrown.{reversed_built, with_105, reversed_filed}
use Rattle.claims.proofs.NotRefused.{sits, gathers}

-- 104 is not the root, and its limit, 2 ^ -1, is below the distance 1
too_low_lem : CanTake (distance 1) (tree_of example) (pos 12 ∷ []) 3 → ⊥
unfolding example_with signed well_at wells_at gap joined distance profile_at ◌≤2^◌
too_low_lem t = ⊎_elim (λ e. absurd (omega (arith, e))) (λ h. absurd (omega (arith, h))) t.near

c7 : AddingHolds (one_well 105 (pos 12)) with105 103 (pos 0) 104
unfolding example_with with105 signed well_at wells_at gap joined distance profile_at distance_to
c7 = record {
  written = with_105;
  is_code = refl;
  is_parent = refl;
  is_level = refl;
  too_low = record { number = 3; is_record = omega arith; is_code = refl; is_nearer = omega arith; cannot = too_low_lem };
}

c8 : (rest : List ℕ) → add_of (example ++ rest) 56 105 (pos 10 ∷ []) ≡ record { answer = denied 19 (Place.Record 2); buffer = example ++ rest }
unfolding add_of outcome example_with signed well_at wells_at gap joined distance lower cover_limit profile_at distance_at first_from first_below later_below when at_first at_pair judge bad_node bad_level bad_cover same_code too_near tree_rules record_rules layout_rules header_rules check_rules check_of alike code_taken profile_held strain_rules
c8 rest = rw (add_checked (example ++ rest) 56 105 (pos 10 ∷ []) (omega arith) refl) refl

c11 : GrowingHolds (one_well 104 (pos 11)) (one_well 103 (pos 10) ∷ one_well 102 (pos 3) ∷ one_well 101 (pos 0) ∷ []) reversed
    (pos 3 ∷ neg_ℤ (pos 1) ∷ pos 2 ∷ pos 1 ∷ []) (104 ∷ 104 ∷ 104 ∷ 102 ∷ [])
unfolding reversed each
c11 = record { written = reversed_built; is_levels = refl; is_parents = refl; is_filed = reversed_filed }

c12 : LevelByteHolds (example_with 1) (pos 0) 12 1 3 2
unfolding example_with signed well_at wells_at gap joined distance cover_limit profile_at distance_at
c12 = record { is_refused = lower_refused; is_code = refl; is_level = refl; is_distance = refl; is_limit = refl; above = omega arith }

pub document_01_cases : TableHolds cases
unfolding cases CaseHolds example_with signed well_at wells_at gap joined distance cover_limit reach bits fitting_level profile_at each strains_of insert sort_by opens weighed found_at reach_at measured_in is_measured measured_from measured_count ranked nearest inside within_radius plate_at places rows
document_01_cases =
    next (next (sits example_library (pos 7 ∷ []) 3 refl refl) none)
    (next (next (sits example_library (pos 7 ∷ []) 2 refl refl) none)
    (next (next (sits example_library (pos 7 ∷ []) 5 refl refl) none)
    (next (next (gathers example_library 4 (pos 7 ∷ []) refl) none)
    (next (next (gathers example_library 0 (neg_ℤ (pos 31) ∷ []) refl) none)
    (next (next (gathers example_library 0 (neg_ℤ (pos 40) ∷ []) refl) none)
    (next (next c7 none)
    (next (next c8 none)
    (next (next refl (next refl (next refl (next refl (next refl none)))))
    (next (next refl none)
    (next (next c11 none)
    (next (next c12 none) none)))))))))))
