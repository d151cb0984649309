-- The verdicts of start, add and filing, from what was found on the way. Assumes nothing.
use mathlib.Core.Path.{◌≡◌, sym, ◌∙◌}
use mathlib.Core.Logic.{◌≢◌}
use mathlib.Core.Bool.{false}
use mathlib.Core.List.{List}
use Prim.Native.Nat.{ℕ, ◌≤◌}
use native.Mathlib.Omega.{arith}
use lib.IntN.{ℤ}
use lib.ListN.{length, take}
use Rattle.image.specs.Fields.{size_of}
use Rattle.image.specs.Verdict.{accepted, judge}
use Rattle.image.proofs.Verdicts.{verdicts, judge_on, judge_stops}
use Rattle.checker.specs.Check.{check_rules, check_of}
use Rattle.checker.specs.Tests.{outside}
use Rattle.build.specs.Rules.{start_rules, strain_rules, add_rules, file_rules}

-- what a call's verdict follows from: its rules one by one, and rules behind others
pub ruleset judged = (verdicts, judge_on, judge_stops)

pub start_passes : (wells metric code : ℕ) (profile : List ℤ) (room : ℕ) → outside 1 16 wells ≡ false → outside 1 2 metric ≡ false → length profile ≡ wells → code ≢ 0
    → size_of wells 1 ≤ room → judge (start_rules wells metric code profile room) ≡ accepted
unfolding start_rules
start_passes wells metric code profile room w m l nz h = grind (arith, judged)

pub add_checked : (buffer : List ℕ) (stated code : ℕ) (profile : List ℤ) → stated ≤ length buffer → accepted ≡ check_of (take stated buffer)
    → judge (add_rules buffer stated code profile) ≡ judge (strain_rules (take stated buffer) code profile (length buffer))
unfolding add_rules check_of
add_checked buffer stated code profile within e =
    let on = judge_on (check_rules (take stated buffer)) (strain_rules (take stated buffer) code profile (length buffer)) (sym e) in
    grind (arith, judged)

pub file_passes : (xs : List ℕ) (room : ℕ) → accepted ≡ check_of xs → length xs ≤ room → judge (file_rules xs room) ≡ accepted
unfolding file_rules check_of
file_passes xs room e h = judge_on (check_rules xs) _ (sym e) ∙ grind (arith, judged)
