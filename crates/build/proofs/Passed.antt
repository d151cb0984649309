-- What holds where a call was not refused. Assumes nothing.
use mathlib.Core.Path.{◌≡◌}
use mathlib.Core.Logic.{◌≢◌}
use mathlib.Core.List.{List}
use Prim.Native.Nat.{ℕ, ◌≤◌, ◌<◌}
use lib.IntN.{ℤ}
use lib.ListN.{length, take}
use borrow.Author.Tests.{ltb-false, eqb-true, eqb-false, not-false}
use Rattle.image.specs.Fields.{wells_of, count_of, code_at, profile_at}
use Rattle.image.specs.Library.{Library}
use Rattle.image.specs.Verdict.{accepted, judge}
use Rattle.image.proofs.Verdicts.{past, when_none, first_passed, judge_both}
use Rattle.checker.specs.Check.{check_rules, check_of}
use Rattle.checker.proofs.Accepted.{accepted_exactly}
use Rattle.checker.proofs.Passed.{inside}
use Rattle.build.specs.Rules.{code_taken, profile_held, start_rules, room_rules, strain_rules, add_rules, file_rules}
use Rattle.build.proofs.Offers.{tells_alike}

-- ---- start

pub record Starts (wells metric code : ℕ) (profile : List ℤ) : Type 0 where
  pub wells_in : (1 ≤ wells) × (wells ≤ 16)
  pub metric_in : (1 ≤ metric) × (metric ≤ 2)
  pub long : length profile ≡ wells
  pub has_code : code ≢ 0

pub starts : (wells metric code : ℕ) (profile : List ℤ) (room : ℕ) → judge (start_rules wells metric code profile room) ≡ accepted → Starts wells metric code profile
unfolding start_rules
starts wells metric code profile room e =
    let a1 = past _ _ _ e in
    let a2 = past _ _ _ a1.1 in
    let a3 = past _ _ _ a2.1 in
    let a4 = past _ _ _ a3.1 in
    record {
      wells_in = inside 1 16 wells (when_none _ a1.0);
      metric_in = inside 1 2 metric (when_none _ a2.0);
      long = eqb-true _ _ (not-false _ (when_none _ a3.0));
      has_code = eqb-false _ _ (when_none _ a4.0);
    }

-- ---- add

pub record Admits (xs : List ℕ) (code : ℕ) (profile : List ℤ) : Type 0 where
  pub wells : length profile ≡ wells_of xs
  pub has_code : code ≢ 0
  pub new_code : (i : ℕ) → i < count_of xs → code_at xs i ≢ code
  pub new_profile : (i : ℕ) → i < count_of xs → profile_at xs i ≢ profile
  pub not_full : count_of xs ≢ 1024

admits : (xs : List ℕ) (code : ℕ) (profile : List ℤ) (room : ℕ) → judge (strain_rules xs code profile room) ≡ accepted → Admits xs code profile
unfolding strain_rules room_rules code_taken profile_held
admits xs code profile room e =
    let a1 = past _ _ _ e in
    let a2 = past _ _ _ a1.1 in
    let a3 = past _ _ _ a2.1 in
    let a4 = past _ _ _ a3.1 in
    let a5 = past _ _ _ a4.1 in
    record {
      wells = eqb-true _ _ (not-false _ (when_none _ a1.0));
      has_code = eqb-false _ _ (when_none _ a2.0);
      new_code = λ i h. eqb-false _ _ (first_passed _ (code_taken xs code) a3.0 i h);
      new_profile = λ i h. (tells_alike (profile_at xs i) profile).no (first_passed _ (profile_held xs profile) a4.0 i h);
      not_full = eqb-false _ _ (when_none _ a5.0);
    }

pub add_passed : (buffer : List ℕ) (stated code : ℕ) (profile : List ℤ) → judge (add_rules buffer stated code profile) ≡ accepted
    → (stated ≤ length buffer) × Library (take stated buffer) × Admits (take stated buffer) code profile
unfolding add_rules check_of
add_passed buffer stated code profile e =
    let a = past _ _ _ e in
    let b = judge_both (check_rules (take stated buffer)) _ a.1 in
    (ltb-false _ _ (when_none _ a.0), (accepted_exactly (take stated buffer)).0 b.0, admits (take stated buffer) code profile (length buffer) b.1)

-- ---- filing

pub file_passed : (xs : List ℕ) (room : ℕ) → judge (file_rules xs room) ≡ accepted → Library xs × (length xs ≤ room)
unfolding file_rules check_of
file_passed xs room e =
    let b = judge_both (check_rules xs) _ e in
    ((accepted_exactly xs).0 b.0, ltb-false _ _ (when_none _ (past _ _ _ b.1).0))
