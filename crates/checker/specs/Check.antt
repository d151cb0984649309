-- The check: the rules of document 01's table on a library's bytes, in order. Assumes nothing.
use Rattle.std.specs.Prelude.{◌≡◌, Result, ⊤, List, [], ◌∷◌, ℕ}
use Rattle.image.specs.Fields.{count_of}
use Rattle.image.specs.declared.refusal.Refusal.{Refusal}
use Rattle.image.specs.Answer.{verdict_of}
use Rattle.image.specs.Verdict.{Verdict, Rule, rule, when, at_first, at_pair, judge}
use Rattle.checker.specs.Tests.{bad_size, bad_edition, bad_wells, bad_metric, bad_count, bad_offsets, bad_length, bad_root, bad_node, bad_level, bad_cover, same_code, too_near}

-- 11 to 13
unfoldable pub tree_rules : List ℕ → List Rule
tree_rules xs =
    rule 11 (at_first (count_of xs) (bad_level xs))
    ∷ rule 12 (at_first (count_of xs) (bad_cover xs))
    ∷ rule 13 (at_pair (count_of xs) (too_near xs))
    ∷ []

-- 9 to 13
unfoldable pub record_rules : List ℕ → List Rule
record_rules xs =
    rule 9 (at_first (count_of xs) (bad_node xs))
    ∷ rule 10 (at_pair (count_of xs) (same_code xs))
    ∷ tree_rules xs

-- 6 to 13
unfoldable pub layout_rules : List ℕ → List Rule
layout_rules xs =
    rule 6 (when (bad_offsets xs))
    ∷ rule 7 (when (bad_length xs))
    ∷ rule 8 (when (bad_root xs))
    ∷ record_rules xs

-- 2 to 13
unfoldable pub header_rules : List ℕ → List Rule
header_rules xs =
    rule 2 (when (bad_edition xs))
    ∷ rule 3 (when (bad_wells xs))
    ∷ rule 4 (when (bad_metric xs))
    ∷ rule 5 (when (bad_count xs))
    ∷ layout_rules xs

-- 1 to 13
unfoldable pub check_rules : List ℕ → List Rule
check_rules xs = rule 1 (when (bad_size xs)) ∷ header_rules xs

unfoldable pub check_of : List ℕ → Verdict
check_of xs = judge (check_rules xs)

-- the answer of the check
abbrev pub Checked : Type 0
Checked = Result ⊤ Refusal

-- the contract: the answer is the verdict
abbrev pub CheckGives : (image : List ℕ) → Checked → Type 0
CheckGives image r = verdict_of r ≡ check_of image
