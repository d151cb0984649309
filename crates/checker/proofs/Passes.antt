-- The check accepts exactly where every rule's test fails. Assumes nothing.
use mathlib.Core.Path.{◌≡◌, ◌∙◌}
use mathlib.Core.Bool.{Bool, false}
use mathlib.Core.List.{List, ◌∷◌}
use Prim.Native.Nat.{ℕ, ◌<◌}
use Rattle.image.specs.Fields.{count_of}
use Rattle.image.specs.Verdict.{accepted, Rule, rule, at_first, at_pair, judge}
use Rattle.image.proofs.Searches.{none_some, record_none, pair_none}
use Rattle.image.proofs.Verdicts.{judge_none, pass, accepted_none, past, when_none, first_passed, pair_passed}
use Rattle.checker.specs.Tests.{bad_size, bad_edition, bad_wells, bad_metric, bad_count, bad_offsets, bad_length, bad_root, bad_node, bad_level, bad_cover, same_code, too_near}
use Rattle.checker.specs.Check.{tree_rules, record_rules, layout_rules, header_rules, check_rules, check_of}

-- every rule's test fails
pub record Passes (xs : List ℕ) : Type 0 where
  pub size : bad_size xs ≡ false
  pub edition : bad_edition xs ≡ false
  pub wells : bad_wells xs ≡ false
  pub metric : bad_metric xs ≡ false
  pub count : bad_count xs ≡ false
  pub offsets : bad_offsets xs ≡ false
  pub length : bad_length xs ≡ false
  pub root : bad_root xs ≡ false
  pub node : (i : ℕ) → i < count_of xs → bad_node xs i ≡ false
  pub code : (later earlier : ℕ) → later < count_of xs → earlier < later → same_code xs later earlier ≡ false
  pub level : (i : ℕ) → i < count_of xs → bad_level xs i ≡ false
  pub cover : (i : ℕ) → i < count_of xs → bad_cover xs i ≡ false
  pub near : (later earlier : ℕ) → later < count_of xs → earlier < later → too_near xs later earlier ≡ false

-- ---- an accepted library passes each rule

pub passes : (xs : List ℕ) → check_of xs ≡ accepted → Passes xs
unfolding check_of check_rules header_rules layout_rules record_rules tree_rules
passes xs e =
    let a1 = past _ _ _ e in
    let a2 = past _ _ _ a1.1 in
    let a3 = past _ _ _ a2.1 in
    let a4 = past _ _ _ a3.1 in
    let a5 = past _ _ _ a4.1 in
    let a6 = past _ _ _ a5.1 in
    let a7 = past _ _ _ a6.1 in
    let a8 = past _ _ _ a7.1 in
    let a9 = past _ _ _ a8.1 in
    let a10 = past _ _ _ a9.1 in
    let a11 = past _ _ _ a10.1 in
    let a12 = past _ _ _ a11.1 in
    let a13 = past _ _ _ a12.1 in
    record {
      size = when_none _ a1.0;
      edition = when_none _ a2.0;
      wells = when_none _ a3.0;
      metric = when_none _ a4.0;
      count = when_none _ a5.0;
      offsets = when_none _ a6.0;
      length = when_none _ a7.0;
      root = when_none _ a8.0;
      node = first_passed _ _ a9.0;
      code = pair_passed _ _ a10.0;
      level = first_passed _ _ a11.0;
      cover = first_passed _ _ a12.0;
      near = pair_passed _ _ a13.0;
    }

-- ---- and what passes each rule is accepted

first_pass : (m n : ℕ) (p : ℕ → Bool) (rules : List Rule) → ((i : ℕ) → i < n → p i ≡ false) → accepted ≡ judge rules → accepted ≡ judge (rule m (at_first n p) ∷ rules)
first_pass m n p rules all q = q ∙ judge_none m (at_first n p) rules (record_none n p all)

pair_pass : (m n : ℕ) (p : ℕ → ℕ → Bool) (rules : List Rule) → ((later earlier : ℕ) → later < n → earlier < later → p later earlier ≡ false)
    → accepted ≡ judge rules → accepted ≡ judge (rule m (at_pair n p) ∷ rules)
pair_pass m n p rules all q = q ∙ judge_none m (at_pair n p) rules (pair_none n p (λ later h. none_some later (p later) (λ k l. all later k h l)))

pub accepts : (xs : List ℕ) → Passes xs → accepted ≡ check_of xs
unfolding check_of check_rules header_rules layout_rules record_rules tree_rules
accepts xs p =
    pass _ _ _ _ p.size
    (pass _ _ _ _ p.edition
    (pass _ _ _ _ p.wells
    (pass _ _ _ _ p.metric
    (pass _ _ _ _ p.count
    (pass _ _ _ _ p.offsets
    (pass _ _ _ _ p.length
    (pass _ _ _ _ p.root
    (first_pass _ _ _ _ p.node
    (pair_pass _ _ _ _ p.code
    (first_pass _ _ _ _ p.level
    (first_pass _ _ _ _ p.cover
    (pair_pass _ _ _ _ p.near accepted_none))))))))))))
