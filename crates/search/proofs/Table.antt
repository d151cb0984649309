-- The rules of the sitting and of the search within a radius find what their tables' lines say. Assumes nothing.
use mathlib.Core.List.{List}
use Prim.Native.Nat.{ℕ, ◌*◌, ◌/◌, ◌%◌}
use Rattle.image.specs.Fields.{wells_of, count_of}
use Rattle.image.proofs.Tests.{tells_or, tells_lt}
use Rattle.image.proofs.Faults.{Match, end, next, match_append, finds_whole}
use Rattle.checker.proofs.Table.{tells_outside, tells_other, check_table}
use Rattle.search.specs.Rules.{slice_rules, plate_rules, sitting_rules, radius_rules, within_rules}
use Rattle.search.specs.Table.{plate_table, sitting_table, radius_table, within_table}

-- ---- the sitting

module _ (xs : List ℕ) (values k codes distances : ℕ) where
  plate_table_lem : Match (plate_rules xs values k codes distances) (plate_table xs values k codes distances)
  unfolding plate_rules slice_rules plate_table
  plate_table_lem =
      next (finds_whole (tells_or (tells_other (values % wells_of xs) 0) (tells_outside 1 64 (values / wells_of xs))))
      (next (finds_whole (tells_outside 1 32 k))
      (next (finds_whole (tells_or (tells_lt codes (values / wells_of xs * k)) (tells_lt distances (values / wells_of xs * k)))) end))

  pub sitting_table_lem : Match (sitting_rules xs values k codes distances) (sitting_table xs values k codes distances)
  unfolding sitting_rules sitting_table
  sitting_table_lem = match_append (check_table xs) plate_table_lem

-- ---- the search within a radius

module _ (xs : List ℕ) (values codes distances : ℕ) where
  radius_table_lem : Match (radius_rules xs values codes distances) (radius_table xs values codes distances)
  unfolding radius_rules slice_rules radius_table
  radius_table_lem =
      next (finds_whole (tells_other values (wells_of xs)))
      (next (finds_whole (tells_or (tells_lt codes (count_of xs)) (tells_lt distances (count_of xs)))) end)

  pub within_table_lem : Match (within_rules xs values codes distances) (within_table xs values codes distances)
  unfolding within_rules within_table
  within_table_lem = match_append (check_table xs) radius_table_lem
