-- The rules of a list find what its table's lines say. Assumes nothing.
use mathlib.Core.List.{List}
use Prim.Native.Nat.{ℕ}
use Rattle.image.proofs.Tests.{tells_lt}
use Rattle.image.proofs.Faults.{Match, end, next, match_append, finds_whole}
use Rattle.checker.proofs.Table.{check_table}
use Rattle.text.specs.Calls.{list_rules}
use Rattle.text.specs.Table.{list_table}

module _ (xs : List ℕ) (room : ℕ) where
  pub list_table_lem : Match (list_rules xs room) (list_table xs room)
  unfolding list_rules list_table
  list_table_lem = match_append (check_table xs) (next (finds_whole (tells_lt room 147456)) end)
