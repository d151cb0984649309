-- The table of refusals for a list. Document 01 has no such call; the numbers, and their order, are its own. Assumes nothing.
use Rattle.std.specs.Prelude.{List, [], ◌∷◌, ◌++◌, ℕ, ◌<◌}
use Rattle.image.specs.Faults.{Line, line, Whole}
use Rattle.checker.specs.Table.{table}

-- 1 to 13, then 16 a room of fewer than 147,456 bytes, which is enough for every listing. `room` is the lent slice's length
unfoldable pub list_table : List ℕ → (room : ℕ) → List Line
list_table xs room = table xs ++ (line 16 (Whole (room < 147456)) ∷ [])
