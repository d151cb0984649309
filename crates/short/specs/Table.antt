-- Document 01's table of refusals for the short call, in the sitting's order. Assumes nothing.
use Rattle.std.specs.Prelude.{◌≢◌, List, [], ◌∷◌, ◌++◌, ℕ, ◌*◌, ◌<◌}
use Rattle.image.specs.Fields.{wells_of}
use Rattle.image.specs.Faults.{Line, line, Whole}
use Rattle.checker.specs.Table.{table}

-- 1 to 13, then 14 not 2w bytes, 16 fewer than 40. `plate` and `out` are the lengths
unfoldable pub short_table : List ℕ → (plate out : ℕ) → List Line
short_table xs plate out = table xs ++ (line 14 (Whole (plate ≢ 2 * wells_of xs)) ∷ line 16 (Whole (out < 40)) ∷ [])
