-- Bytes moved up by 8. Assumes nothing.
use Rattle.std.specs.Prelude.{◌≡◌, List, ℕ, ◌+◌, ◌≤◌, ◌<◌, length, get_or}

-- the bytes up to `from + 8` and from `upto + 8` on are as they were; between stands what stood 8 bytes before
pub record Moved (xs ys : List ℕ) (from upto : ℕ) : Type 0 where
  pub size : length ys ≡ length xs
  pub before : (j : ℕ) → j < from + 8 → get_or ys j 0 ≡ get_or xs j 0
  pub moved : (j : ℕ) → from ≤ j → j < upto → get_or ys (j + 8) 0 ≡ get_or xs j 0
  pub behind : (j : ℕ) → upto + 8 ≤ j → get_or ys j 0 ≡ get_or xs j 0
