-- A strain as a search finds it, and the order of what is found: by distance, then by code. Assumes nothing.
use Rattle.std.specs.Prelude.{ℕ, ◌+◌, ◌*◌, ◌/◌, ◌%◌}

pub record Found : Type 0 where
  pub distance : ℕ
  pub code : ℕ

-- one number for both: a code has 32 bits, so the lower rank has the lower distance or, on a tie, the lower code
abbrev pub rank : Found → ℕ
rank f = f.distance * 4294967296 + f.code

-- the distance and the code in it
abbrev pub distance_of : ℕ → ℕ
distance_of r = r / 4294967296

abbrev pub code_of : ℕ → ℕ
code_of r = r % 4294967296
