-- A profile in an image's bytes. Assumes nothing.
use Rattle.std.specs.Prelude.{cond, List, [], ◌∷◌, ℕ, zero, suc, ◌+◌, ◌*◌, ltb, ℤ, pos, ◌-ℤ◌, get_or}

-- a 16-bit number read as two's complement
unfoldable pub signed : ℕ → ℤ
signed n = cond (ltb n 32768) (pos n) (pos n -ℤ pos 65536)

-- the well whose two bytes, the lower first, stand at `at`
unfoldable pub well_at : List ℕ → ℕ → ℤ
well_at bytes at = signed (get_or bytes at 0 + 256 * get_or bytes (at + 1) 0)

-- the profile of as many wells that stands at `at`
unfoldable pub wells_at : List ℕ → ℕ → ℕ → List ℤ
wells_at bytes at zero = []
wells_at bytes at (suc wells) = well_at bytes at ∷ wells_at bytes (at + 2) wells
