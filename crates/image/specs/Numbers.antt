-- Little-endian numbers in a list of bytes. Assumes nothing.
use Rattle.std.specs.Prelude.{List, ℕ, ◌+◌, ◌*◌, get_or}

abbrev pub u16_at : List ℕ → ℕ → ℕ
u16_at xs at = get_or xs at 0 + 256 * get_or xs (at + 1) 0

abbrev pub u32_at : List ℕ → ℕ → ℕ
u32_at xs at = u16_at xs at + 65536 * u16_at xs (at + 2)
