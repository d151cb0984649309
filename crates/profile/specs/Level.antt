-- Levels: whole numbers that may be negative, and the powers of two that go with them. Assumes nothing.
use Rattle.std.specs.Prelude.{◌≡◌, cond, ℕ, zero, suc, ◌-◌, ◌*◌, ◌/◌, ◌^◌, ◌≤◌, ◌<◌, ℤ, pos, negsuc}
use Rattle.std.proofs.Math.IntN.{suc_ℤ, pred_ℤ}
use Rattle.std.specs.Int.Signed.{le_z}

infix 50 ◌>2^◌ ◌≤2^◌
-- d > 2 ^ e. Where e is negative both sides are multiplied by 2 ^ -e, so that no fraction is met
unfoldable pub ◌>2^◌ : ℕ → ℤ → Type 0
d >2^ pos e = 2 ^ e < d
d >2^ negsuc k = 1 < d * 2 ^ suc k

-- d ≤ 2 ^ e, likewise
unfoldable pub ◌≤2^◌ : ℕ → ℤ → Type 0
d ≤2^ pos e = d ≤ 2 ^ e
d ≤2^ negsuc k = d * 2 ^ suc k ≤ 1

-- e is the fitting level of the distance d: 2 ^ e < d ≤ 2 ^ (e + 1)
pub record Fitting (d : ℕ) (e : ℤ) : Type 0 where
  pub above : d >2^ e
  pub within : d ≤2^ suc_ℤ e

-- the level that a level byte stands for: the byte less 1
abbrev pub level_of : ℕ → ℤ
level_of byte = pred_ℤ (pos byte)

-- the lower of two levels
unfoldable pub lower : ℤ → ℤ → ℤ
lower a b = cond (le_z a b) a b

-- how many bits n takes: none for 0, else one more than its half. `most` bounds how often n is halved
unfoldable pub bits : ℕ → ℕ → ℕ
bits zero n = 0
bits (suc most) zero = 0
bits (suc most) (suc n) = suc (bits most (suc n / 2))

abbrev pub bit_length : ℕ → ℕ
bit_length n = bits n n

-- the fitting level, worked out: the bit length of d - 1, less 1
unfoldable pub fitting_level : ℕ → ℤ
fitting_level d = level_of (bit_length (d - 1))

-- the cover limit of a level from -1 up, 2 ^ (level + 1). Below -1, where no whole number but 0 is as small, 0 stands
unfoldable pub cover_limit : ℤ → ℕ
cover_limit (pos level) = 2 ^ suc level
cover_limit (negsuc zero) = 1
cover_limit (negsuc (suc k)) = 0

-- the reach of a level from -1 up, 2 ^ (level + 1) - 1. Below -1, 0 stands
unfoldable pub reach : ℤ → ℕ
reach level = cover_limit level - 1

-- the level that source document 003 prints (Algorithm E.4) for a distance d: its logarithm to base 2, rounded down, less 1
pub record Printed (d : ℕ) (e : ℤ) : Type 0 where
  pub log : ℕ
  pub least : 2 ^ log ≤ d
  pub next : d < 2 ^ suc log
  pub level : e ≡ level_of log
