-- `level::fitting_level` meets its contract. `leading_length` gives the length of d - 1 in bits, which is the level's byte. Assumes nothing.
use mathlib.Core.Path.{◌≡◌}
use Prim.Native.Nat.{ℕ, ◌-◌}
use native.Mathlib.Omega.{arith}
use lib.Count.{count_leading_zeros, leading_le, leading_length}
use lib.IntN.{pos, ◌-ℤ◌}
use mir.Syntax.{w32}
use mir.Val.{SFits, to_z, of_z}
use mir.ValLaws.{to_z_pos, to_z-of_z}
use Rattle.profile.proofs.Signs.{fits_in, less_up, less_down}
use Rattle.profile.proofs.Levels.{fitting_leading}
use Rattle.profile.proofs.level.fitting_level.Goals as goal

-- of any number: 31 less its count of leading zeros reads back as it is
module _ (a : ℕ) where
  less : SFits w32 (pos 31 -ℤ pos (count_leading_zeros 32 a))
  less =
      let n = count_leading_zeros 32 a in
      fits_in w32 (pos 31 -ℤ pos n) (omega (arith, less_up (pos 31) (pos n))) (omega (arith, less_down (pos 31) (pos n), leading_le 32 a))

  as_read : to_z w32 (count_leading_zeros 32 a) ≡ pos (count_leading_zeros 32 a)
  as_read = to_z_pos w32 (count_leading_zeros 32 a) (omega (arith, leading_le 32 a))

  less-read : to_z w32 (of_z w32 (pos 31 -ℤ to_z w32 (count_leading_zeros 32 a))) ≡ pos 31 -ℤ pos (count_leading_zeros 32 a)
  less-read = rw (as_read, to_z-of_z w32 (pos 31 -ℤ pos (count_leading_zeros 32 a)) less)

pub returns : goal.returns
returns c =
    let d = c.args.d in
    let s = leading_length 32 (d - 1) (omega arith) in
    rw less-read (fitting_leading d (count_leading_zeros 32 (d - 1)) s.0 c.requires s.1 s.2 s.3)
