-- `level::cover_limit` meets its contract: the level plus 1 is its byte b, and 1 shifted by it is 2 ^ b. Assumes nothing.
use mathlib.Core.Path.{◌≡◌, refl, sym, ◌∙◌, ap}
use Prim.Native.Nat.{ℕ, ◌*◌, ◌%◌, ◌^◌, ◌≤◌}
use native.Mathlib.Nat.{one-mul}
use native.Mathlib.Omega.{arith}
use lib.Dec.{lit<}
use lib.IntN.{ℤ, pos, negsuc, ◌+ℤ◌}
use lib.Signed.{◌≤ℤ◌}
use lib.Pow.{pow_mono, shl_exact}
use mir.Syntax.{w32}
use mir.Val.{SFits, to_z, of_z}
use mir.ValLaws.{to_z-of_z}
use Rattle.profile.specs.Level.{cover_limit}
use Rattle.profile.proofs.Signs.{fits_in}
use Rattle.profile.proofs.Levels.{level_in_32, level_next, span_byte, cover_byte}
use Rattle.profile.proofs.level.cover_limit.Goals as goal

-- of a level from -1 to 20: it and the level plus 1, its byte, are read back as they are
module _ (z : ℤ) (s : (negsuc 0 ≤ℤ z) × (z ≤ℤ pos 20)) where
  abbrev byte : ℕ
  byte = (span_byte s).0

  byte_small : byte ≤ 21
  byte_small = (span_byte s).2

  own : SFits w32 z
  own = rw (span_byte s).1 (level_in_32 byte (omega (arith, byte_small)))

  raised : to_z w32 (of_z w32 z) +ℤ pos 1 ≡ pos byte
  raised = ap (λ x. x +ℤ pos 1) (to_z-of_z w32 z own ∙ (span_byte s).1) ∙ level_next byte

  raised-fits : SFits w32 (pos byte)
  raised-fits = fits_in w32 (pos byte) (omega (arith, byte_small)) (omega arith)

  read : to_z w32 (of_z w32 (to_z w32 (of_z w32 z) +ℤ pos 1)) ≡ pos byte
  read = rw (raised, to_z-of_z w32 (pos byte) raised-fits)

  shifted : (1 * 2 ^ byte) % 2 ^ 32 ≡ cover_limit z
  shifted =
      shl_exact 1 byte 32 (lit< tt) (omega (arith, byte_small)) ∙ one-mul _ ∙ sym (ap cover_limit (span_byte s).1 ∙ cover_byte byte)

  limit-small : cover_limit z ≤ 2097152
  limit-small = omega (arith, ap cover_limit (span_byte s).1, cover_byte byte, pow_mono {i = byte} {j = 21} byte_small)

pub returns : goal.returns
returns c = rw (read _ c.requires, shifted _ c.requires) (refl, limit-small _ c.requires)
