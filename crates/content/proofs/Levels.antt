-- The levels of a library that grows stay between -1 and 20. Assumes nothing.
use mathlib.Core.Path.{◌≡◌, refl, sym, subst}
use mathlib.Core.Bool.{Bool, true, false, cond}
use Prim.Native.Nat.{ℕ, zero, suc, ◌-◌, ◌≤◌, ◌<◌}
use native.Mathlib.Omega.{arith}
use lib.Dec.{T}
use lib.IntN.{ℤ, pos, negsuc, suc_ℤ}
use lib.Signed.{le_z, ◌≤ℤ◌}
use Rattle.profile.specs.Level.{cover_limit, bit_length, level_of, fitting_level}
use Rattle.profile.proofs.Levels.{more_than, cover_mono, byte_least, fitting_is}
use Rattle.profile.proofs.Signs.{le_no, le_parts, parts_le, suc_parts}
use Rattle.tree.specs.Grow.{higher}

-- a level is within what an image can store
pub record Storable (e : ℤ) : Type 0 where
  pub least : negsuc 0 ≤ℤ e
  pub most : e ≤ℤ pos 20

cover_20 : cover_limit (pos 20) ≡ 2097152
unfolding cover_limit
cover_20 = refl

-- the fitting level of a distance that two profiles can have: from -1 to 19
pub fitting_span : (d : ℕ) → 0 < d → d ≤ 1048560 → (negsuc 0 ≤ℤ fitting_level d) × (fitting_level d ≤ℤ pos 19)
unfolding fitting_level
fitting_span d h k = (byte_least (bit_length (d - 1)), go (le_z (fitting_level d) (pos 19)) refl)
  where
    go : (t : Bool) → le_z (fitting_level d) (pos 19) ≡ t → fitting_level d ≤ℤ pos 19
    go true e = record { le = subst T (sym e) tt }
    go false e =
        absurd (omega (
          arith,
          (more_than d (fitting_level d)).0 (fitting_is d h).above,
          cover_20,
          cover_mono {a = pos 20} {b = fitting_level d} (parts_le (pos 20) (fitting_level d) (omega (arith, le_no (fitting_level d) (pos 19) e))),
        ))

pub fitting_storable : (d : ℕ) → 0 < d → d ≤ 1048560 → Storable (fitting_level d)
fitting_storable d h k =
    record { least = (fitting_span d h k).0; most = parts_le (fitting_level d) (pos 20) (omega (arith, le_parts (fitting_span d h k).1)) }

-- a root's level, raised above it
pub raised_storable : (a : ℤ) (d : ℕ) → Storable a → 0 < d → d ≤ 1048560 → Storable (higher a (suc_ℤ (fitting_level d)))
unfolding higher
raised_storable a d s h k = go (le_z a (suc_ℤ (fitting_level d)))
  where
    go : (t : Bool) → Storable (cond t (suc_ℤ (fitting_level d)) a)
    go true = record {
      least = parts_le (negsuc 0) (suc_ℤ (fitting_level d)) (omega (arith, le_parts (fitting_span d h k).0, suc_parts (fitting_level d)));
      most = parts_le (suc_ℤ (fitting_level d)) (pos 20) (omega (arith, le_parts (fitting_span d h k).1, suc_parts (fitting_level d)));
    }
    go false = s

-- the byte of such a level is at most 21
pub storable_byte : (b : ℕ) → Storable (level_of b) → b ≤ 21
storable_byte zero s = omega arith
storable_byte (suc b) s = omega (arith, le_parts s.most)
