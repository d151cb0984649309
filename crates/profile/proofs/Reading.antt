-- The laws of a profile in an image's bytes. Assumes nothing.
use mathlib.Core.Path.{◌≡◌, refl, ap, ◌∙◌}
use mathlib.Core.Bool.{Bool, true, false, cond}
use mathlib.Core.List.{List}
use Prim.Native.Nat.{ℕ, zero, suc, ◌+◌, ◌-◌, ◌*◌, ◌<◌}
use native.Mathlib.Omega.{arith}
use lib.Dec.{ltb}
use lib.IntN.{pos, negsuc, ◌-ℤ◌}
use lib.ListN.{length, get_or}
use mir.Syntax.{w16}
use mir.Val.{to_z, sel}
use Rattle.profile.proofs.Signs.{same, less_up, less_down}
use Rattle.profile.specs.Bytes.{signed, well_at, wells_at}

-- 16 bits are read as the machine reads them
as_signed : (n : ℕ) → n < 65536 → to_z w16 n ≡ signed n
unfolding signed
as_signed n h = go (ltb n 32768)
  where
    upper : negsuc (65536 - suc n) ≡ pos n -ℤ pos 65536
    upper = same _ (pos n -ℤ pos 65536) (omega (arith, less_up (pos n) (pos 65536))) (omega (arith, less_down (pos n) (pos 65536)))

    go : (b : Bool) → sel b (pos n) (negsuc (65536 - suc n)) ≡ cond b (pos n) (pos n -ℤ pos 65536)
    go true = refl
    go false = upper

-- and so are two bytes, the lower first
pub two_bytes : (low high : ℕ) → low < 256 → high < 256 → to_z w16 (low + high * 256) ≡ signed (low + 256 * high)
two_bytes low high h k = let e : low + high * 256 ≡ low + 256 * high = omega arith in rw e (as_signed _ (omega arith))

module _ (bytes : List ℕ) where
  pub wells_length : (at n : ℕ) → length (wells_at bytes at n) ≡ n
  unfolding wells_at
  wells_length at zero = refl
  wells_length at (suc n) = ap suc (wells_length (at + 2) n)

  -- its wells stand two bytes apart
  pub wells_well : (at n i : ℕ) → i < n → get_or (wells_at bytes at n) i (pos 0) ≡ well_at bytes (at + 2 * i)
  unfolding wells_at
  wells_well at zero i h = absurd (omega arith)
  wells_well at (suc n) zero h = ap (well_at bytes) (omega arith)
  wells_well at (suc n) (suc i) h = wells_well (at + 2) n i (omega arith) ∙ ap (well_at bytes) (omega arith)
