-- A number with its sign, as it is written: a minus and its amount, or its amount alone. Assumes nothing.
use mathlib.Core.Path.{◌≡◌, refl, ◌∙◌}
use mathlib.Core.Bool.{true, false}
use mathlib.Core.List.{◌∷◌}
use native.Mathlib.Omega.{arith}
use lib.IntN.{ℤ, pos, negsuc, nat_abs}
use lib.Signed.{lt_z}
use mir.Syntax.{w16, w32}
use mir.Val.{SFits, to_z, of_z}
use mir.ValLaws.{to_z-of_z}
use Rattle.profile.proofs.Signs.{wider, lt_yes, lt_no}
use Rattle.text.specs.Decimal.{decimal, signed_decimal}

below : (z : ℤ) → lt_z z (pos 0) ≡ true → signed_decimal z ≡ 45 ∷ decimal (nat_abs z)
unfolding signed_decimal
below (pos n) t = absurd (omega (arith, lt_yes (pos n) (pos 0) t))
below (negsuc k) t = refl

above : (z : ℤ) → lt_z z (pos 0) ≡ false → signed_decimal z ≡ decimal (nat_abs z)
unfolding signed_decimal
above (pos n) t = refl
above (negsuc k) t = absurd (omega (arith, lt_no (negsuc k) (pos 0) t))

-- as the code holds it
module _ (z : ℤ) (f : SFits w32 z) where
  own : to_z w32 (of_z w32 z) ≡ z
  own = to_z-of_z w32 z f

  pub minus_is : lt_z (to_z w32 (of_z w32 z)) (pos 0) ≡ true → signed_decimal z ≡ 45 ∷ decimal (nat_abs (to_z w32 (of_z w32 z)))
  minus_is t = rw own (below z (rw own at t))

  pub plain_is : lt_z (to_z w32 (of_z w32 z)) (pos 0) ≡ false → signed_decimal z ≡ decimal (nat_abs (to_z w32 (of_z w32 z)))
  plain_is t = rw own (above z (rw own at t))

-- a well, made wider
pub widened : (z r : ℤ) → SFits w16 z → r ≡ to_z w16 (of_z w16 z) → to_z w32 (of_z w32 r) ≡ z
widened z r f e = rw (e ∙ to_z-of_z w16 z f) (to_z-of_z w32 z (wider tt f))
