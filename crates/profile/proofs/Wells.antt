-- The laws of the difference of two wells. Assumes nothing.
use mathlib.Core.Path.{◌≡◌, ap}
use Prim.Native.Nat.{◌+◌, ◌-◌, ◌≤◌}
use native.Mathlib.Omega.{arith}
use lib.IntN.{ℤ, pos, negsuc, ◌-ℤ◌}
use mir.Syntax.{w16}
use mir.Val.{SFits}
use Rattle.profile.specs.Distance.{gap}
use Rattle.profile.proofs.Signs.{up, down, abs_is, less_up, less_down, fits_up, fits_down}

-- in natural numbers
pub gap_is : (x y : ℤ) → gap x y ≡ ((up x + down y) - (down x + up y)) + ((down x + up y) - (up x + down y))
unfolding gap
gap_is x y = omega (arith, abs_is (x -ℤ y), less_up x y, less_down x y)

pub gap_self : (x : ℤ) → gap x x ≡ 0
gap_self x = omega (arith, gap_is x x)

pub gap_symmetric : (x y : ℤ) → gap x y ≡ gap y x
gap_symmetric x y = omega (arith, gap_is x y, gap_is y x)

pub gap_triangle : (x y z : ℤ) → gap x z ≤ gap x y + gap y z
gap_triangle x y z = omega (arith, gap_is x y, gap_is y z, gap_is x z)

pub gap_apart : (x y : ℤ) → gap x y ≡ 0 → x ≡ y
gap_apart (pos a) (pos b) h = ap pos (omega (arith, gap_is (pos a) (pos b)))
gap_apart (pos a) (negsuc b) h = absurd (omega (arith, gap_is (pos a) (negsuc b)))
gap_apart (negsuc a) (pos b) h = absurd (omega (arith, gap_is (negsuc a) (pos b)))
gap_apart (negsuc a) (negsuc b) h = ap negsuc (omega (arith, gap_is (negsuc a) (negsuc b)))

-- two wells of 16 bits are at most 65,535 apart
pub gap_bound : (x y : ℤ) → SFits w16 x → SFits w16 y → gap x y ≤ 65535
gap_bound x y f g = omega (arith, gap_is x y, fits_up w16 x f, fits_down w16 x f, fits_up w16 y g, fits_down w16 y g)

-- 16 bits do not hold every difference with its sign, so code that kept it there would go wrong at these two
pub not_in_16_bits : SFits w16 (pos 32767 -ℤ negsuc 32767) → ⊥
not_in_16_bits h = omega (arith, h.sfits)
