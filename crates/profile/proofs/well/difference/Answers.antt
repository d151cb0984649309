-- `well::difference` meets its contract. A signed local holds bits, so what is read of it is `to_z w (of_z w z)`, which is z where z fits (`as_wide`).
-- Both arms take the smaller well from the larger: `less` says what that needs, once. Assumes nothing.
use mathlib.Core.Path.{◌≡◌, refl}
use mathlib.Core.Bool.{true, false}
use Prim.Native.Nat.{◌+◌, ◌≤◌}
use native.Mathlib.Omega.{arith}
use lib.Dec.{T}
use lib.IntN.{ℤ, ◌-ℤ◌, nat_abs}
use lib.Signed.{lt_z, non_neg}
use mir.Syntax.{w16, w32}
use mir.Val.{SFits, Fits, to_z, of_z}
use mir.ValLaws.{to_z-of_z}
use Rattle.profile.specs.Distance.{gap}
use Rattle.profile.proofs.Wells.{gap_symmetric}
use Rattle.profile.proofs.Signs.{up, down, wider, fits_in, fits_up, fits_down, less_up, less_down, to_unsigned, lt_yes, lt_no}
use Rattle.profile.proofs.well.difference.Goals as goal

-- a well, read back at 32 bits
abbrev wide : ℤ → ℤ
wide z = to_z w32 (of_z w32 (to_z w16 (of_z w16 z)))

as_wide : (z : ℤ) → SFits w16 z → wide z ≡ z
as_wide z h = let k : SFits w32 z = wider tt h in simp to_z-of_z

cast-well : (z : ℤ) → SFits w16 z → SFits w32 (to_z w16 (of_z w16 z))
cast-well z h = rw (to_z-of_z w16 z h) (wider tt h)

-- the smaller of two wells taken from the larger
module _ (x y : ℤ) (f : SFits w16 x) (g : SFits w16 y) (h : up y + down x ≤ up x + down y) where
  less : SFits w32 (x -ℤ y)
  less = fits_in w32 (x -ℤ y)
      (omega (arith, less_up x y, fits_up w16 x f, fits_down w16 y g))
      (omega (arith, less_down x y))

  less-wide : SFits w32 (wide x -ℤ wide y)
  less-wide = rw (as_wide x f, as_wide y g) less

  as_read : to_z w32 (of_z w32 (wide x -ℤ wide y)) ≡ x -ℤ y
  as_read = rw (as_wide x f, as_wide y g, to_z-of_z w32 (x -ℤ y) less)

  unsigned : T (non_neg (x -ℤ y)) × Fits w16 (nat_abs (x -ℤ y))
  unsigned = to_unsigned w16 (x -ℤ y) (omega (arith, less_down x y)) (omega (arith, less_up x y, fits_up w16 x f, fits_down w16 y g))

-- what the test says of the two wells
below : (c : goal.Then-a-b) → up c.args.x + down c.args.y ≤ up c.args.y + down c.args.x
below c =
    let x = c.args.x in let y = c.args.y in
    let t : lt_z x y ≡ true = rw (as_wide x c.ranges.x, as_wide y c.ranges.y) at c.if-a-b.true in
    omega (arith, lt_yes x y t)

above : (c : goal.Else-a-b) → up c.args.y + down c.args.x ≤ up c.args.x + down c.args.y
above c =
    let x = c.args.x in let y = c.args.y in
    let t : lt_z x y ≡ false = rw (as_wide x c.ranges.x, as_wide y c.ranges.y) at c.if-a-b.false in
    lt_no x y t

pub overflow_cast-a : goal.overflow_cast-a
overflow_cast-a c = cast-well c.args.x c.ranges.x

pub overflow_cast-b : goal.overflow_cast-b
overflow_cast-b c = cast-well c.args.y c.ranges.y

pub overflow_sub-result : goal.overflow_sub-result
overflow_sub-result c = less-wide _ _ c.ranges.y c.ranges.x (below c)

pub overflow_cast-result : goal.overflow_cast-result
overflow_cast-result c =
    rw (as_read c.args.y c.args.x c.ranges.y c.ranges.x (below c)) (unsigned _ _ c.ranges.y c.ranges.x (below c))

pub overflow_sub-result-else-a-b : goal.overflow_sub-result-else-a-b
overflow_sub-result-else-a-b c = less-wide _ _ c.ranges.x c.ranges.y (above c)

pub overflow_cast-result-else-a-b : goal.overflow_cast-result-else-a-b
overflow_cast-result-else-a-b c =
    rw (as_read c.args.x c.args.y c.ranges.x c.ranges.y (above c)) (unsigned _ _ c.ranges.x c.ranges.y (above c))

pub returns-then-a-b : goal.returns-then-a-b
unfolding gap
returns-then-a-b c =
    rw (as_read c.args.y c.args.x c.ranges.y c.ranges.x (below c)) (gap_symmetric c.args.y c.args.x)

pub returns-else-a-b : goal.returns-else-a-b
unfolding gap
returns-else-a-b c =
    rw (as_read c.args.x c.args.y c.ranges.x c.ranges.y (above c)) refl
