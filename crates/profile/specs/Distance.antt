-- The distance of two profiles. Assumes nothing.
use Rattle.std.specs.Prelude.{◌≡◌, List, [], ◌∷◌, ℕ, zero, suc, ◌+◌, max, ℤ, ◌-ℤ◌, nat_abs, length}
use Rattle.std.specs.Int.{w16}
use Rattle.std.proofs.Common.{SFits}

-- each well holds a signed 16-bit value
pub data Wells : List ℤ → Type 0 where
  none : Wells []
  well : {x : ℤ} {xs : List ℤ} → SFits w16 x → Wells xs → Wells (x ∷ xs)

-- a profile of w wells
pub record Profile (w : ℕ) (xs : List ℤ) : Type 0 where
  pub count : length xs ≡ w
  pub values : Wells xs

-- the absolute difference of two whole numbers
unfoldable pub gap : ℤ → ℤ → ℕ
gap x y = nat_abs (x -ℤ y)

-- the wells' absolute differences, joined by `op`. Of two lists that differ in length, as far as the shorter goes
unfoldable pub joined : (ℕ → ℕ → ℕ) → List ℤ → List ℤ → ℕ
joined op [] ys = 0
joined op (x ∷ xs) [] = 0
joined op (x ∷ xs) (y ∷ ys) = op (gap x y) (joined op xs ys)

-- metric 1, the city block: the sum of the wells' absolute differences
abbrev pub city_block : List ℤ → List ℤ → ℕ
city_block = joined ◌+◌

-- metric 2: the largest absolute difference
abbrev pub largest : List ℤ → List ℤ → ℕ
largest = joined max

-- the distance by the metric's number. A number other than 1 and 2 is no metric, and 0 stands there
unfoldable pub distance : ℕ → List ℤ → List ℤ → ℕ
distance zero xs ys = 0
distance (suc zero) xs ys = city_block xs ys
distance (suc (suc zero)) xs ys = largest xs ys
distance (suc (suc (suc n))) xs ys = 0
