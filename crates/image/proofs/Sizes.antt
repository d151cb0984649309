-- Products that keep reads within a library. Assumes nothing.
use Prim.Native.Nat.{ℕ, ◌+◌, ◌*◌, ◌≤◌, ◌<◌}
use native.Mathlib.Nat.{mul-suc, mul-le-mul_left}

-- a row of w before row n ends before it
pub row_in : (w : ℕ) {i n : ℕ} → i < n → w * i + w ≤ w * n
row_in w {i} h = rw mul-suc at (mul-le-mul_left w h)
