-- Numbers in decimal, as bytes of ASCII. Assumes nothing.
use Rattle.std.specs.Prelude.{cond, List, [], ◌∷◌, ◌++◌, ℕ, zero, suc, ◌+◌, ◌/◌, ◌%◌, ltb, ℤ, pos, negsuc}

abbrev pub digit : ℕ → ℕ
digit d = 48 + d

-- a number in `most` digits at most, with no zero in front
unfoldable pub digits_in : (most : ℕ) → ℕ → List ℕ
digits_in zero n = []
digits_in (suc most) n = cond (ltb n 10) (digit n ∷ []) (digits_in most (n / 10) ++ digit (n % 10) ∷ [])

-- ten digits hold every number of 32 bits
unfoldable pub decimal : ℕ → List ℕ
decimal n = digits_in 10 n

-- a minus stands before a number below zero
unfoldable pub signed_decimal : ℤ → List ℕ
signed_decimal (pos n) = decimal n
signed_decimal (negsuc n) = 45 ∷ decimal (suc n)
