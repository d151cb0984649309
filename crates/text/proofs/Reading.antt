-- Numbers in decimal, read back: two numbers of 32 bits with the same text are the same. Assumes nothing.
use mathlib.Core.Path.{◌≡◌, sym, ◌∙◌}
use mathlib.Core.List.{List, [], ◌∷◌, ◌++◌}
use Prim.Native.Nat.{ℕ, zero, suc, ◌/◌, ◌%◌, ◌≤◌, ◌<◌}
use native.Mathlib.Omega.{arith}
use lib.IntN.{ℤ, pos, negsuc, nat_abs}
use lib.ListN.{get_or}
use lib.Signed.{mag}
use Rattle.std.proofs.lemmas.Fmt as std
use Rattle.ranking.proofs.Insert.{split}
use Rattle.text.specs.Decimal.{digit, digits_in, decimal, signed_decimal}
use Rattle.text.proofs.Decimals.{digits_one, digits_step, decimal_same, signed_same}

pub decimal_injective : (m n : ℕ) → m < 4294967296 → n < 4294967296 → decimal m ≡ decimal n → m ≡ n
decimal_injective m n h k e = std.decimal_injective m n (omega arith) (omega arith) (decimal_same m h ∙ e ∙ sym (decimal_same n k))

-- ---- every byte of a number is a digit, so none is a space, a minus or a line feed

abbrev pub Digit : ℕ → Type 0
Digit c = (48 ≤ c) × (c ≤ 57)

digit_last : (digits : List ℕ) (d : ℕ) → d < 10 → ((i : ℕ) → Digit (get_or digits i 48)) → (i : ℕ) → Digit (get_or (digits ++ digit d ∷ []) i 48)
digit_last [] d h each zero = omega arith
digit_last [] d h each (suc i) = omega arith
digit_last (c ∷ digits) d h each zero = each 0
digit_last (c ∷ digits) d h each (suc i) = digit_last digits d h (λ j. each (suc j)) i

digits_are : (most n i : ℕ) → Digit (get_or (digits_in most n) i 48)
unfolding digits_in
digits_are zero n i = omega arith
digits_are (suc most) n i =
    split n 10
    (λ lt. rw (digits_one most n lt) (digit_last [] n lt (λ j. omega arith) i))
    (λ ge. rw (digits_step most n ge) (digit_last (digits_in most (n / 10)) (n % 10) (omega arith) (digits_are most (n / 10)) i))

pub decimal_digits : (n i : ℕ) → Digit (get_or (decimal n) i 48)
unfolding decimal
decimal_digits n i = digits_are 10 n i

mag_most : (z : ℤ) → mag z ≤ nat_abs z
mag_most (pos n) = omega arith
mag_most (negsuc n) = omega arith

pub signed_injective : (x y : ℤ) → nat_abs x < 4294967296 → nat_abs y < 4294967296 → signed_decimal x ≡ signed_decimal y → x ≡ y
signed_injective x y h k e = std.signed_decimal_injective x y (omega (arith, mag_most x)) (omega (arith, mag_most y)) (signed_same x h ∙ e ∙ sym (signed_same y k))
