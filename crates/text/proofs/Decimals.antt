-- The laws of numbers in decimal: they are what std prints, and how long they are. Assumes nothing.
use mathlib.Core.Path.{◌≡◌, refl, sym, ◌∙◌, ap}
use mathlib.Core.List.{[], ◌∷◌, ◌++◌}
use Prim.Native.Nat.{ℕ, zero, suc, ◌+◌, ◌/◌, ◌%◌, ◌^◌, ◌≤◌, ◌<◌}
use native.Mathlib.Omega.{arith}
use borrow.Author.Tests.{lt-ltb, le-ltb}
use lib.IntN.{ℤ, pos, negsuc, nat_abs}
use lib.ListN.{length, length-append}
use mir.Syntax.{w16, w32}
use mir.Val.{SFits}
use Rattle.std.specs.Fmt as std
use Rattle.std.proofs.lemmas.Fmt.{decimal_from_appends, length-decimal-le}
use Rattle.itoa.proofs.Decimal.{length_one, length_two, length_pair, length_four}
use Rattle.profile.proofs.Signs.{wider}
use Rattle.ranking.proofs.Insert.{split}
use Rattle.text.specs.Decimal.{digit, digits_in, decimal, signed_decimal}

pub digits_one : (most n : ℕ) → n < 10 → digits_in (suc most) n ≡ digit n ∷ []
unfolding digits_in
digits_one most n h = rw (lt-ltb n 10 h) refl

pub digits_step : (most n : ℕ) → 10 ≤ n → digits_in (suc most) n ≡ digits_in most (n / 10) ++ digit (n % 10) ∷ []
unfolding digits_in
digits_step most n h = rw (le-ltb n 10 h) refl

digits_length : (most n : ℕ) → length (digits_in most n) ≤ most
unfolding digits_in
digits_length zero n = omega arith
digits_length (suc most) n =
    split n 10
    (λ lt. rw (digits_one most n lt) (omega arith))
    (λ ge. rw (digits_step most n ge, length-append) (omega (arith, digits_length most (n / 10))))

pub decimal_most : (n : ℕ) → length (decimal n) ≤ 10
unfolding decimal
decimal_most n = digits_length 10 n

-- ---- what std prints of a number of 32 bits

pub decimal_same : (n : ℕ) → n < 2 ^ 32 → std.decimal n ≡ decimal n
unfolding decimal
decimal_same n h =
    sym (decimal_from_appends digits_in (record { one = digits_one; more = digits_step }) 10 n (omega arith) (length-decimal-le 10 n (omega arith) (omega arith) (omega arith)))

pub signed_same : (z : ℤ) → nat_abs z < 2 ^ 32 → std.signed_decimal z ≡ signed_decimal z
unfolding signed_decimal
signed_same (pos n) h = decimal_same n h
signed_same (negsuc n) h = ap (◌∷◌ 45) (decimal_same (suc n) h)

abs_32 : (z : ℤ) → SFits w32 z → nat_abs z < 2 ^ 32
abs_32 (pos n) f = omega (arith, f.sfits)
abs_32 (negsuc n) f = omega (arith, f.sfits)

pub abs_16 : (z : ℤ) → SFits w16 z → nat_abs z < 2 ^ 32
abs_16 z f = abs_32 z (wider tt f)

-- ---- how many digits a number has

module _ (n : ℕ) (h : n < 2 ^ 32) where
  long : length (std.decimal n) ≡ length (decimal n)
  long = ap length (decimal_same n h)

  pub long_one : n < 10 → 1 ≡ length (decimal n)
  long_one low = sym (length_one n low) ∙ long

  pub long_two : 10 ≤ n → n < 100 → 2 ≡ length (decimal n)
  long_two high low = sym (length_two n high low) ∙ long

  pub long_three : 100 ≤ n → n < 1000 → 3 ≡ length (decimal n)
  long_three high low = omega (arith, length_pair n high (omega arith), length_one (n / 100) (omega arith), long)

  pub long_of_four : 1000 ≤ n → n < 10000 → 4 ≡ length (decimal n)
  long_of_four high low = omega (arith, length_pair n (omega arith) (omega arith), length_two (n / 100) (omega arith) (omega arith), long)

  pub long_four : 10000 ≤ n → 4 + length (decimal (n / 10000)) ≡ length (decimal n)
  long_four high = omega (arith, length_four n high (omega arith), long, ap length (decimal_same (n / 10000) (omega arith)))

-- a number below a power of ten has so many digits at most
pub digits_most : (k n : ℕ) → 0 < k → n < 10 ^ k → n < 2 ^ 32 → length (decimal n) ≤ k
digits_most k n l h m = rw (← decimal_same n m) (length-decimal-le k n l h (omega arith))
