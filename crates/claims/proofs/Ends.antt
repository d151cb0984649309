-- Values at their ends: distances of wells, and numbers as text. By computation. Assumes nothing.
use mathlib.Core.Path.{◌≡◌, refl}
use mathlib.Core.List.{[], ◌∷◌}
use lib.IntN.{pos, neg_ℤ}
use Rattle.profile.specs.Distance.{gap, joined, distance}
use Rattle.text.specs.Decimal.{digits_in, decimal, signed_decimal}
use Rattle.text.specs.Listing.{ascii}

-- the wells at their ends, by each metric
pub ends_city_block : distance 1 (pos 32767 ∷ neg_ℤ (pos 32768) ∷ []) (neg_ℤ (pos 32768) ∷ pos 32767 ∷ []) ≡ 131070
unfolding gap joined distance
ends_city_block = refl

pub ends_largest : distance 2 (pos 32767 ∷ neg_ℤ (pos 5) ∷ []) (neg_ℤ (pos 32768) ∷ pos 3 ∷ []) ≡ 65535
unfolding gap joined distance
ends_largest = refl

-- the least and the largest number of 32 bits, and the least value of a well
pub least_number : decimal 0 ≡ ascii "0"
unfolding digits_in decimal
least_number = refl

pub largest_number : decimal 4294967295 ≡ ascii "4294967295"
unfolding digits_in decimal
largest_number = refl

pub least_value : signed_decimal (neg_ℤ (pos 32768)) ≡ ascii "-32768"
unfolding digits_in decimal signed_decimal
least_value = refl
