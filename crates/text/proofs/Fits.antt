-- Every listing fits into 147,456 bytes: a header into 68, and each of at most 1,024 lines into 137. Assumes nothing.
use mathlib.Core.List.{List}
use Prim.Native.Nat.{ℕ, zero, suc, ◌+◌, ◌*◌, ◌≤◌, ◌<◌}
use native.Mathlib.Omega.{arith}
use lib.IntN.{ℤ, pos, negsuc}
use lib.ListN.{length, length-append}
use mir.Syntax.{w16}
use mir.Val.{SFits}
use Rattle.profile.specs.Bytes.{well_at, wells_at}
use Rattle.profile.specs.Level.{level_of}
use Rattle.image.specs.Numbers.{u16_at}
use Rattle.image.specs.Fields.{wells_of, metric_of, count_of, root_of, code_at, parent_at, level_byte_at, profile_start, profile_at}
use Rattle.image.specs.Library.{Library}
use Rattle.content.specs.Bytes.{Bytes}
use Rattle.content.proofs.Numbers.{signed_fits}
use Rattle.text.specs.Decimal.{signed_decimal}
use Rattle.text.specs.Listing.{values_text, header_line, node_text, record_line, record_lines, listing, refused_line}
use Rattle.text.proofs.Decimals.{decimal_most, digits_most}

-- a value of 16 bits takes six bytes at most, a level two
value_most : (z : ℤ) → SFits w16 z → length (signed_decimal z) ≤ 6
unfolding signed_decimal
value_most (pos n) f = omega (arith, digits_most 5 n (omega arith) (omega (arith, f.sfits)) (omega (arith, f.sfits)))
value_most (negsuc n) f = omega (arith, digits_most 5 (suc n) (omega arith) (omega (arith, f.sfits)) (omega (arith, f.sfits)))

level_most : (byte : ℕ) → byte ≤ 21 → length (signed_decimal (level_of byte)) ≤ 2
unfolding signed_decimal
level_most zero h = omega (arith, digits_most 1 1 (omega arith) (omega arith) (omega arith))
level_most (suc n) h = digits_most 2 n (omega arith) (omega arith) (omega arith)

header_fits : (xs : List ℕ) → length (header_line xs) ≤ 68
unfolding header_line
header_fits xs = simp length-append (omega (arith, decimal_most (wells_of xs), decimal_most (metric_of xs), decimal_most (count_of xs), decimal_most (code_at xs (root_of xs))))

pub refused_fits : (number : ℕ) → length (refused_line number) ≤ 19
unfolding refused_line
refused_fits number = simp length-append (omega (arith, decimal_most number))

module _ {xs : List ℕ} (b : Bytes xs) (l : Library xs) where
  values_fit : (at wells : ℕ) → length (values_text (wells_at xs at wells)) ≤ 7 * wells
  unfolding well_at wells_at values_text
  values_fit at zero = omega arith
  values_fit at (suc wells) =
      simp length-append (omega (arith, values_fit (at + 2) wells, value_most (well_at xs at) (signed_fits (u16_at xs at) (omega (arith, b.low at, b.low (at + 1))))))

  record_fits : (i : ℕ) → i < count_of xs → length (record_line xs i) ≤ 137
  unfolding record_line node_text profile_at
  record_fits i h =
      simp length-append (omega (
        arith,
        decimal_most (code_at xs i),
        decimal_most (code_at xs (parent_at xs i)),
        level_most (level_byte_at xs i) (l.layout.level_byte i h),
        values_fit (profile_start (count_of xs) (wells_of xs) i) (wells_of xs),
        l.layout.wells,
      ))

  lines_most : (i many : ℕ) → i + many ≤ count_of xs → length (record_lines xs i many) ≤ 137 * many
  unfolding record_lines
  lines_most i zero h = omega arith
  lines_most i (suc many) h = rw length-append (omega (arith, record_fits i (omega arith), lines_most (suc i) many (omega arith)))

  pub listing_fits : length (listing xs) ≤ 147456
  unfolding listing
  listing_fits = rw length-append (omega (arith, header_fits xs, lines_most 0 (count_of xs) (omega arith), l.layout.count))
