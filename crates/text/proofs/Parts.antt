-- The laws of a listing's parts, a profile's values and the lines: one more stands behind the others, and all leave room for it. Assumes nothing.
use mathlib.Core.Path.{◌≡◌, refl, sym, ap}
use mathlib.Core.List.{List, [], ◌∷◌, ◌++◌, append_assoc}
use Prim.Native.Nat.{ℕ, zero, suc, ◌+◌, ◌*◌, ◌-◌, ◌≤◌, ◌<◌}
use native.Mathlib.Omega.{arith}
use lib.ListN.{length, length-append}
use Rattle.std.proofs.lemmas.List.{append-nil}
use Rattle.profile.specs.Bytes.{well_at, wells_at}
use Rattle.text.specs.Decimal.{signed_decimal}
use Rattle.text.specs.Listing.{values_text, record_line, record_lines}

module _ (xs : List ℕ) where
  values_split : (at m n : ℕ) → values_text (wells_at xs at (m + n)) ≡ values_text (wells_at xs at m) ++ values_text (wells_at xs (at + 2 * m) n)
  unfolding values_text wells_at
  values_split at zero n = let e : 0 + n ≡ n = omega arith in let f : at + 0 ≡ at = omega arith in rw (e, f)
  values_split at (suc m) n =
      let e : suc m + n ≡ suc (m + n) = omega arith in
      let f : at + 2 * suc m ≡ at + 2 + 2 * m = omega arith in
      rw (e, f, values_split (at + 2) m n) (ap (◌∷◌ 32) (sym (append_assoc (signed_decimal (well_at xs at)) _ _)))

  lines_split : (i m n : ℕ) → record_lines xs i (m + n) ≡ record_lines xs i m ++ record_lines xs (i + m) n
  unfolding record_lines
  lines_split i zero n = let e : 0 + n ≡ n = omega arith in let f : i + 0 ≡ i = omega arith in rw (e, f)
  lines_split i (suc m) n =
      let e : suc m + n ≡ suc (m + n) = omega arith in
      let f : i + suc m ≡ suc i + m = omega arith in
      rw (e, f, lines_split (suc i) m n) (sym (append_assoc (record_line xs i) _ _))

  pub values_none : (at : ℕ) → values_text (wells_at xs at 0) ≡ []
  unfolding values_text wells_at
  values_none at = refl

  pub values_more : (at n : ℕ) → values_text (wells_at xs at (n + 1)) ≡ values_text (wells_at xs at n) ++ (32 ∷ signed_decimal (well_at xs (at + 2 * n)))
  unfolding values_text wells_at
  values_more at n = rw (values_split at n 1, append-nil)

  pub values_room : (at n wells : ℕ) → n < wells
      → length (values_text (wells_at xs at n)) + length (32 ∷ signed_decimal (well_at xs (at + 2 * n))) ≤ length (values_text (wells_at xs at wells))
  values_room at n wells h =
      let e : wells ≡ n + 1 + (wells - (n + 1)) = omega arith in
      rw (e, values_split at (n + 1) (wells - (n + 1)), values_more at n, length-append, length-append) (omega arith)

  pub lines_none : record_lines xs 0 0 ≡ []
  unfolding record_lines
  lines_none = refl

  pub lines_more : (n : ℕ) → record_lines xs 0 (n + 1) ≡ record_lines xs 0 n ++ record_line xs n
  unfolding record_lines
  lines_more n = let e : 0 + n ≡ n = omega arith in rw (lines_split 0 n 1, append-nil, e)

  pub lines_room : (n many : ℕ) → n < many → length (record_lines xs 0 n) + length (record_line xs n) ≤ length (record_lines xs 0 many)
  lines_room n many h =
      let e : many ≡ n + 1 + (many - (n + 1)) = omega arith in
      rw (e, lines_split 0 (n + 1) (many - (n + 1)), lines_more n, length-append, length-append) (omega arith)
