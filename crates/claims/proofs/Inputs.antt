-- What programs are asked here: lists written out are slices of bytes or of numbers of 32 bits, by computation; and small numbers are wells. Assumes nothing.
use mathlib.Core.Path.{◌≡◌, refl, sym}
use mathlib.Core.Bool.{Bool, true, false, ◌&&◌, true≢false}
use mathlib.Core.List.{List, [], ◌∷◌}
use Prim.Native.Nat.{ℕ, zero, suc, ◌<◌}
use native.Mathlib.Omega.{arith}
use lib.Dec.{ltb}
use lib.IntN.{pos}
use lib.ListN.{length, get_or, replicate}
use borrow.Author.Tests.{ltb-true}
use mir.Syntax.{w16}
use mir.Val.{SFits}
use Rattle.profile.specs.Distance.{Wells}
use Rattle.content.specs.Bytes.{Bytes}
use Rattle.content.proofs.Blocks.{bytes_none, bytes_more}
use Rattle.claims.specs.Example.{example_with, example, reversed}
use Rattle.claims.specs.Programs.{In64, Words, Slice}
use Rattle.claims.proofs.Example.{renamed}

-- every element is below a bound
unfoldable under : ℕ → List ℕ → Bool
under bound [] = true
under bound (x ∷ xs) = ltb x bound && under bound xs

pub both_true : (s t : Bool) → (s && t) ≡ true → (s ≡ true) × (t ≡ true)
both_true true t e = (refl, e)
both_true false t e = absurd (true≢false (sym e))

under_at : (bound : ℕ) → 0 < bound → (xs : List ℕ) → under bound xs ≡ true → (j : ℕ) → get_or xs j 0 < bound
unfolding under
under_at bound some [] e j = some
under_at bound some (x ∷ xs) e zero = ltb-true x bound (both_true (ltb x bound) (under bound xs) e).0
under_at bound some (x ∷ xs) e (suc j) = under_at bound some xs (both_true (ltb x bound) (under bound xs) e).1 j

bytes_by : (xs : List ℕ) → under 256 xs ≡ true → In64 (length xs) → Slice Bytes xs
bytes_by xs e h = record { elements = record { low = under_at 256 (omega arith) xs e }; is_length = h }

words_by : (xs : List ℕ) → under 4294967296 xs ≡ true → In64 (length xs) → Slice Words xs
words_by xs e h = record { elements = record { low = under_at 4294967296 (omega arith) xs e }; is_length = h }

-- the example libraries
pub example_bytes : Slice Bytes example
unfolding example_with under
example_bytes = bytes_by example refl (omega arith)

pub uncovered_bytes : Slice Bytes (example_with 1)
unfolding example_with under
uncovered_bytes = bytes_by (example_with 1) refl (omega arith)

pub renamed_bytes : Slice Bytes renamed
unfolding example_with renamed under
renamed_bytes = bytes_by renamed refl (omega arith)

pub reversed_bytes : Slice Bytes reversed
unfolding reversed under
reversed_bytes = bytes_by reversed refl (omega arith)

-- lent memory of zeros
pub bytes_zeros : (n : ℕ) → Bytes (replicate n 0)
bytes_zeros zero = bytes_none
bytes_zeros (suc n) = bytes_more 0 (replicate n 0) (omega arith) (bytes_zeros n)

pub two_lent : Slice Words (0 ∷ 0 ∷ [])
unfolding under
two_lent = words_by (0 ∷ 0 ∷ []) refl (omega arith)

pub four_lent : Slice Words (0 ∷ 0 ∷ 0 ∷ 0 ∷ [])
unfolding under
four_lent = words_by (0 ∷ 0 ∷ 0 ∷ 0 ∷ []) refl (omega arith)

-- plates of one well, one or two of them, and a well in two bytes
small : (n : ℕ) → n < 32768 → SFits w16 (pos n)
small n h = record { sfits = omega arith }

pub one_plate : (n : ℕ) → n < 32768 → Slice Wells (pos n ∷ [])
one_plate n h = record { elements = Wells.well (small n h) Wells.none; is_length = omega arith }

pub two_plates : (m n : ℕ) → m < 32768 → n < 32768 → Slice Wells (pos m ∷ pos n ∷ [])
two_plates m n h l = record { elements = Wells.well (small m h) (Wells.well (small n l) Wells.none); is_length = omega arith }

pub well_bytes : (n : ℕ) → n < 256 → Slice Bytes (n ∷ 0 ∷ [])
well_bytes n h = record { elements = bytes_more n (0 ∷ []) h (bytes_zeros 1); is_length = omega arith }
