-- A profile's bytes by one well more. Assumes nothing.
use mathlib.Core.Path.{◌≡◌, refl, ap}
use mathlib.Core.List.{List, [], ◌∷◌, ◌++◌, flat_map}
use Prim.Native.Nat.{ℕ, zero, suc, ◌<◌}
use native.Mathlib.Omega.{arith}
use lib.IntN.{ℤ, pos, negsuc}
use lib.ListN.{length, get_or, take}
use mir.Syntax.{w16}
use mir.Val.{SFits}
use Rattle.std.specs.Int.{cast_unsigned}
use Rattle.profile.specs.Distance.{Wells}
use Rattle.content.specs.Bytes.{bytes16, word_of, profile_bytes}

pub profile_none : profile_bytes [] ≡ []
unfolding profile_bytes flat_map
profile_none = refl

pub profile_more : (p : List ℤ) (i : ℕ) → i < length p
    → profile_bytes (take (suc i) p) ≡ profile_bytes (take i p) ++ bytes16 (word_of (get_or p i (pos 0)))
unfolding profile_bytes flat_map
profile_more [] i h = absurd (omega arith)
profile_more (z ∷ p) zero h = refl
profile_more (z ∷ p) (suc i) h = ap (λ (r : List ℕ). bytes16 (word_of z) ++ r) (profile_more p i (omega arith))

-- a well's bits are its word
pub word_is : (z : ℤ) → cast_unsigned w16 z ≡ word_of z
unfolding word_of
word_is (pos n) = refl
word_is (negsuc k) = omega arith

-- a list of 16-bit values is a list of wells
pub wells_of_lem : (p : List ℤ) → ((i : ℕ) → i < length p → SFits w16 (get_or p i (pos 0))) → Wells p
wells_of_lem [] h = Wells.none
wells_of_lem (x ∷ p) h = Wells.well (h 0 (omega arith)) (wells_of_lem p (λ i k. h (suc i) (omega arith)))
