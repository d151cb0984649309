-- Where a number ends in a text: its bytes are digits and a minus, and what stands behind it begins with neither. Assumes nothing.
use mathlib.Core.Path.{◌≡◌, refl, ap, ap₂}
use mathlib.Core.List.{List, [], ◌∷◌, ◌++◌, append_assoc}
use Prim.Native.Nat.{ℕ, zero, suc, ◌≤◌, ◌<◌}
use native.Mathlib.Omega.{arith}
use lib.IntN.{ℤ, pos, negsuc, nat_abs}
use lib.ListN.{get_or, drop}
use Rattle.profile.specs.Distance.{Wells, none, well}
use Rattle.text.specs.Decimal.{decimal, signed_decimal}
use Rattle.text.specs.Listing.{values_text}
use Rattle.text.proofs.Decimals.{abs_16}
use Rattle.text.proofs.Reading.{decimal_digits, decimal_injective, signed_injective}

-- no byte comes before a minus
abbrev Word : List ℕ → Type 0
Word text = (i : ℕ) → 45 ≤ get_or text i 48

-- the first byte, if there is one, does
abbrev Behind : List ℕ → Type 0
Behind text = get_or text 0 0 < 45

ends_alike : (a b : List ℕ) {s t : List ℕ} → Word a → Word b → Behind s → Behind t → a ++ s ≡ b ++ t → (a ≡ b) × (s ≡ t)
ends_alike [] [] v w h k e = (refl, e)
ends_alike [] (y ∷ b) v w h k e = absurd (omega (arith, w 0, ap (λ l. get_or l 0 0) e))
ends_alike (x ∷ a) [] v w h k e = absurd (omega (arith, v 0, ap (λ l. get_or l 0 0) e))
ends_alike (x ∷ a) (y ∷ b) v w h k e =
    let more = ends_alike a b (λ i. v (suc i)) (λ i. w (suc i)) h k (ap (drop 1) e) in
    (ap₂ ◌∷◌ (ap (λ l. get_or l 0 0) e) more.0, more.1)

number_word : (n : ℕ) → Word (decimal n)
number_word n i = omega (arith, decimal_digits n i)

signed_word : (z : ℤ) → Word (signed_decimal z)
unfolding signed_decimal
signed_word (pos n) i = number_word n i
signed_word (negsuc n) zero = omega arith
signed_word (negsuc n) (suc i) = number_word (suc n) i

pub number_ends : (m n : ℕ) {s t : List ℕ} → m < 4294967296 → n < 4294967296 → Behind s → Behind t → decimal m ++ s ≡ decimal n ++ t → (m ≡ n) × (s ≡ t)
number_ends m n h k v w e = let both = ends_alike (decimal m) (decimal n) (number_word m) (number_word n) v w e in (decimal_injective m n h k both.0, both.1)

pub signed_ends : (x y : ℤ) {s t : List ℕ} → nat_abs x < 4294967296 → nat_abs y < 4294967296 → Behind s → Behind t → signed_decimal x ++ s ≡ signed_decimal y ++ t
    → (x ≡ y) × (s ≡ t)
signed_ends x y h k v w e =
    let both = ends_alike (signed_decimal x) (signed_decimal y) (signed_word x) (signed_word y) v w e in
    (signed_injective x y h k both.0, both.1)

-- the values of a profile, and the line feed behind them
pub values_behind : (vs : List ℤ) (s : List ℕ) → Behind (values_text vs ++ 10 ∷ s)
unfolding values_text
values_behind [] s = omega arith
values_behind (v ∷ vs) s = omega arith

pub values_end : {vs ws : List ℤ} {s t : List ℕ} → Wells vs → Wells ws → values_text vs ++ 10 ∷ s ≡ values_text ws ++ 10 ∷ t → (vs ≡ ws) × (s ≡ t)
unfolding values_text
values_end none none e = (refl, ap (drop 1) e)
values_end none (well g w) e = absurd (omega (arith, ap (λ l. get_or l 0 0) e))
values_end (well f v) none e = absurd (omega (arith, ap (λ l. get_or l 0 0) e))
values_end (well {x} {xs = vs} f v) (well {x = y} {xs = ws} g w) e =
    let first = signed_ends x y (abs_16 x f) (abs_16 y g) (values_behind vs _) (values_behind ws _) (simp append_assoc at (ap (drop 1) e)) in
    let rest = values_end v w first.1 in
    (ap₂ ◌∷◌ first.0 rest.0, rest.1)
