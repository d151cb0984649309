-- Numbers and the bytes that hold them, both ways. Assumes nothing.
use mathlib.Core.Path.{◌≡◌, refl, ap, ◌∙◌}
use mathlib.Core.Bool.{Bool, true, false, cond}
use mathlib.Core.List.{[], ◌∷◌}
use Prim.Native.Nat.{ℕ, zero, suc, ◌+◌, ◌-◌, ◌*◌, ◌/◌, ◌%◌, ◌≤◌, ◌<◌}
use native.Mathlib.Omega.{arith}
use borrow.Author.Tests.{ltb-true, ltb-false}
use lib.Dec.{ltb}
use lib.IntN.{ℤ, pos, negsuc, ◌-ℤ◌}
use lib.Signed.{◌≤ℤ◌}
use mir.Syntax.{w16}
use mir.Val.{SFits}
use Rattle.profile.specs.Bytes.{signed}
use Rattle.profile.specs.Level.{level_of}
use Rattle.profile.proofs.Levels.{byte_least}
use Rattle.profile.proofs.Signs.{same, less_up, less_down, le_parts, parts_le}
use Rattle.content.specs.Bytes.{bytes16, bytes32, word_of, level_byte_of}

-- ---- 16 and 32 bits, the lower byte first

-- read back what was written
pub read_16 : (n : ℕ) → n % 256 + 256 * (n / 256) ≡ n
read_16 n = omega arith

pub read_32 : (n : ℕ) → n % 65536 % 256 + 256 * (n % 65536 / 256) + 65536 * (n / 65536 % 256 + 256 * (n / 65536 / 256)) ≡ n
read_32 n = omega arith

pub halves_16 : (n : ℕ) → n < 65536 → (n % 256 < 256) × (n / 256 < 256)
halves_16 n h = (omega arith, omega arith)

pub halves_32 : (n : ℕ) → n < 4294967296 → (n % 65536 < 65536) × (n / 65536 < 65536)
halves_32 n h = (omega arith, omega arith)

-- write back what was read
pub written_16 : (a b : ℕ) → a < 256 → b < 256 → bytes16 (a + 256 * b) ≡ a ∷ b ∷ []
written_16 a b h k =
    let low : (a + 256 * b) % 256 ≡ a = omega arith in
    let high : (a + 256 * b) / 256 ≡ b = omega arith in
    cc

pub written_32 : (a b c d : ℕ) → a < 256 → b < 256 → c < 256 → d < 256 → bytes32 (a + 256 * b + 65536 * (c + 256 * d)) ≡ a ∷ b ∷ c ∷ d ∷ []
written_32 a b c d h k l m =
    let low : (a + 256 * b + 65536 * (c + 256 * d)) % 65536 ≡ a + 256 * b = omega arith in
    let high : (a + 256 * b + 65536 * (c + 256 * d)) / 65536 ≡ c + 256 * d = omega arith in
    rw (low, high) (cc (written_16 a b h k, written_16 c d l m))

-- ---- a well's 16 bits

signed_low : (n : ℕ) → n < 32768 → signed n ≡ pos n
unfolding signed
signed_low n h = go (ltb n 32768) refl
  where
    go : (t : Bool) → ltb n 32768 ≡ t → cond t (pos n) (pos n -ℤ pos 65536) ≡ pos n
    go true e = refl
    go false e = absurd (omega (arith, ltb-false n 32768 e))

signed_high : (n : ℕ) → 32768 ≤ n → n < 65536 → signed n ≡ negsuc (65535 - n)
unfolding signed
signed_high n h k = go (ltb n 32768) refl
  where
    go : (t : Bool) → ltb n 32768 ≡ t → cond t (pos n) (pos n -ℤ pos 65536) ≡ negsuc (65535 - n)
    go true e = absurd (omega (arith, ltb-true n 32768 e))
    go false e =
        same (pos n -ℤ pos 65536) (negsuc (65535 - n)) (omega (arith, less_up (pos n) (pos 65536))) (omega (arith, less_down (pos n) (pos 65536)))

pub signed_word : (z : ℤ) → SFits w16 z → signed (word_of z) ≡ z
unfolding word_of
signed_word (pos n) f = signed_low n f.sfits
signed_word (negsuc k) f = signed_high (65535 - k) (omega (arith, f.sfits)) (omega arith) ∙ ap negsuc (omega (arith, f.sfits))

pub word_in_16 : (z : ℤ) → SFits w16 z → word_of z < 65536
unfolding word_of
word_in_16 (pos n) f = omega (arith, f.sfits)
word_in_16 (negsuc k) f = omega arith

-- a 16-bit number, by its sign
signed_by : (P : ℕ → ℤ → Type 0) → ((n : ℕ) → n < 32768 → P n (pos n)) → ((n : ℕ) → 32768 ≤ n → n < 65536 → P n (negsuc (65535 - n)))
    → (n : ℕ) → n < 65536 → P n (signed n)
signed_by P f g n h = go (ltb n 32768) refl
  where
    go : (t : Bool) → ltb n 32768 ≡ t → P n (signed n)
    go true e = let k : n < 32768 = ltb-true n 32768 e in rw (signed_low n k) (f n k)
    go false e = let k : 32768 ≤ n = ltb-false n 32768 e in rw (signed_high n k h) (g n k h)

pub word_signed : (n : ℕ) → n < 65536 → word_of (signed n) ≡ n
unfolding word_of
word_signed = signed_by (λ n z. word_of z ≡ n) (λ n h. refl) (λ n h k. omega arith)

pub signed_fits : (n : ℕ) → n < 65536 → SFits w16 (signed n)
signed_fits = signed_by (λ n z. SFits w16 z) (λ n h. record { sfits = h }) (λ n h k. record { sfits = omega arith })

-- ---- a level's byte

pub level_of_byte : (l : ℤ) → negsuc 0 ≤ℤ l → level_of (level_byte_of l) ≡ l
unfolding level_byte_of
level_of_byte (pos n) h = refl
level_of_byte (negsuc k) h = ap negsuc (omega (arith, le_parts h))

pub level_byte_low : (l : ℤ) → l ≤ℤ pos 254 → level_byte_of l < 256
unfolding level_byte_of
level_byte_low (pos n) h = omega (arith, le_parts h)
level_byte_low (negsuc k) h = omega arith

pub byte_of_level : (b : ℕ) → level_byte_of (level_of b) ≡ b
unfolding level_byte_of
byte_of_level zero = refl
byte_of_level (suc b) = refl

pub level_spans : (b : ℕ) → b < 256 → (negsuc 0 ≤ℤ level_of b) × (level_of b ≤ℤ pos 254)
level_spans zero h = (byte_least zero, record { le = tt })
level_spans (suc b) h = (byte_least (suc b), parts_le (pos b) (pos 254) (omega arith))
