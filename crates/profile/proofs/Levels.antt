-- The laws of levels. A level from -1 up is `level_of b`, b being its level byte, and its cover limit is 2 ^ b. Assumes nothing.
use mathlib.Core.Path.{◌≡◌, refl, sym, ap, ◌∙◌, subst⁻¹}
use mathlib.Core.Bool.{Bool, true, false, cond}
use mathlib.Core.Logic.{◌↔◌}
use Prim.Native.Nat.{ℕ, zero, suc, ◌+◌, ◌-◌, ◌*◌, ◌/◌, ◌^◌, ◌≤◌, ◌<◌, min, zero-le}
use native.Mathlib.Nat.{pow-suc, le_trans, le_antisymm, mul-le-mul_left, zero-mul, lt_of_not-le}
use native.Mathlib.Omega.{arith}
use native.Mathlib.Decide.{dec_le}
use lib.Dec.{T}
use lib.IntN.{ℤ, pos, negsuc, suc_ℤ, ◌+ℤ◌, ◌-ℤ◌}
use lib.Signed.{le_z, ◌≤ℤ◌, ◌<ℤ◌, ≤ℤ_refl}
use lib.Pow.{pow_pos, pow_mono}
use mir.Syntax.{w32}
use mir.Val.{SFits}
use Rattle.profile.specs.Level.{◌>2^◌, ◌≤2^◌, Fitting, level_of, lower, bits, bit_length, fitting_level, cover_limit, Printed}
use Rattle.profile.proofs.Signs.{same, less_up, less_down, le_no, le_parts, parts_le, lt_parts, parts_lt, suc_parts}

-- ---- the cover limit, and the powers compared by it

pub cover_byte : (b : ℕ) → cover_limit (level_of b) ≡ 2 ^ b
unfolding cover_limit
cover_byte zero = refl
cover_byte (suc b) = refl

-- a level whose cover limit is not 0 is one from -1 up
pub byte_of : (e : ℤ) → 0 < cover_limit e → (b : ℕ) × (e ≡ level_of b)
unfolding cover_limit
byte_of (pos n) h = (suc n, refl)
byte_of (negsuc zero) h = (zero, refl)
byte_of (negsuc (suc n)) h = absurd (omega arith)

doubled : (d k : ℕ) → 2 * d ≤ d * 2 ^ suc k
doubled d k = omega (arith, mul-le-mul_left d (pow_mono {i = 1} {j = suc k} (omega arith)))

-- d > 2 ^ e, doubled on both sides
pub more_than : (d : ℕ) (e : ℤ) → d >2^ e ↔ (cover_limit e < 2 * d)
unfolding ◌>2^◌ cover_limit
more_than d (pos e) = (λ h. omega (arith, pow-suc 2 e), λ h. omega (arith, pow-suc 2 e))
more_than d (negsuc zero) = (λ h. omega arith, λ h. omega arith)
more_than zero (negsuc (suc k)) = (λ h. absurd (omega (arith, zero-mul (2 ^ suc (suc k)))), λ h. absurd (omega arith))
more_than (suc d) (negsuc (suc k)) = (λ h. omega arith, λ h. omega (arith, doubled (suc d) (suc k)))

-- d ≤ 2 ^ (e + 1)
pub at_most : (d : ℕ) (e : ℤ) → d ≤2^ suc_ℤ e ↔ (d ≤ cover_limit e)
unfolding ◌≤2^◌ cover_limit
at_most d (pos e) = (λ h. h, λ h. h)
at_most d (negsuc zero) = (λ h. omega arith, λ h. omega arith)
at_most zero (negsuc (suc k)) = (λ h. omega arith, λ h. omega (arith, zero-mul (2 ^ suc k)))
at_most (suc d) (negsuc (suc k)) = (λ h. absurd (omega (arith, doubled (suc d) k)), λ h. absurd (omega arith))

-- d ≤ 2 ^ e, doubled on both sides
pub at_most_level : (d : ℕ) (e : ℤ) → d ≤2^ e ↔ (2 * d ≤ cover_limit e)
unfolding ◌≤2^◌ cover_limit
at_most_level d (pos e) = (λ h. omega (arith, pow-suc 2 e), λ h. omega (arith, pow-suc 2 e))
at_most_level d (negsuc zero) = (λ h. omega arith, λ h. omega arith)
at_most_level zero (negsuc (suc k)) = (λ h. omega arith, λ h. omega (arith, zero-mul (2 ^ suc (suc k))))
at_most_level (suc d) (negsuc (suc k)) = (λ h. absurd (omega (arith, doubled (suc d) (suc k))), λ h. absurd (omega arith))

-- at level -1 the cover limit is 1, and separation fails only at distance 0
pub lowest_cover : (d : ℕ) → d ≤2^ suc_ℤ (negsuc 0) ↔ (d ≤ 1)
unfolding ◌≤2^◌
lowest_cover d = (λ h. omega arith, λ h. omega arith)

pub lowest_apart : (d : ℕ) → (d >2^ negsuc 0 → ⊥) ↔ (d ≡ 0)
unfolding ◌>2^◌
lowest_apart zero = (λ f. refl, λ e h. absurd (omega arith))
lowest_apart (suc d) = (λ f. absurd (f (omega arith)), λ e. absurd (omega arith))

-- ---- the order of levels

-- the cover limit never falls as the level rises, and doubles at least from one level to the next
pub cover_mono : {a b : ℤ} → a ≤ℤ b → cover_limit a ≤ cover_limit b
unfolding cover_limit
cover_mono {a = pos a} {b = pos b} h = pow_mono (omega (arith, le_parts h))
cover_mono {a = pos a} {b = negsuc b} h = absurd h.le
cover_mono {a = negsuc zero} {b = pos b} h = pow_pos (suc b)
cover_mono {a = negsuc zero} {b = negsuc zero} h = omega arith
cover_mono {a = negsuc zero} {b = negsuc (suc b)} h = absurd (omega (arith, le_parts h))
cover_mono {a = negsuc (suc a)} {b = b} h = zero-le

cover_next : (a : ℤ) → 2 * cover_limit a ≤ cover_limit (suc_ℤ a)
unfolding cover_limit
cover_next (pos a) = omega (arith, pow-suc 2 (suc a))
cover_next (negsuc zero) = omega arith
cover_next (negsuc (suc a)) = zero-le

pub cover_doubles : {a b : ℤ} → a <ℤ b → 2 * cover_limit a ≤ cover_limit b
cover_doubles {a} {b} h = le_trans (cover_next a) (cover_mono (parts_le (suc_ℤ a) b (omega (arith, lt_parts h, suc_parts a))))

-- the byte is its level plus 1
pub level_next : (b : ℕ) → level_of b +ℤ pos 1 ≡ pos b
level_next zero = refl
level_next (suc b) = ap pos (omega arith)

-- a byte's level fits a signed number of 32 bits, and there it is the byte less 1
pub level_in_32 : (b : ℕ) → b < 256 → SFits w32 (level_of b)
level_in_32 zero h = record { sfits = omega arith }
level_in_32 (suc b) h = record { sfits = omega arith }

-- no byte's level is below -1
pub byte_least : (b : ℕ) → negsuc 0 ≤ℤ level_of b
byte_least zero = record { le = tt }
byte_least (suc b) = record { le = tt }

-- the levels of the bytes up to 21 run from -1 to 20
pub level_span : {b : ℕ} → b ≤ 21 → (negsuc 0 ≤ℤ level_of b) × (level_of b ≤ℤ pos 20)
level_span {b = zero} h = (byte_least zero, record { le = tt })
level_span {b = suc b} h = (byte_least (suc b), parts_le (pos b) (pos 20) (omega arith))

pub span_byte : {e : ℤ} → (negsuc 0 ≤ℤ e) × (e ≤ℤ pos 20) → (b : ℕ) × (e ≡ level_of b) × (b ≤ 21)
span_byte {e = pos n} h = (suc n, refl, omega (arith, le_parts h.1))
span_byte {e = negsuc zero} h = (0, refl, omega arith)
span_byte {e = negsuc (suc n)} h = absurd (omega (arith, le_parts h.0))

-- of two levels the lower is one, and at most both
lower_one : (P : ℤ → Type 0) (a b : ℤ) → (a ≤ℤ b → P a) → (b ≤ℤ a → P b) → P (lower a b)
unfolding lower
lower_one P a b f g = go (le_z a b) refl
  where
    go : (t : Bool) → le_z a b ≡ t → P (cond t a b)
    go true e = f (record { le = subst⁻¹ T e tt })
    go false e = g (parts_le b a (omega (arith, le_no a b e)))

pub lower_le : (a b : ℤ) → (lower a b ≤ℤ a) × (lower a b ≤ℤ b)
lower_le a b = lower_one (λ m. (m ≤ℤ a) × (m ≤ℤ b)) a b (λ h. (≤ℤ_refl a, h)) (λ h. (h, ≤ℤ_refl b))

-- what is at most both is at most the lower
pub le_lower : {i a b : ℤ} → i ≤ℤ a → i ≤ℤ b → i ≤ℤ lower a b
le_lower {i} {a} {b} h k = lower_one (λ m. i ≤ℤ m) a b (λ e. h) (λ e. k)

pub cover_lower : (a b : ℤ) → cover_limit (lower a b) ≡ min (cover_limit a) (cover_limit b)
cover_lower a b =
    lower_one (λ m. cover_limit m ≡ min (cover_limit a) (cover_limit b)) a b (λ h. omega (arith, cover_mono h)) (λ h. omega (arith, cover_mono h))

-- ---- the fitting level

-- said of the level's byte
pub fitting_byte : (d b : ℕ) → 2 ^ b < 2 * d → d ≤ 2 ^ b → Fitting d (level_of b)
fitting_byte d b h k = record {
  above = (more_than d (level_of b)).1 (omega (arith, cover_byte b));
  within = (at_most d (level_of b)).1 (omega (arith, cover_byte b));
}

module _ {d : ℕ} {e : ℤ} (f : Fitting d e) where
  pub fitting_above : cover_limit e < 2 * d
  fitting_above = (more_than d e).0 f.above

  pub fitting_within : d ≤ cover_limit e
  fitting_within = (at_most d e).0 f.within

  -- so a level fits no distance 0
  pub fitting_positive : 0 < d
  fitting_positive = omega (arith, fitting_above)

  -- the byte of a fitting level
  pub fitting_of : (b : ℕ) × (e ≡ level_of b) × (2 ^ b < 2 * d) × (d ≤ 2 ^ b)
  fitting_of =
      let s = byte_of e (omega (arith, fitting_above, fitting_within)) in
      let c : cover_limit e ≡ 2 ^ s.0 = ap cover_limit s.1 ∙ cover_byte s.0 in
      (s.0, s.1, omega (arith, fitting_above, c), omega (arith, fitting_within, c))

-- a power below the double of another is at most that other
pow_under : (m n : ℕ) → 2 ^ m < 2 * 2 ^ n → m ≤ n
pow_under m n h = go (dec_le m n)
  where
    go : Dec (m ≤ n) → m ≤ n
    go (yes p) = p
    go (no q) = let k : suc n ≤ m = lt_of_not-le q in absurd (omega (arith, pow_mono k, pow-suc 2 n))

-- a distance has one fitting level
pub fitting_one : (d : ℕ) (e e' : ℤ) → Fitting d e → Fitting d e' → e ≡ e'
fitting_one d e e' f g =
    let s = fitting_of f in let t = fitting_of g in
    s.1
    ∙ ap level_of (le_antisymm (pow_under s.0 t.0 (omega (arith, s.2, t.3))) (pow_under t.0 s.0 (omega (arith, t.2, s.3))))
    ∙ sym t.1

-- n takes `bits` bits: it is below 2 ^ bits, and not below half of that
bits_under : (k n : ℕ) → n ≤ k → n < 2 ^ bits k n
unfolding bits
bits_under zero n h = omega arith
bits_under (suc k) zero h = omega arith
bits_under (suc k) (suc n) h =
    let half = suc n / 2 in
    omega (arith, bits_under k half (omega arith), pow-suc 2 (bits k half))

bits_double : (k half n : ℕ) → (0 < half → 2 ^ bits k half ≤ 2 * half) → 2 * half ≤ suc n → 2 ^ suc (bits k half) ≤ 2 * suc n
unfolding bits
bits_double zero half n f h = omega arith
bits_double (suc k) zero n f h = omega arith
bits_double (suc k) (suc m) n f h = omega (arith, f (omega arith), pow-suc 2 (bits (suc k) (suc m)))

bits_over : (k n : ℕ) → 0 < n → 2 ^ bits k n ≤ 2 * n
unfolding bits
bits_over zero n h = omega arith
bits_over (suc k) zero h = absurd (omega arith)
bits_over (suc k) (suc n) h = bits_double k (suc n / 2) n (bits_over k (suc n / 2)) (omega arith)

bits_length : (n : ℕ) → 2 ^ bit_length n ≤ 2 * n + 1
unfolding bits
bits_length zero = omega arith
bits_length (suc n) = omega (arith, bits_over (suc n) (suc n) (omega arith))

-- the level worked out fits
pub fitting_is : (d : ℕ) → 0 < d → Fitting d (fitting_level d)
unfolding fitting_level
fitting_is d h = fitting_byte d (bit_length (d - 1)) (omega (arith, bits_length (d - 1))) (omega (arith, bits_under (d - 1) (d - 1) (omega arith)))

-- so exactly one level fits each distance from 1 up
pub fitting_exactly : (d : ℕ) (e : ℤ) → 0 < d → Fitting d e ↔ (e ≡ fitting_level d)
fitting_exactly d e h = (
  λ f. fitting_one d e (fitting_level d) f (fitting_is d h),
  λ p. rw p (fitting_is d h),
)

-- a level exceeds the fitting level of a distance exactly where the distance is at most 2 ^ level
pub over_fitting : (d : ℕ) (m : ℤ) → 0 < d → (d ≤2^ m) ↔ (fitting_level d <ℤ m)
over_fitting d m h = (
  λ k. go k (le_z m (fitting_level d)) refl,
  λ l. (at_most_level d m).1 (omega (arith, fitting_within (fitting_is d h), cover_doubles l)),
)
  where
    go : d ≤2^ m → (b : Bool) → le_z m (fitting_level d) ≡ b → fitting_level d <ℤ m
    go k true e =
        absurd (omega (
          arith,
          fitting_above (fitting_is d h),
          (at_most_level d m).0 k,
          cover_mono {a = m} {b = fitting_level d} (record { le = subst⁻¹ T e tt }),
        ))
    go k false e = parts_lt (fitting_level d) m (omega (arith, le_no m (fitting_level d) e))

-- by the leading zeros, of 32, of d - 1, which is `byte` bits long
pub fitting_leading : (d zeros byte : ℕ) → 0 < d → zeros + byte ≡ 32 → d - 1 < 2 ^ byte → 2 ^ byte ≤ 2 * (d - 1) + 1 → pos 31 -ℤ pos zeros ≡ fitting_level d
fitting_leading d zeros byte h e k l =
    less zeros byte e ∙ fitting_one d (level_of byte) (fitting_level d) (fitting_byte d byte (omega arith) (omega arith)) (fitting_is d h)
  where
    less : (zeros byte : ℕ) → zeros + byte ≡ 32 → pos 31 -ℤ pos zeros ≡ level_of byte
    less zeros zero e =
        same (pos 31 -ℤ pos zeros) (level_of zero) (omega (arith, less_up (pos 31) (pos zeros))) (omega (arith, less_down (pos 31) (pos zeros)))
    less zeros (suc b) e =
        same (pos 31 -ℤ pos zeros) (pos b) (omega (arith, less_up (pos 31) (pos zeros))) (omega (arith, less_down (pos 31) (pos zeros)))

-- ---- why source document 003's level was left

-- each distance from 1 up has a level by the printed rule
pub printed_some : (d : ℕ) → 0 < d → (e : ℤ) × Printed d e
unfolding bits
printed_some zero h = absurd (omega arith)
printed_some (suc n) h =
    let log = bits n (suc n / 2) in (
      level_of log,
      record {
        log = log;
        least = omega (arith, bits_over (suc n) (suc n) h, pow-suc 2 log);
        next = bits_under (suc n) (suc n) (omega arith);
        level = refl;
      },
    )

-- it fits exactly where the distance is a power of two
pub printed_fits : (d : ℕ) (e : ℤ) → Printed d e → Fitting d e ↔ ((k : ℕ) × (d ≡ 2 ^ k))
printed_fits d e p = (
  λ f. (p.log, omega (arith, fitting_within f, ap cover_limit p.level, cover_byte p.log)),
  λ k. rw p.level (fitting_byte d p.log (omega (arith, pow_pos p.log))
      (omega (arith, pow_mono (pow_under k.0 p.log (omega (arith, k.1, pow-suc 2 p.log))), k.1))),
)
