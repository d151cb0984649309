-- The laws of the distances: both metrics obey the metric laws, and how large a distance can be. Assumes nothing.
use mathlib.Core.Path.{◌≡◌, refl, sym, ◌∙◌, subst⁻¹}
use mathlib.Core.Logic.{◌⊎◌, inl, inr}
use mathlib.Core.List.{List, [], ◌∷◌}
use Prim.Native.Nat.{ℕ, zero, suc, ◌+◌, ◌*◌, ◌≤◌, ◌<◌, max, zero-le}
use native.Mathlib.Numerals.{add-one}
use native.Mathlib.Omega.{arith}
use lib.IntN.{ℤ, pos, negsuc}
use lib.ListN.{length, get_or, drop, replicate, drop_of_length-le}
use lib.Seq.{drop-cons}
use mir.Syntax.{w16}
use mir.Val.{SFits}
use Rattle.profile.specs.Distance.{Wells, none, well, Profile, gap, joined, distance}
use Rattle.profile.specs.Metric.{Metric}
use Rattle.profile.proofs.Wells.{gap_self, gap_symmetric, gap_triangle, gap_apart, gap_bound}

-- what a way of joining the wells' differences must have for the metric laws to carry over from one well to all
pub record Joins (op : ℕ → ℕ → ℕ) : Type 0 where
  pub nothing : op 0 0 ≡ 0
  pub both : (m n : ℕ) → op m n ≡ 0 → (m ≡ 0) × (n ≡ 0)
  pub splits : (m m₁ m₂ n n₁ n₂ : ℕ) → m ≤ m₁ + m₂ → n ≤ n₁ + n₂ → op m n ≤ op m₁ n₁ + op m₂ n₂

pub joins_sum : Joins ◌+◌
joins_sum = record {
  nothing = omega arith;
  both = λ m n h. omega arith;
  splits = λ m m₁ m₂ n n₁ n₂ h k. omega arith;
}

pub joins_max : Joins max
joins_max = record {
  nothing = omega arith;
  both = λ m n h. omega arith;
  splits = λ m m₁ m₂ n n₁ n₂ h k. omega arith;
}

module _ (op : ℕ → ℕ → ℕ) where
  pub joined_symmetric : (xs ys : List ℤ) → joined op xs ys ≡ joined op ys xs
  unfolding joined
  joined_symmetric [] [] = refl
  joined_symmetric [] (y ∷ ys) = refl
  joined_symmetric (x ∷ xs) [] = refl
  joined_symmetric (x ∷ xs) (y ∷ ys) = cc (gap_symmetric x y, joined_symmetric xs ys)

  -- one well more, as a loop over the wells takes it
  pub joined_step : (i : ℕ) (xs ys : List ℤ) (d : ℤ) → i < length xs → i < length ys
      → joined op (drop i xs) (drop i ys) ≡ op (gap (get_or xs i d) (get_or ys i d)) (joined op (drop (i + 1) xs) (drop (i + 1) ys))
  unfolding joined
  joined_step i xs ys d h k = rw (add-one, drop-cons xs i d h, drop-cons ys i d k)

  -- past the last well
  pub joined_end : (i : ℕ) (xs ys : List ℤ) → length xs ≤ i → joined op (drop i xs) ys ≡ 0
  unfolding joined
  joined_end i xs ys h = rw (drop_of_length-le xs h)

  module _ (J : Joins op) where
    pub joined_self : (xs : List ℤ) → joined op xs xs ≡ 0
    unfolding joined
    joined_self [] = refl
    joined_self (x ∷ xs) = cc (gap_self x, joined_self xs, J.nothing)

    pub joined_apart : (xs ys : List ℤ) → length xs ≡ length ys → joined op xs ys ≡ 0 → xs ≡ ys
    unfolding joined
    joined_apart [] [] e h = refl
    joined_apart [] (y ∷ ys) e h = absurd (omega arith)
    joined_apart (x ∷ xs) [] e h = absurd (omega arith)
    joined_apart (x ∷ xs) (y ∷ ys) e h =
        let k = J.both (gap x y) (joined op xs ys) h in
        cc (gap_apart x y k.0, joined_apart xs ys (omega arith) k.1)

    pub joined_triangle : (xs ys zs : List ℤ) → length xs ≡ length ys → length ys ≡ length zs
        → joined op xs zs ≤ joined op xs ys + joined op ys zs
    unfolding joined
    joined_triangle [] ys zs e f = zero-le
    joined_triangle (x ∷ xs) [] zs e f = absurd (omega arith)
    joined_triangle (x ∷ xs) (y ∷ ys) [] e f = absurd (omega arith)
    joined_triangle (x ∷ xs) (y ∷ ys) (z ∷ zs) e f =
        J.splits (gap x z) (gap x y) (gap y z) (joined op xs zs) (joined op xs ys) (joined op ys zs)
        (gap_triangle x y z) (joined_triangle xs ys zs (omega arith) (omega arith))

    -- so on lists of w wells it is a metric
    pub joined_metric : (w : ℕ) → Metric (List ℤ) (λ xs. length xs ≡ w) (joined op)
    joined_metric w = record {
      self = joined_self;
      apart = λ xs ys e f h. joined_apart xs ys (e ∙ sym f) h;
      symmetric = joined_symmetric;
      triangle = λ xs ys zs e f g. joined_triangle xs ys zs (e ∙ sym f) (f ∙ sym g);
    }

-- ---- by the metric's number

pub distance_other : (m : ℕ) (xs ys : List ℤ) → (m ≡ 1 → ⊥) → (m ≡ 2 → ⊥) → 0 ≡ distance m xs ys
unfolding distance
distance_other zero xs ys f g = refl
distance_other (suc zero) xs ys f g = absurd (f refl)
distance_other (suc (suc zero)) xs ys f g = absurd (g refl)
distance_other (suc (suc (suc m))) xs ys f g = refl

pub distance_symmetric : (m : ℕ) (xs ys : List ℤ) → distance m xs ys ≡ distance m ys xs
unfolding distance
distance_symmetric zero xs ys = refl
distance_symmetric (suc zero) xs ys = joined_symmetric ◌+◌ xs ys
distance_symmetric (suc (suc zero)) xs ys = joined_symmetric max xs ys
distance_symmetric (suc (suc (suc m))) xs ys = refl

-- both metrics obey the metric laws on profiles of equal length
pub distance_metric : (m w : ℕ) → (m ≡ 1) ⊎ (m ≡ 2) → Metric (List ℤ) (λ xs. length xs ≡ w) (distance m)
unfolding distance
distance_metric m w (inl e) = subst⁻¹ (λ (k : ℕ). Metric (List ℤ) (λ xs. length xs ≡ w) (distance k)) e (joined_metric ◌+◌ joins_sum w)
distance_metric m w (inr e) = subst⁻¹ (λ (k : ℕ). Metric (List ℤ) (λ xs. length xs ≡ w) (distance k)) e (joined_metric max joins_max w)

-- ---- why the sum of squares is never used

-- the sum of the wells' squared differences
abbrev pub squares : List ℤ → List ℤ → ℕ
squares = joined (λ g rest. g * g + rest)

-- it breaks the triangle inequality: from 0 by 1 to 2 is nearer than from 0 to 2
pub squares_break : squares (pos 0 ∷ []) (pos 1 ∷ []) + squares (pos 1 ∷ []) (pos 2 ∷ []) < squares (pos 0 ∷ []) (pos 2 ∷ [])
unfolding joined gap
squares_break = omega arith

-- ---- how large a distance can be

-- neither way of joining gives more than the sum
joined_bound : (op : ℕ → ℕ → ℕ) → ((m n : ℕ) → op m n ≤ m + n) → (xs ys : List ℤ) → Wells xs → Wells ys → joined op xs ys ≤ 65535 * length xs
unfolding joined
joined_bound op sum [] ys p q = zero-le
joined_bound op sum (x ∷ xs) [] p q = zero-le
joined_bound op sum (x ∷ xs) (y ∷ ys) (well f p) (well g q) =
    omega (arith, sum (gap x y) (joined op xs ys), gap_bound x y f g, joined_bound op sum xs ys p q)

pub distance_bound : (m w : ℕ) {xs ys : List ℤ} → Profile w xs → Profile w ys → distance m xs ys ≤ 65535 * w
unfolding distance
distance_bound zero w p q = zero-le
distance_bound (suc zero) w {xs} {ys} p q = omega (arith, p.count, joined_bound ◌+◌ (λ m n. omega arith) xs ys p.values q.values)
distance_bound (suc (suc zero)) w {xs} {ys} p q = omega (arith, p.count, joined_bound max (λ m n. omega arith) xs ys p.values q.values)
distance_bound (suc (suc (suc m))) w p q = zero-le

-- with at most 16 wells
pub distance_most : (m w : ℕ) {xs ys : List ℤ} → w ≤ 16 → Profile w xs → Profile w ys → distance m xs ys ≤ 1048560
distance_most m w h p q = omega (arith, distance_bound m w p q)

all_wells : {z : ℤ} → SFits w16 z → (n : ℕ) → Wells (replicate n z)
all_wells f zero = none
all_wells f (suc n) = well f (all_wells f n)

-- and that is reached, by metric 1 on 16 wells at their two ends
pub distance_reached : (xs ys : List ℤ) × Profile 16 xs × Profile 16 ys × (distance 1 xs ys ≡ 1048560)
unfolding distance joined gap
distance_reached = (
  replicate 16 (pos 32767),
  replicate 16 (negsuc 32767),
  record { count = refl; values = all_wells (record { sfits = omega arith }) 16 },
  record { count = refl; values = all_wells (record { sfits = omega arith }) 16 },
  refl,
)
