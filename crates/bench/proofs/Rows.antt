-- The laws of a row. Assumes nothing.
use mathlib.Core.Path.{◌≡◌, refl}
use mathlib.Core.List.{List}
use Prim.Native.Nat.{ℕ, zero, suc, ◌+◌, ◌-◌, ◌*◌, ◌≤◌, ◌<◌}
use native.Mathlib.Numerals.{add-one}
use native.Mathlib.Omega.{arith}
use borrow.Author.Tests.{lt-ltb, le-ltb}
use lib.IntN.{ℤ}
use Rattle.profile.specs.Bytes.{wells_at}
use Rattle.profile.specs.Distance.{distance}
use Rattle.bench.specs.Row.{first_under}

-- the j-th distance of a row
abbrev pub row : ℕ → List ℕ → ℕ → ℕ → List ℤ → ℕ → ℕ
row metric image from wells other j = distance metric (wells_at image (from + j * (2 * wells)) wells) other

one_more : {j count : ℕ} → j < count → count - j ≡ suc (count - suc j)
one_more h = omega arith

-- where what the rest of the row gives is w
module _ (distance : ℕ → ℕ) {limit j count w : ℕ} (rest : first_under distance limit j (count - j) ≡ w) where
  -- none is left
  pub row_end : count ≤ j → limit ≡ w
  unfolding first_under
  row_end h = let e : count - j ≡ 0 = omega arith in rw e at rest

  module _ (h : j < count) {d : ℕ} (e : d ≡ distance j) where
    -- the next is nearer
    pub row_found : d < limit → d ≡ w
    unfolding first_under
    row_found k = rw (one_more h, ← e, lt-ltb d limit k) at rest

    -- it is not
    pub row_on : limit ≤ d → first_under distance limit (j + 1) (count - (j + 1)) ≡ w
    unfolding first_under
    row_on k = rw add-one (rw (one_more h, ← e, le-ltb d limit k) at rest)

-- two rows of the same distances
pub same_row : (f g : ℕ → ℕ) (limit j n : ℕ) → ((i : ℕ) → f i ≡ g i) → first_under f limit j n ≡ first_under g limit j n
unfolding first_under
same_row f g limit j zero h = refl
same_row f g limit j (suc n) h = cc (h j, same_row f g limit (suc j) n h)

-- a row of distances that are all 0: each is below the limit, or the limit is 0 too
zeros_at : (j n : ℕ) → 0 ≡ first_under (λ _. 0) 0 j n
unfolding first_under
zeros_at j zero = refl
zeros_at j (suc n) = zeros_at (suc j) n

pub zeros : (limit count : ℕ) → 0 < count → 0 ≡ first_under (λ _. 0) limit 0 count
unfolding first_under
zeros zero count h = zeros_at 0 count
zeros (suc limit) zero h = absurd (omega arith)
zeros (suc limit) (suc count) h = rw (lt-ltb 0 (suc limit) (omega arith)) refl
