-- The next record that is near enough to take a new strain. Assumes nothing.
use Rattle.std.specs.Prelude.{◌≡◌, true, false, Option, Some, None, List, ℕ, ◌≤◌, ◌<◌, ℤ}
use Rattle.content.specs.Content.{Kept}
use Rattle.content.specs.Adding.{near_enough}

-- none of the records from one on, before another, is near enough to take x. `at` gives the record of a number
pub record Beyond (metric : ℕ) (x : List ℤ) (at : ℕ → Kept) (from upto : ℕ) : Type 0 where
  pub none : (k : ℕ) → from ≤ k → k < upto → near_enough metric x (at k) ≡ false

-- r is the first record from one on that is near enough, of those filled
pub record FirstNear (metric : ℕ) (x : List ℤ) (at : ℕ → Kept) (filled from r : ℕ) : Type 0 where
  pub onward : from ≤ r
  pub inside : r < filled
  pub beyond : Beyond metric x at from r
  pub near : near_enough metric x (at r) ≡ true

-- that record, or none
abbrev pub NextNear : (metric : ℕ) → List ℤ → (ℕ → Kept) → (filled from : ℕ) → Option ℕ → Type 0
NextNear metric x at filled from None = Beyond metric x at from filled
NextNear metric x at filled from (Some r) = FirstNear metric x at filled from r
