-- The laws of a metric, on any carrier, so that what rests on them is proved once; and the two metrics' numbers. Assumes nothing.
use Rattle.std.specs.Prelude.{◌≡◌, ℕ, ◌+◌, ◌≤◌, ◌≢◌, Result, MatchResult}
use Rattle.profile.specs.declared.metric.Metric.{Metric as Named}
use Rattle.profile.specs.declared.metric.Metric.TheVariants.{CityBlock, Largest}
use Rattle.profile.specs.declared.metric.NoMetric.{NoMetric}

-- `dist` is a metric on those points that are `Ok`
pub record Metric (X : Type 0) (Ok : X → Type 0) (dist : X → X → ℕ) : Type 0 where
  pub self : (x : X) → dist x x ≡ 0
  pub apart : (x y : X) → Ok x → Ok y → dist x y ≡ 0 → x ≡ y
  pub symmetric : (x y : X) → dist x y ≡ dist y x
  pub triangle : (x y z : X) → Ok x → Ok y → Ok z → dist x z ≤ dist x y + dist y z

-- the number of each of the two metrics
abbrev pub metric_number : Named → ℕ
metric_number CityBlock = 1
metric_number Largest = 2

-- the result is the metric of that number, or an error with a number that no metric has
abbrev pub Numbered : ℕ → Result Named NoMetric → Type 0
Numbered n r = MatchResult r (λ m. metric_number m ≡ n) (λ e. (e.0 ≡ n) × (n ≢ 1) × (n ≢ 2))

-- the most that each gives of two profiles of 16 wells
abbrev pub greatest : Named → ℕ
greatest CityBlock = 1048560
greatest Largest = 65535
