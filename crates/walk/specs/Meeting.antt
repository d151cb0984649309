-- What a step of the walk down a library's tree comes to. Assumes nothing.
use Rattle.std.specs.Prelude.{◌≡◌, Option, Some, None, List, ℕ, ◌+◌, ◌≤◌, ◌<◌, ℤ, get_or}
use Rattle.image.specs.Fields.{count_of}
use Rattle.walk.specs.Forest.{nodes, after, forest_of}
use Rattle.walk.specs.Walk.{Passing}
use Rattle.walk.specs.Weighed.{found_at, reach_at}
use Rattle.walk.specs.declared.passage.Met.{Met}
use Rattle.walk.specs.declared.passage.Passage.{Passage}
use Rattle.walk.specs.declared.passage.Stop.{Stop}

-- from one place of the walk on to another no record lies within the bound, and so many are measured. No distance exceeds 1,048,560, so
-- with such a bound none is
pub record Past (xs : List ℕ) (plate : List ℤ) (bound from place many : ℕ) : Type 0 where
  pub passing : Passing (found_at xs plate) (reach_at xs) bound (after from (forest_of xs)) many (after place (forest_of xs))
  pub onward : from ≤ place
  pub all : 1048560 ≤ bound → many ≡ 0

-- the way stops there, at a record within the bound or behind all
pub record Stops (xs : List ℕ) (plate : List ℤ) (bound from measured : ℕ) (stop : Stop) : Type 0 where
  pub many : ℕ
  pub past : Past xs plate bound from stop.place many
  pub is_measured : stop.measured ≡ measured + many
  pub few : stop.measured ≤ stop.place
  pub within : stop.place ≤ count_of xs
  pub near : stop.place < count_of xs → stop.distance ≤ bound
  pub is_distance : stop.place < count_of xs → stop.distance ≡ (found_at xs plate (get_or (nodes (forest_of xs)) stop.place 0)).distance

abbrev pub StopsFrom : Passage → (bound : ℕ) → Stop → Type 0
StopsFrom p bound stop = Stops p.walk.library.records.image.now p.plate.now bound p.place p.measured stop

-- a record within the bound is met: it is measured too, and the walk goes on behind it
pub record MeetsOne (xs : List ℕ) (plate : List ℤ) (bound from measured to measured' : ℕ) (met : Met) : Type 0 where
  pub place : ℕ
  pub many : ℕ
  pub past : Past xs plate bound from place many
  pub low : place < count_of xs
  pub inside : met.node < count_of xs
  pub is_node : met.node ≡ get_or (nodes (forest_of xs)) place 0
  pub is_distance : met.distance ≡ (found_at xs plate met.node).distance
  pub near : met.distance ≤ bound
  pub is_to : to ≡ place + 1
  pub is_measured : measured' ≡ measured + many + 1

-- there is none
pub record MeetsNone (xs : List ℕ) (plate : List ℤ) (bound from measured to measured' : ℕ) : Type 0 where
  pub many : ℕ
  pub past : Past xs plate bound from to many
  pub is_to : to ≡ count_of xs
  pub is_measured : measured' ≡ measured + many

-- from where a passage stands, a step comes to a place and a count of those measured, with what it met
abbrev pub Meets : Passage → (bound to measured : ℕ) → Option Met → Type 0
Meets p bound to measured (Some met) = MeetsOne p.walk.library.records.image.now p.plate.now bound p.place p.measured to measured met
Meets p bound to measured None = MeetsNone p.walk.library.records.image.now p.plate.now bound p.place p.measured to measured
