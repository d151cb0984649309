-- The signed sentence: every strain is weighed in every match. Assumes nothing.
use Rattle.std.specs.Prelude.{◌≡◌, ℕ, suc, ◌+◌, ◌<◌, ℤ, length}
use mathlib.Core.List.{List, [], map, Memᴰ}
use Rattle.ranking.specs.Sort.{itself}
use Rattle.ranking.specs.Order.{Distinct}
use Rattle.ranking.specs.Found.{Found, rank}
use Rattle.ranking.specs.First.{first_k}
use Rattle.tree.specs.Tree.{Below}
use Rattle.image.specs.Fields.{count_of}
use Rattle.image.specs.Library.{tree_of}
use Rattle.walk.specs.Forest.{forest_of}
use Rattle.walk.specs.Walk.{worst, Step, measured, passed, record_of, measured_of, trace}
use Rattle.walk.specs.Weighed.{found_at, reach_at}
use Rattle.search.specs.Ranked.{nearest}

-- what the walk for a plate's k nearest strains does with the records of a library, in its order
abbrev pub steps_of : List ℕ → List ℤ → ℕ → List Step
steps_of xs plate k = trace (found_at xs plate) (reach_at xs) k (forest_of xs) []

-- why record u may be passed over with all that hangs below record `under`, where these strains are kept by then
pub record PassedOver (xs : List ℕ) (plate : List ℤ) (k under : ℕ) (kept : List Found) (u : ℕ) : Type 0 where
  -- `under` itself is measured
  pub is_measured : Memᴰ (measured under) (steps_of xs plate k)
  -- u hangs below it in the library's tree, one generation down or more
  pub hangs : (generations : ℕ) × Below (tree_of xs) under (suc generations) u
  -- k strains are kept
  pub full : length kept ≡ k
  -- and `under` lies further from the plate than the worst of them and its own reach
  pub further : worst k kept + reach_at xs under < (found_at xs plate under).distance
  -- so u lies further from the plate than every one of the k nearest
  pub beyond : (f : Found) → Memᴰ f (nearest xs k plate) → f.distance < (found_at xs plate u).distance

-- the sentence: each strain of the library is measured, or passed over for a reason that rules it out
pub record EveryStrainWeighed (xs : List ℕ) (plate : List ℤ) (k : ℕ) : Type 0 where
  -- each record of the library has its step
  pub all : (i : ℕ) → i < count_of xs → Memᴰ i (map record_of (steps_of xs plate k))
  -- nothing else has one
  pub only : (i : ℕ) → Memᴰ i (map record_of (steps_of xs plate k)) → i < count_of xs
  -- and each has one only
  pub once : Distinct itself (map record_of (steps_of xs plate k))
  -- so there are as many steps as strains
  pub many : length (steps_of xs plate k) ≡ count_of xs
  -- a step measures its record, or passes it over, and then for these reasons
  pub reason : (under : ℕ) (kept : List Found) (u : ℕ) → Memᴰ (passed under kept u) (steps_of xs plate k) → PassedOver xs plate k under kept u
  -- the k nearest strains are the first k of those measured
  pub final : first_k rank k (map (found_at xs plate) (measured_of (steps_of xs plate k))) ≡ nearest xs k plate
