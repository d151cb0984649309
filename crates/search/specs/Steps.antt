-- What the steps inside the searches promise each other. Assumes nothing.
use Rattle.std.specs.Prelude.{◌≡◌, List, map, ◌++◌, ℕ, ◌≤◌, ℤ, length, drop}
use Rattle.std.proofs.lemmas.List.Edits.{sets}
use Rattle.ranking.specs.Found.{rank}
use Rattle.image.specs.Fields.{count_of}
use Rattle.walk.specs.Forest.{nodes, forest_of}
use Rattle.walk.specs.Walk.{within, measures}
use Rattle.walk.specs.Weighed.{found_at, reach_at}
use Rattle.walk.specs.Measured.{measured_count}
use Rattle.search.specs.Ranked.{nearest, places, within_radius}
use Rattle.search.specs.Calls.{code_in, distance_in, listed}
use Rattle.search.specs.declared.Tally.{Tally}

-- a plate's places are filled, from a place on
pub record Fills (xs : List ℕ) (plate : List ℤ) (k at : ℕ) (codes distances codes' distances' : List ℕ) : Type 0 where
  pub is_codes : codes' ≡ sets codes at (places k code_in (nearest xs k plate))
  pub is_distances : distances' ≡ sets distances at (places k distance_in (nearest xs k plate))

-- the ranks of the strains inside a radius stand in front of a slice, in the order of the walk; the tally counts them, and what was measured
pub record Gathers (xs : List ℕ) (plate : List ℤ) (radius : ℕ) (before after : List ℕ) (tally : Tally) : Type 0 where
  pub ranks : after ≡ map (λ i. rank (found_at xs plate i)) (within (found_at xs plate) (reach_at xs) radius (nodes (forest_of xs))) ++ drop tally.strains before
  pub strains : tally.strains ≡ length (within (found_at xs plate) (reach_at xs) radius (nodes (forest_of xs)))
  pub few : tally.strains ≤ count_of xs
  pub measured : tally.measured ≡ length (measures (found_at xs plate) (reach_at xs) radius (forest_of xs))

-- the strains inside the radius are written, and counted
pub record Lists (xs : List ℕ) (plate : List ℤ) (radius : ℕ) (codes distances codes' distances' : List ℕ) (tally : Tally) : Type 0 where
  pub is_codes : codes' ≡ listed (within_radius xs radius plate) code_in codes
  pub is_distances : distances' ≡ listed (within_radius xs radius plate) distance_in distances
  pub strains : tally.strains ≡ length (within_radius xs radius plate)
  pub measured : tally.measured ≡ measured_count xs radius plate
