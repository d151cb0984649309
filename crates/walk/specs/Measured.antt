-- Which profiles the search within a radius measures: document 01's rule. Assumes nothing.
use Rattle.std.specs.Prelude.{Bool, cond, ◌&&◌, ◌||◌, List, ℕ, zero, suc, ◌+◌, eqb, ℤ}
use Rattle.image.specs.Fields.{count_of, root_of, parent_at}
use Rattle.walk.specs.Walk.{opens}
use Rattle.walk.specs.Weighed.{found_at, reach_at}

module _ (xs : List ℕ) (radius : ℕ) (plate : List ℤ) where
  -- the root is measured; another record exactly when its parent is, and the parent's distance is at most the radius and the parent's reach.
  -- So many generations are looked at
  unfoldable pub measured_in : ℕ → ℕ → Bool
  measured_in zero i = eqb i (root_of xs)
  measured_in (suc generations) i =
      eqb i (root_of xs) || (opens (found_at xs plate) (reach_at xs) radius (parent_at xs i) && measured_in generations (parent_at xs i))

  -- no record of an accepted library lies more than 21 generations below the root
  unfoldable pub is_measured : ℕ → Bool
  is_measured i = measured_in 21 i

  -- how many of so many records from i on
  unfoldable pub measured_from : (i many : ℕ) → ℕ
  measured_from i zero = 0
  measured_from i (suc many) = cond (is_measured i) 1 0 + measured_from (suc i) many

  unfoldable pub measured_count : ℕ
  measured_count = measured_from 0 (count_of xs)
