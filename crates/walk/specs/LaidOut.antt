-- A library's tree laid out flat. Assumes nothing.
use Rattle.std.specs.Prelude.{◌≡◌, List, map, ℕ}
use Rattle.walk.specs.Forest.{nodes, ends, forest_of}
use Rattle.walk.specs.declared.step.Step.{Step}

-- the records of the walk's places, and for each place the one behind its descendants
abbrev pub nodes_in : List Step → List ℕ
nodes_in steps = map (λ (s : Step). s.node) steps

abbrev pub ends_in : List Step → List ℕ
ends_in steps = map (λ (s : Step). s.behind) steps

-- the tree's records in the order of the walk, each with the place behind its descendants
pub record LaidOut (xs : List ℕ) (steps : List Step) : Type 0 where
  pub is_order : nodes_in steps ≡ nodes (forest_of xs)
  pub is_end : ends_in steps ≡ ends 0 (forest_of xs)
