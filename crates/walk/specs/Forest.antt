-- A library's tree as the searches walk it: the root, then its children in file order, each likewise. Assumes nothing.
use Rattle.std.specs.Prelude.{Bool, cond, not, ◌&&◌, ℕ, zero, suc, ◌+◌, eqb, length}
use mathlib.Core.List.{List, [], ◌∷◌, ◌++◌, Memᴰ}
use Rattle.image.specs.Fields.{count_of, root_of, parent_at}

-- a record, what hangs below it, and what comes behind it
pub data Forest : Type 0 where
  none : Forest
  grow : ℕ → (below behind : Forest) → Forest

-- the records in the order of the walk
unfoldable pub nodes : Forest → List ℕ
nodes none = []
nodes (grow v below behind) = v ∷ nodes below ++ nodes behind

-- for each of them the place behind its descendants, where the first stands at place `at`
unfoldable pub ends : ℕ → Forest → List ℕ
ends at none = []
ends at (grow v below behind) = (suc at + length (nodes below)) ∷ ends (suc at) below ++ ends (suc at + length (nodes below)) behind

-- one forest behind another
unfoldable pub join : Forest → Forest → Forest
join none rest = rest
join (grow v below behind) rest = grow v below (join behind rest)

-- what is left once so many records were walked
unfoldable pub after : ℕ → Forest → Forest
after zero forest = forest
after (suc i) none = none
after (suc i) (grow v below behind) = after i (join below behind)

-- record c is a child of v
unfoldable pub is_child : List ℕ → ℕ → ℕ → Bool
is_child xs v c = eqb (parent_at xs c) v && not (eqb c (root_of xs))

-- the children of v among so many records from i on, in file order
unfoldable pub children_from : List ℕ → ℕ → ℕ → ℕ → List ℕ
children_from xs v i zero = []
children_from xs v i (suc many) = cond (is_child xs v i) (i ∷ children_from xs v (suc i) many) (children_from xs v (suc i) many)

-- siblings, each with what hangs below it
unfoldable pub siblings : (ℕ → Forest) → List ℕ → Forest
siblings below [] = none
siblings below (c ∷ cs) = grow c (below c) (siblings below cs)

-- what hangs below v, at most so many generations
unfoldable pub below_of : ℕ → List ℕ → ℕ → Forest
below_of zero xs v = none
below_of (suc generations) xs v = siblings (below_of generations xs) (children_from xs v 0 (count_of xs))

-- the whole tree. A child's level is lower than its parent's, and levels run from -1 to 20: there are at most 21 generations below the root
unfoldable pub forest_of : List ℕ → Forest
forest_of xs = grow (root_of xs) (below_of 21 xs (root_of xs)) none

-- P holds of every record with each record below it
pub data Under (P : ℕ → ℕ → Type 0) : Forest → Type 0 where
  empty : Under P none
  over : {v : ℕ} {below behind : Forest} → ((u : ℕ) → Memᴰ u (nodes below) → P v u) → Under P below → Under P behind → Under P (grow v below behind)
