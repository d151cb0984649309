-- The walk of the nearest search, and the walk within a radius, over any forest whose records have a distance, a code and a reach.
-- Assumes nothing.
use Rattle.std.specs.Prelude.{◌≡◌, Bool, true, false, cond, ◌&&◌, List, [], ◌∷◌, ◌++◌, map, ℕ, suc, ◌+◌, ◌-◌, ◌≤◌, ltb, leb, eqb, length, get_or}
use Rattle.ranking.specs.Found.{Found, rank}
use Rattle.ranking.specs.First.{offered}
use Rattle.walk.specs.Forest.{Forest, none, grow, nodes, join, Under}

-- no strain
abbrev pub no_found : Found
no_found = record { distance = 0; code = 0 }

-- the worst distance that a list of k keeps
abbrev pub worst : ℕ → List Found → ℕ
worst k kept = (get_or kept (k - 1) no_found).distance

-- what the nearest search does with a record: it measures and offers it, or passes it over with all that hangs below a measured record
-- `under`, having kept these strains by then
pub data Step : Type 0 where
  measured : ℕ → Step
  passed : (under : ℕ) → (kept : List Found) → ℕ → Step

abbrev pub record_of : Step → ℕ
record_of (measured v) = v
record_of (passed under kept v) = v

-- the records that steps measure, and those that they pass over
unfoldable pub measured_of : List Step → List ℕ
measured_of [] = []
measured_of (measured v ∷ steps) = v ∷ measured_of steps
measured_of (passed under kept v ∷ steps) = measured_of steps

unfoldable pub passed_of : List Step → List ℕ
passed_of [] = []
passed_of (measured v ∷ steps) = passed_of steps
passed_of (passed under kept v ∷ steps) = v ∷ passed_of steps

module _ (found : ℕ → Found) (reach : ℕ → ℕ) where
  -- no record below v is nearer than v's distance less v's reach
  abbrev pub Reaching : Forest → Type 0
  Reaching = Under (λ v u. (found v).distance ≤ (found u).distance + reach v)

  -- ---- the nearest k

  module _ (k : ℕ) where
    -- the list holds k strains, and v lies further than the worst of them and v's reach
    unfoldable pub passes : ℕ → List Found → Bool
    passes v kept = eqb (length kept) k && ltb (worst k kept + reach v) (found v).distance

    -- what is kept once a forest was walked: each record is offered, and then its children are walked or all passed over
    unfoldable pub walk : Forest → List Found → List Found
    walk none kept = kept
    walk (grow v below behind) kept =
        walk behind (cond (passes v (offered rank k (found v) kept)) (offered rank k (found v) kept) (walk below (offered rank k (found v) kept)))

    -- what was done with each record, in the order of the walk
    unfoldable pub trace : Forest → List Found → List Step
    trace none kept = []
    trace (grow v below behind) kept =
        measured v
        ∷ cond (passes v (offered rank k (found v) kept)) (map (passed v (offered rank k (found v) kept)) (nodes below)) (trace below (offered rank k (found v) kept))
        ++ trace behind (cond (passes v (offered rank k (found v) kept)) (offered rank k (found v) kept) (walk below (offered rank k (found v) kept)))

  -- ---- all within a radius

  module _ (radius : ℕ) where
    -- v's children are measured
    unfoldable pub opens : ℕ → Bool
    opens v = leb (found v).distance (radius + reach v)

    -- the records that are measured
    unfoldable pub measures : Forest → List ℕ
    measures none = []
    measures (grow v below behind) = v ∷ cond (opens v) (measures below) [] ++ measures behind

    -- those of a list of records that lie within the radius
    unfoldable pub within : List ℕ → List ℕ
    within [] = []
    within (v ∷ vs) = cond (leb (found v).distance radius) (v ∷ within vs) (within vs)

    -- how the walk goes on where nothing lies within the radius: so many records are measured, and a rest is left
    pub data Passing (from : Forest) : ℕ → Forest → Type 0 where
      here : Passing from 0 from
      into : {many v : ℕ} {below behind : Forest} → Passing from many (grow v below behind)
          → ltb radius (found v).distance ≡ true → opens v ≡ true → Passing from (suc many) (join below behind)
      over : {many v : ℕ} {below behind : Forest} → Passing from many (grow v below behind)
          → ltb radius (found v).distance ≡ true → opens v ≡ false → Passing from (suc many) behind
