-- The running list, as callers see the struct `Best` and as its fields hold it: ranks in ascending order, and 0 behind them.
-- Assumes nothing.
use Rattle.std.specs.Prelude.{◌≡◌, cond, ◌||◌, Bool, List, ◌++◌, ℕ, ◌-◌, ◌≤◌, eqb, ltb, length, get_or, take, drop, replicate}
use Rattle.ranking.specs.Sort.{itself}
use Rattle.ranking.specs.Order.{Ascending}
use Rattle.ranking.specs.Found.{distance_of}
use Rattle.ranking.specs.Running.{Running}
use Rattle.ranking.specs.declared.best.Best.TheInside.{Inside}

-- a running list of at most k
abbrev pub best_of : ℕ → List ℕ → Running
best_of k kept = record { asked = k; kept = kept }

-- the list that the fields hold
abbrev pub held_in : Inside → Running
held_in b = best_of b.asked (take b.held b.ranks)

-- the fields that hold a list: a running list gives them back, so that it may be copied
abbrev pub fields_of : Running → Inside
fields_of r = record { ranks = r.kept ++ replicate (32 - length r.kept) 0; held = length r.kept; asked = r.asked }

-- what holds of the fields: the list is in order and not longer than it may be, and 0 stands behind it
pub record Holds (b : Inside) : Type 0 where
  pub form : fields_of (held_in b) ≡ b
  pub some : 1 ≤ b.asked
  pub most : b.asked ≤ 32
  pub room : b.held ≤ b.asked
  pub ascending : Ascending itself (take b.held b.ranks)
  pub zeros : drop b.held b.ranks ≡ replicate (32 - b.held) 0

-- whether a rank enters the list: it is not full, or its last rank is higher
abbrev pub enters_in : ℕ → List ℕ → ℕ → Bool
enters_in k kept rank = ltb (length kept) k || ltb rank (get_or kept (k - 1) 0)

-- what lies further than this is not kept: the worst distance kept, once k are kept. Before, the highest number of 32 bits, which no distance exceeds
unfoldable pub bound_of : ℕ → List ℕ → ℕ
bound_of k kept = cond (eqb (length kept) k) (distance_of (get_or kept (k - 1) 0)) 4294967295

-- the places of a list that is written: the ranks kept, and 0 in those that are left of the k
abbrev pub places_of : ℕ → List ℕ → List ℕ
places_of k kept = kept ++ replicate (k - length kept) 0
