-- Starting a library, and adding a strain to it: document 01, "Adding a strain". Assumes nothing.
use Rattle.std.specs.Prelude.{Bool, cond, ◌||◌, ◌&&◌, List, [], ◌∷◌, ◌++◌, ℕ, zero, suc, ◌*◌, ltb, leb, eqb, ℤ, pos, length, set}
use Rattle.std.proofs.Math.IntN.{suc_ℤ}
use Rattle.profile.specs.Distance.{distance}
use Rattle.profile.specs.Level.{cover_limit, fitting_level}
use Rattle.tree.specs.Grow.{higher}
use Rattle.image.specs.Strains.{Strain}
use Rattle.content.specs.Content.{Kept, Content, nth}

-- a lone root at level 0
unfoldable pub started : (wells metric : ℕ) → Strain → Content
started wells metric s = record { wells = wells; metric = metric; root = 0; records = record { strain = s; parent = 0; level = pos 0 } ∷ [] }

-- the distance of a record and a profile x
unfoldable pub distance_to : ℕ → List ℤ → Kept → ℕ
distance_to metric x r = distance metric r.strain.profile x

-- a record can take x if their distance is at most 2 ^ level; both sides are doubled
unfoldable pub near_enough : ℕ → List ℤ → Kept → Bool
near_enough metric x r = leb (2 * distance_to metric x r) (cover_limit r.level)

-- one record is nearer to x than another; the lower code wins a tie
unfoldable pub nearer : ℕ → List ℤ → Kept → Kept → Bool
nearer metric x r s =
    ltb (distance_to metric x r) (distance_to metric x s) || (eqb (distance_to metric x r) (distance_to metric x s) && ltb r.strain.code s.strain.code)

-- of the root and the records below n: the number of the nearest that can take x. `at` gives the record of a number
unfoldable pub taker_below : ℕ → List ℤ → ℕ → (ℕ → Kept) → ℕ → ℕ
taker_below metric x root at zero = root
taker_below metric x root at (suc i) =
    let best = taker_below metric x root at i in
    cond (near_enough metric x (at i) && nearer metric x (at i) (at best)) i best

-- the parent of a new strain with profile x
unfoldable pub parent_for : Content → List ℤ → ℕ
parent_for c x = taker_below c.metric x c.root (nth c.records) (length c.records)

-- and its level: the one that fits the distance
unfoldable pub level_for : Content → List ℤ → ℤ
level_for c x = fitting_level (distance_to c.metric x (nth c.records (parent_for c x)))

-- a root's level becomes the higher of its old one and the new level plus 1
unfoldable pub raised : ℤ → Kept → Kept
raised level r = record { strain = r.strain; parent = r.parent; level = higher r.level (suc_ℤ level) }

-- the new record comes last; all other levels and parents stay
unfoldable pub added : Content → Strain → Content
added c s = record {
  wells = c.wells;
  metric = c.metric;
  root = c.root;
  records =
      set c.records c.root (raised (level_for c s.profile) (nth c.records c.root))
      ++ (record { strain = s; parent = parent_for c s.profile; level = level_for c s.profile } ∷ []);
}
