-- Document 01's table of refusals, lines 1 to 13: each number, what it is given for, and the place told. Assumes nothing.
use Rattle.std.specs.Prelude.{◌≡◌, ◌≢◌, ◌⊎◌, List, [], ◌∷◌, ℕ, ◌+◌, ◌*◌, ◌≤◌, ◌<◌, length, ◌<ℤ◌}
use Rattle.std.proofs.Math.IntN.{suc_ℤ}
use Rattle.profile.specs.Level.{◌>2^◌, ◌≤2^◌, lower}
use Rattle.image.specs.Fields.{edition_of, wells_of, metric_of, count_of, root_of, profiles_offset_of, nodes_offset_of, code_at, parent_at, level_byte_at, level_at, spare_at, size_of, distance_at}
use Rattle.image.specs.Faults.{Line, line, Whole, AtRecord, AtPair}

abbrev pub Outside : ℕ → ℕ → ℕ → Type 0
Outside lo hi x = (x < lo) ⊎ (hi < x)

-- code 0, parent ≥ n, level byte > 21 or spare not 0
abbrev pub NodeFault : List ℕ → ℕ → Type 0
NodeFault xs i = (((code_at xs i ≡ 0) ⊎ (count_of xs ≤ parent_at xs i)) ⊎ (21 < level_byte_at xs i)) ⊎ (spare_at xs i ≢ 0)

-- the root's parent not itself, or another's level not below its parent's
abbrev pub LevelFault : List ℕ → ℕ → Type 0
LevelFault xs i = ((i ≡ root_of xs) × (parent_at xs i ≢ i)) ⊎ ((i ≢ root_of xs) × (level_at xs i <ℤ level_at xs (parent_at xs i) → ⊥))

-- cover fails: another than the root, not within 2 ^ (level + 1) of its parent
abbrev pub CoverFault : List ℕ → ℕ → Type 0
CoverFault xs i = (i ≢ root_of xs) × (distance_at xs (parent_at xs i) i ≤2^ suc_ℤ (level_at xs i) → ⊥)

-- separation fails: two records, not further apart than 2 ^ m, m being the lower of their levels
abbrev pub SeparationFault : List ℕ → ℕ → ℕ → Type 0
SeparationFault xs later earlier = distance_at xs later earlier >2^ lower (level_at xs later) (level_at xs earlier) → ⊥

unfoldable pub table : List ℕ → List Line
table xs =
    line 1 (Whole (Outside 16 40976 (length xs)))
    ∷ line 2 (Whole (edition_of xs ≢ 1))
    ∷ line 3 (Whole (Outside 1 16 (wells_of xs)))
    ∷ line 4 (Whole (Outside 1 2 (metric_of xs)))
    ∷ line 5 (Whole (Outside 1 1024 (count_of xs)))
    ∷ line 6 (Whole ((profiles_offset_of xs ≢ 16 + 8 * count_of xs) ⊎ (nodes_offset_of xs ≢ 16)))
    ∷ line 7 (Whole (length xs ≢ size_of (wells_of xs) (count_of xs)))
    ∷ line 8 (Whole (count_of xs ≤ root_of xs))
    ∷ line 9 (AtRecord (count_of xs) (NodeFault xs))
    ∷ line 10 (AtPair (count_of xs) (λ later earlier. code_at xs later ≡ code_at xs earlier))
    ∷ line 11 (AtRecord (count_of xs) (LevelFault xs))
    ∷ line 12 (AtRecord (count_of xs) (CoverFault xs))
    ∷ line 13 (AtPair (count_of xs) (SeparationFault xs))
    ∷ []
