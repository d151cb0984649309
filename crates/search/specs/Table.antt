-- Document 01's table of refusals for the sitting and for the search within a radius, each in its call's order. Assumes nothing.
use Rattle.std.specs.Prelude.{◌≢◌, ◌⊎◌, List, [], ◌∷◌, ◌++◌, ℕ, ◌*◌, ◌/◌, ◌%◌, ◌<◌}
use Rattle.image.specs.Fields.{wells_of, count_of}
use Rattle.image.specs.Faults.{Line, line, Whole}
use Rattle.checker.specs.Table.{Outside, table}

-- Sitting, behind the lines on the image: 14 values not a multiple of the wells, or not 1 to 64 plates; 15 neighbours 0 or over 32; 16 a slice
-- shorter than plates times k. `values` is how many the plates have, `codes` and `distances` are the slices' lengths
unfoldable pub plate_table : List ℕ → (values k codes distances : ℕ) → List Line
plate_table xs values k codes distances =
    line 14 (Whole ((values % wells_of xs ≢ 0) ⊎ Outside 1 64 (values / wells_of xs)))
    ∷ line 15 (Whole (Outside 1 32 k))
    ∷ line 16 (Whole ((codes < values / wells_of xs * k) ⊎ (distances < values / wells_of xs * k)))
    ∷ []

-- Sitting: 1 to 13, then those
unfoldable pub sitting_table : List ℕ → (values k codes distances : ℕ) → List Line
sitting_table xs values k codes distances = table xs ++ plate_table xs values k codes distances

-- Within, behind the lines on the image: 14 not as many values as wells; 16 a slice shorter than the count
unfoldable pub radius_table : List ℕ → (values codes distances : ℕ) → List Line
radius_table xs values codes distances =
    line 14 (Whole (values ≢ wells_of xs))
    ∷ line 16 (Whole ((codes < count_of xs) ⊎ (distances < count_of xs)))
    ∷ []

-- Within: 1 to 13, then those
unfoldable pub within_table : List ℕ → (values codes distances : ℕ) → List Line
within_table xs values codes distances = table xs ++ radius_table xs values codes distances
