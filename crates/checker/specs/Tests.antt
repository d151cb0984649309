-- The tests of the check, one for each rule on a library's bytes. Assumes nothing.
use Rattle.std.specs.Prelude.{Bool, not, ◌||◌, ◌&&◌, List, ℕ, ◌+◌, ◌*◌, ltb, leb, eqb, length}
use Rattle.std.specs.Int.Signed.{le_z}
use Rattle.profile.specs.Level.{lower, cover_limit}
use Rattle.image.specs.Fields.{edition_of, wells_of, metric_of, count_of, root_of, profiles_offset_of, nodes_offset_of, code_at, parent_at, level_byte_at, level_at, spare_at, size_of, distance_at}

-- x is not one of lo to hi
abbrev pub outside : ℕ → ℕ → ℕ → Bool
outside lo hi x = ltb x lo || ltb hi x

-- of the whole
abbrev pub bad_size : List ℕ → Bool
bad_size xs = outside 16 40976 (length xs)

abbrev pub bad_edition : List ℕ → Bool
bad_edition xs = not (eqb (edition_of xs) 1)

abbrev pub bad_wells : List ℕ → Bool
bad_wells xs = outside 1 16 (wells_of xs)

abbrev pub bad_metric : List ℕ → Bool
bad_metric xs = outside 1 2 (metric_of xs)

abbrev pub bad_count : List ℕ → Bool
bad_count xs = outside 1 1024 (count_of xs)

abbrev pub bad_offsets : List ℕ → Bool
bad_offsets xs = not (eqb (profiles_offset_of xs) (16 + 8 * count_of xs)) || not (eqb (nodes_offset_of xs) 16)

abbrev pub bad_length : List ℕ → Bool
bad_length xs = not (eqb (length xs) (size_of (wells_of xs) (count_of xs)))

abbrev pub bad_root : List ℕ → Bool
bad_root xs = leb (count_of xs) (root_of xs)

-- of a record: a field that cannot be
unfoldable pub bad_node : List ℕ → ℕ → Bool
bad_node xs i = eqb (code_at xs i) 0 || leb (count_of xs) (parent_at xs i) || ltb 21 (level_byte_at xs i) || not (eqb (spare_at xs i) 0)

-- the root's parent is not itself, or another's level is not below its parent's
unfoldable pub bad_level : List ℕ → ℕ → Bool
bad_level xs i =
    (eqb i (root_of xs) && not (eqb (parent_at xs i) i)) || (not (eqb i (root_of xs)) && le_z (level_at xs (parent_at xs i)) (level_at xs i))

-- another than the root lies further from its parent than 2 ^ (level + 1)
unfoldable pub bad_cover : List ℕ → ℕ → Bool
bad_cover xs i = not (eqb i (root_of xs)) && ltb (cover_limit (level_at xs i)) (distance_at xs (parent_at xs i) i)

-- of a later record and an earlier one
unfoldable pub same_code : List ℕ → ℕ → ℕ → Bool
same_code xs later earlier = eqb (code_at xs later) (code_at xs earlier)

-- their distance is at most 2 ^ m, m being the lower of their levels; both sides are doubled
unfoldable pub too_near : List ℕ → ℕ → ℕ → Bool
too_near xs later earlier = leb (2 * distance_at xs later earlier) (cover_limit (lower (level_at xs later) (level_at xs earlier)))
