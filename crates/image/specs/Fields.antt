-- The fields of a library's bytes, as document 01 lays them out. Assumes nothing.
use Rattle.std.specs.Prelude.{List, ℕ, ◌+◌, ◌*◌, ℤ, get_or}
use Rattle.profile.specs.Bytes.{wells_at}
use Rattle.profile.specs.Distance.{distance}
use Rattle.profile.specs.Level.{level_of}
use Rattle.image.specs.Numbers.{u16_at, u32_at}

-- the header
abbrev pub edition_of : List ℕ → ℕ
edition_of xs = u16_at xs 0

abbrev pub wells_of : List ℕ → ℕ
wells_of xs = get_or xs 2 0

abbrev pub metric_of : List ℕ → ℕ
metric_of xs = get_or xs 3 0

abbrev pub count_of : List ℕ → ℕ
count_of xs = u16_at xs 4

abbrev pub root_of : List ℕ → ℕ
root_of xs = u16_at xs 6

abbrev pub profiles_offset_of : List ℕ → ℕ
profiles_offset_of xs = u32_at xs 8

abbrev pub nodes_offset_of : List ℕ → ℕ
nodes_offset_of xs = u32_at xs 12

-- the node of record i: code, parent's record number, level byte, spare byte
abbrev pub code_at : List ℕ → ℕ → ℕ
code_at xs i = u32_at xs (16 + 8 * i)

abbrev pub parent_at : List ℕ → ℕ → ℕ
parent_at xs i = u16_at xs (20 + 8 * i)

abbrev pub level_byte_at : List ℕ → ℕ → ℕ
level_byte_at xs i = get_or xs (22 + 8 * i) 0

abbrev pub spare_at : List ℕ → ℕ → ℕ
spare_at xs i = get_or xs (23 + 8 * i) 0

-- the level of record i: its level byte less 1
abbrev pub level_at : List ℕ → ℕ → ℤ
level_at xs i = level_of (level_byte_at xs i)

-- where the profile of record i stands, in a library of so many strains and wells
abbrev pub profile_start : ℕ → ℕ → ℕ → ℕ
profile_start count wells i = 16 + 8 * count + 2 * (wells * i)

-- how long a library of so many strains and wells is
abbrev pub size_of : (wells count : ℕ) → ℕ
size_of wells count = 16 + 8 * count + 2 * (wells * count)

-- the profile of record i
unfoldable pub profile_at : List ℕ → ℕ → List ℤ
profile_at xs i = wells_at xs (profile_start (count_of xs) (wells_of xs) i) (wells_of xs)

-- the distance of two records, by the library's metric
unfoldable pub distance_at : List ℕ → ℕ → ℕ → ℕ
distance_at xs i j = distance (metric_of xs) (profile_at xs i) (profile_at xs j)
