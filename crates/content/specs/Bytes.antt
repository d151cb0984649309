-- The bytes that hold a content, as document 01 lays them out. Assumes nothing.
use Rattle.std.specs.Prelude.{◌≡◌, ℕ, suc, ◌+◌, ◌-◌, ◌*◌, ◌/◌, ◌%◌, ◌<◌, ℤ, pos, negsuc, length, get_or, ◌≤ℤ◌}
use mathlib.Core.List.{List, [], ◌∷◌, ◌++◌, flat_map}
use Rattle.profile.specs.Distance.{Profile}
use Rattle.image.specs.Fields.{edition_of, wells_of, count_of, profiles_offset_of, nodes_offset_of, spare_at, size_of}
use Rattle.content.specs.Content.{Kept, Content, nth}

-- little-endian numbers
abbrev pub bytes16 : ℕ → List ℕ
bytes16 n = n % 256 ∷ n / 256 ∷ []

abbrev pub bytes32 : ℕ → List ℕ
bytes32 n = bytes16 (n % 65536) ++ bytes16 (n / 65536)

-- a well as 16 bits, two's complement
unfoldable pub word_of : ℤ → ℕ
word_of (pos n) = n
word_of (negsuc k) = 65535 - k

-- the byte of a level from -1 up: the level plus 1. Below -1, 0 stands
unfoldable pub level_byte_of : ℤ → ℕ
level_byte_of (pos n) = suc n
level_byte_of (negsuc k) = 0

-- edition, wells, metric, count, the root's record number, the offsets of profiles and of nodes
unfoldable pub header_bytes : (wells metric count root : ℕ) → List ℕ
header_bytes wells metric count root =
    bytes16 1 ++ (wells ∷ metric ∷ []) ++ bytes16 count ++ bytes16 root ++ bytes32 (16 + 8 * count) ++ bytes32 16

-- code, parent, level, spare
unfoldable pub node_bytes : Kept → List ℕ
node_bytes r = bytes32 r.strain.code ++ bytes16 r.parent ++ (level_byte_of r.level ∷ 0 ∷ [])

unfoldable pub profile_bytes : List ℤ → List ℕ
profile_bytes profile = flat_map (λ z. bytes16 (word_of z)) profile

unfoldable pub bytes_of : Content → List ℕ
bytes_of c =
    header_bytes c.wells c.metric (length c.records) c.root
    ++ flat_map node_bytes c.records
    ++ flat_map (λ r. profile_bytes r.strain.profile) c.records

-- a list of bytes
pub record Bytes (xs : List ℕ) : Type 0 where
  pub low : (j : ℕ) → get_or xs j 0 < 256

-- a record whose fields have room in their bytes
pub record Roomy (wells : ℕ) (r : Kept) : Type 0 where
  pub code : r.strain.code < 4294967296
  pub profile : Profile wells r.strain.profile
  pub parent : r.parent < 65536
  pub least : negsuc 0 ≤ℤ r.level
  pub most : r.level ≤ℤ pos 254

-- a content whose fields all have room in their bytes
pub record Writable (c : Content) : Type 0 where
  pub wells : c.wells < 256
  pub metric : c.metric < 256
  pub count : length c.records < 65536
  pub root : c.root < 65536
  pub each : (i : ℕ) → i < length c.records → Roomy c.wells (nth c.records i)

-- what is laid down of the bytes, apart from what they say
pub record Framed (xs : List ℕ) : Type 0 where
  pub edition : edition_of xs ≡ 1
  pub profiles_offset : profiles_offset_of xs ≡ 16 + 8 * count_of xs
  pub nodes_offset : nodes_offset_of xs ≡ 16
  pub size : length xs ≡ size_of (wells_of xs) (count_of xs)
  pub spare : (i : ℕ) → i < count_of xs → spare_at xs i ≡ 0
