-- What a library says, apart from how its bytes lie. Assumes nothing.
use Rattle.std.specs.Prelude.{List, [], map, ℕ, ℤ, pos, get_or}
use Rattle.image.specs.Fields.{wells_of, metric_of, count_of, root_of, parent_at, level_at}
use Rattle.image.specs.Strains.{Strain, each, strain_at}

-- a record: a strain, its parent's record number and its level
pub record Kept : Type 0 where
  pub strain : Strain
  pub parent : ℕ
  pub level : ℤ

-- the records stand in file order; the root is told by its record number
pub record Content : Type 0 where
  pub wells : ℕ
  pub metric : ℕ
  pub root : ℕ
  pub records : List Kept

abbrev pub kept_of : (code : ℕ) → List ℤ → (parent : ℕ) → ℤ → Kept
kept_of code profile parent level = record { strain = record { code = code; profile = profile }; parent = parent; level = level }

-- stands where a number is asked for that no record has
abbrev pub no_record : Kept
no_record = record { strain = record { code = 0; profile = [] }; parent = 0; level = pos 0 }

-- record i of a list
abbrev pub nth : List Kept → ℕ → Kept
nth rs i = get_or rs i no_record

abbrev pub strains : Content → List Strain
strains c = map (λ r. r.strain) c.records

-- record i, read from a library's bytes
abbrev pub record_at : List ℕ → ℕ → Kept
record_at xs i = record { strain = strain_at xs i; parent = parent_at xs i; level = level_at xs i }

-- the first so many records
unfoldable pub records_of : List ℕ → ℕ → List Kept
records_of xs n = each (record_at xs) 0 n

-- what a library's bytes say up to record n
abbrev pub first_of : List ℕ → ℕ → Content
first_of xs n = record { wells = wells_of xs; metric = metric_of xs; root = root_of xs; records = records_of xs n }

-- all that they say
unfoldable pub content_of : List ℕ → Content
content_of xs = first_of xs (count_of xs)
