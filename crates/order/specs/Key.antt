-- A record's key, and a library's records in ascending order of code. Assumes nothing.
use Rattle.std.specs.Prelude.{List, ℕ, ◌+◌, ◌*◌}
use Rattle.ranking.specs.Sort.{sort_by}
use Rattle.image.specs.Fields.{count_of, code_at}
use Rattle.image.specs.Strains.{each}

-- a record's code and number in one: the order of these numbers is the order of the codes
abbrev pub key_at : List ℕ → ℕ → ℕ
key_at xs i = code_at xs i * 65536 + i

-- the numbers of a library's records, in file order
abbrev pub numbers_of : List ℕ → List ℕ
numbers_of xs = each (λ i. i) 0 (count_of xs)

-- in ascending order of code
unfoldable pub order_of : List ℕ → List ℕ
order_of xs = sort_by (code_at xs) (numbers_of xs)
