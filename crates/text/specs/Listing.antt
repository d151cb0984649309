-- The listing of a library, as document 01 prints it. Assumes nothing.
use Rattle.std.specs.Prelude.{List, [], ◌∷◌, ◌++◌, ℕ, zero, suc, ℤ}
use Prim.Native.Char.{code}
use Prim.Native.String.{String, [] as []ˢ, ◌∷◌ as ◌∷ˢ◌}
use Rattle.image.specs.Fields.{wells_of, metric_of, count_of, root_of, code_at, parent_at, level_at, profile_at}
use Rattle.text.specs.Decimal.{decimal, signed_decimal}

-- the bytes of a text in ASCII
abbrev pub ascii : String → List ℕ
ascii []ˢ = []
ascii (c ∷ˢ s) = code c ∷ ascii s

-- the values of a profile, each behind a space
unfoldable pub values_text : List ℤ → List ℕ
values_text [] = []
values_text (v ∷ vs) = 32 ∷ signed_decimal v ++ values_text vs

-- a word and a number behind it
abbrev pub field : String → ℕ → List ℕ
field word n = ascii word ++ decimal n

-- wells, metric, count, and the root's code
unfoldable pub header_line : List ℕ → List ℕ
header_line xs =
    field "wells " (wells_of xs) ++ field " metric " (metric_of xs) ++ field " count " (count_of xs) ++ field " root " (code_at xs (root_of xs)) ++ 10 ∷ []

-- a record's code, its parent's code, and its level
unfoldable pub node_text : List ℕ → ℕ → List ℕ
node_text xs i = decimal (code_at xs i) ++ 32 ∷ decimal (code_at xs (parent_at xs i)) ++ 32 ∷ signed_decimal (level_at xs i)

-- these, and the values
unfoldable pub record_line : List ℕ → ℕ → List ℕ
record_line xs i = node_text xs i ++ values_text (profile_at xs i) ++ 10 ∷ []

-- the lines of so many records from record i on
unfoldable pub record_lines : List ℕ → (i many : ℕ) → List ℕ
record_lines xs i zero = []
record_lines xs i (suc many) = record_line xs i ++ record_lines xs (suc i) many

-- the header, and one line for each record in file order
unfoldable pub listing : List ℕ → List ℕ
listing xs = header_line xs ++ record_lines xs 0 (count_of xs)

unfoldable pub refused_line : ℕ → List ℕ
refused_line number = field "refused " number ++ 10 ∷ []
