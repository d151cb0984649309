-- Document 01's table of refusals for start, add and filing, each in its call's order. Assumes nothing.
use Rattle.std.specs.Prelude.{◌≡◌, ◌≢◌, List, [], ◌∷◌, ◌++◌, ℕ, suc, ◌<◌, ℤ, length, take}
use Rattle.image.specs.Fields.{wells_of, count_of, code_at, profile_at, size_of}
use Rattle.image.specs.Faults.{Line, line, Whole, AtRecord}
use Rattle.checker.specs.Table.{Outside, table}

-- Start: 3, 4, 17, 18, 16. `room` is the buffer's length
unfoldable pub start_table : (wells metric code : ℕ) → List ℤ → (room : ℕ) → List Line
start_table wells metric code profile room =
    line 3 (Whole (Outside 1 16 wells))
    ∷ line 4 (Whole (Outside 1 2 metric))
    ∷ line 17 (Whole (length profile ≢ wells))
    ∷ line 18 (Whole (code ≡ 0))
    ∷ line 16 (Whole (room < size_of wells 1))
    ∷ []

-- Add, behind the lines on the image: 17, 18 for code 0 and for a taken code, 19, 20, 16
unfoldable pub strain_table : List ℕ → (code : ℕ) → List ℤ → (room : ℕ) → List Line
strain_table xs code profile room =
    line 17 (Whole (length profile ≢ wells_of xs))
    ∷ line 18 (Whole (code ≡ 0))
    ∷ line 18 (AtRecord (count_of xs) (λ i. code_at xs i ≡ code))
    ∷ line 19 (AtRecord (count_of xs) (λ i. profile_at xs i ≡ profile))
    ∷ line 20 (Whole (count_of xs ≡ 1024))
    ∷ line 16 (Whole (room < size_of (wells_of xs) (suc (count_of xs))))
    ∷ []

-- Add: 1, also where the stated length exceeds the buffer, to 13, then those
unfoldable pub add_table : List ℕ → (stated code : ℕ) → List ℤ → List Line
add_table buffer stated code profile =
    line 1 (Whole (length buffer < stated))
    ∷ (table (take stated buffer) ++ strain_table (take stated buffer) code profile (length buffer))

-- Filing: 1 to 13, 16
unfoldable pub file_table : List ℕ → (room : ℕ) → List Line
file_table xs room = table xs ++ (line 16 (Whole (room < length xs)) ∷ [])
