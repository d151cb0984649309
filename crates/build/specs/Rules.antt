-- The rules of start, add and filing, in document 01's order by call. Assumes nothing.
use Rattle.std.specs.Prelude.{Bool, true, false, not, ◌&&◌, List, [], ◌∷◌, ◌++◌, ℕ, suc, ltb, eqb, ℤ, length, take}
use Rattle.profile.specs.Distance.{gap}
use Rattle.image.specs.Fields.{wells_of, count_of, code_at, profile_at, size_of}
use Rattle.image.specs.Verdict.{Rule, rule, when, at_first}
use Rattle.checker.specs.Tests.{outside}
use Rattle.checker.specs.Check.{check_rules}

-- two profiles are alike: as many wells, and none differs
unfoldable pub alike : List ℤ → List ℤ → Bool
alike [] [] = true
alike [] (y ∷ ys) = false
alike (x ∷ xs) [] = false
alike (x ∷ xs) (y ∷ ys) = eqb (gap x y) 0 && alike xs ys

-- record i has this code; this profile
unfoldable pub code_taken : List ℕ → ℕ → ℕ → Bool
code_taken xs code i = eqb (code_at xs i) code

unfoldable pub profile_held : List ℕ → List ℤ → ℕ → Bool
profile_held xs profile i = alike (profile_at xs i) profile

-- Start: 3, 4, 17, 18, 16. `room` is the buffer's length
unfoldable pub start_rules : (wells metric code : ℕ) → List ℤ → (room : ℕ) → List Rule
start_rules wells metric code profile room =
    rule 3 (when (outside 1 16 wells))
    ∷ rule 4 (when (outside 1 2 metric))
    ∷ rule 17 (when (not (eqb (length profile) wells)))
    ∷ rule 18 (when (eqb code 0))
    ∷ rule 16 (when (ltb room (size_of wells 1)))
    ∷ []

-- Add, once the strain is found good: 20, 16
unfoldable pub room_rules : List ℕ → (room : ℕ) → List Rule
room_rules xs room =
    rule 20 (when (eqb (count_of xs) 1024))
    ∷ rule 16 (when (ltb room (size_of (wells_of xs) (suc (count_of xs)))))
    ∷ []

-- Add, once the image is accepted: 17 to 20, 16
unfoldable pub strain_rules : List ℕ → (code : ℕ) → List ℤ → (room : ℕ) → List Rule
strain_rules xs code profile room =
    rule 17 (when (not (eqb (length profile) (wells_of xs))))
    ∷ rule 18 (when (eqb code 0))
    ∷ rule 18 (at_first (count_of xs) (code_taken xs code))
    ∷ rule 19 (at_first (count_of xs) (profile_held xs profile))
    ∷ room_rules xs room

-- Add: 1, also where the stated length exceeds the buffer, to 13, then those
unfoldable pub add_rules : List ℕ → (stated code : ℕ) → List ℤ → List Rule
add_rules buffer stated code profile =
    rule 1 (when (ltb (length buffer) stated))
    ∷ (check_rules (take stated buffer) ++ strain_rules (take stated buffer) code profile (length buffer))

-- Filing: 1 to 13, 16
unfoldable pub file_rules : List ℕ → (room : ℕ) → List Rule
file_rules xs room = check_rules xs ++ (rule 16 (when (ltb room (length xs))) ∷ [])
