-- The rules of the sitting and of the search within a radius, in document 01's order by call. Assumes nothing.
use Rattle.std.specs.Prelude.{not, ◌||◌, List, [], ◌∷◌, ◌++◌, ℕ, ◌*◌, ◌/◌, ◌%◌, ltb, eqb}
use Rattle.image.specs.Fields.{wells_of, count_of}
use Rattle.image.specs.Verdict.{Rule, rule, when}
use Rattle.checker.specs.Tests.{outside}
use Rattle.checker.specs.Check.{check_rules}

-- either slice has fewer places than are needed
unfoldable pub slice_rules : (needed codes distances : ℕ) → List Rule
slice_rules needed codes distances = rule 16 (when (ltb codes needed || ltb distances needed)) ∷ []

-- Sitting, once the image is accepted: 14 to 16. The plates' values, the neighbours asked for, and the lengths of both slices
unfoldable pub plate_rules : List ℕ → (values k codes distances : ℕ) → List Rule
plate_rules xs values k codes distances =
    rule 14 (when (not (eqb (values % wells_of xs) 0) || outside 1 64 (values / wells_of xs)))
    ∷ rule 15 (when (outside 1 32 k))
    ∷ slice_rules (values / wells_of xs * k) codes distances

-- Sitting: 1 to 13, then those
unfoldable pub sitting_rules : List ℕ → (values k codes distances : ℕ) → List Rule
sitting_rules xs values k codes distances = check_rules xs ++ plate_rules xs values k codes distances

-- Within, once the image is accepted: 14, 16
unfoldable pub radius_rules : List ℕ → (values codes distances : ℕ) → List Rule
radius_rules xs values codes distances = rule 14 (when (not (eqb values (wells_of xs)))) ∷ slice_rules (count_of xs) codes distances

-- Within: 1 to 13, then those
unfoldable pub within_rules : List ℕ → (values codes distances : ℕ) → List Rule
within_rules xs values codes distances = check_rules xs ++ radius_rules xs values codes distances
