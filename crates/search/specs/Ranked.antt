-- The strains of a library for a plate, by distance and then code. No tree is named here. Assumes nothing.
use Rattle.std.specs.Prelude.{cond, List, [], ◌∷◌, ◌++◌, map, ℕ, zero, suc, ◌*◌, ◌-◌, ◌/◌, leb, ℤ, length, take, drop, replicate}
use Rattle.ranking.specs.Sort.{sort_by}
use Rattle.ranking.specs.Found.{Found, rank}
use Rattle.image.specs.Fields.{wells_of, metric_of}
use Rattle.image.specs.Strains.{strains_of}
use Rattle.walk.specs.Weighed.{weighed}

-- every strain, weighed against the plate, in ascending (distance, code)
unfoldable pub ranked : List ℕ → List ℤ → List Found
ranked xs plate = sort_by rank (map (weighed (metric_of xs) plate) (strains_of xs))

-- the k nearest
unfoldable pub nearest : List ℕ → ℕ → List ℤ → List Found
nearest xs k plate = take k (ranked xs plate)

-- those of a list that lie within a radius
unfoldable pub inside : ℕ → List Found → List Found
inside radius [] = []
inside radius (f ∷ fs) = cond (leb f.distance radius) (f ∷ inside radius fs) (inside radius fs)

-- all within a radius
unfoldable pub within_radius : List ℕ → ℕ → List ℤ → List Found
within_radius xs radius plate = inside radius (ranked xs plate)

-- how many plates, and plate j: each takes as many values as the library has wells
abbrev pub plates_in : List ℕ → List ℤ → ℕ
plates_in xs plates = length plates / wells_of xs

unfoldable pub plate_at : List ℕ → List ℤ → ℕ → List ℤ
plate_at xs plates j = take (wells_of xs) (drop (j * wells_of xs) plates)

-- a plate's k places: a part of each strain found, its code or its distance, and then 0
unfoldable pub places : ℕ → (Found → ℕ) → List Found → List ℕ
places k part fs = map part fs ++ replicate (k - length fs) 0

-- the places of so many plates from plate j on
unfoldable pub rows : List ℕ → ℕ → (Found → ℕ) → List ℤ → (j many : ℕ) → List ℕ
rows xs k part plates j zero = []
rows xs k part plates j (suc many) = places k part (nearest xs k (plate_at xs plates j)) ++ rows xs k part plates (suc j) many
