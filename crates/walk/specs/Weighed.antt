-- What a search finds at a record of a library: its strain's distance from a plate, its code, and its reach. Assumes nothing.
use Rattle.std.specs.Prelude.{List, ℕ, ℤ}
use Rattle.profile.specs.Distance.{distance}
use Rattle.profile.specs.Level.{reach}
use Rattle.ranking.specs.Found.{Found}
use Rattle.image.specs.Fields.{metric_of, level_at}
use Rattle.image.specs.Strains.{Strain, strain_at}

-- a strain weighed against a plate
unfoldable pub weighed : (metric : ℕ) (plate : List ℤ) → Strain → Found
weighed metric plate s = record { distance = distance metric s.profile plate; code = s.code }

unfoldable pub found_at : List ℕ → List ℤ → ℕ → Found
found_at xs plate i = weighed (metric_of xs) plate (strain_at xs i)

unfoldable pub reach_at : List ℕ → ℕ → ℕ
reach_at xs i = reach (level_at xs i)
