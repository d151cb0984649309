-- Filing: document 01, "start with the lowest code, then add the rest in ascending order of code". Assumes nothing.
use Rattle.std.specs.Prelude.{◌≡◌, ◌↔◌, ℕ}
use mathlib.Core.List.{List, [], ◌∷◌, foldl, Memᴰ}
use Rattle.ranking.specs.Sort.{sort_by}
use Rattle.image.specs.Fields.{wells_of, metric_of}
use Rattle.image.specs.Strains.{Strain, strains_of}
use Rattle.content.specs.Content.{Content}
use Rattle.content.specs.Bytes.{bytes_of}
use Rattle.content.specs.Adding.{started, added}

-- strains in ascending order of code
abbrev pub by_code : List Strain → List Strain
by_code ss = sort_by (λ s. s.code) ss

-- a library of these strains, in this order. Of no strain there is none, and one without records stands there
unfoldable pub grown_of : (wells metric : ℕ) → List Strain → Content
grown_of wells metric [] = record { wells = wells; metric = metric; root = 0; records = [] }
grown_of wells metric (s ∷ ss) = foldl added (started wells metric s) ss

unfoldable pub filed : (wells metric : ℕ) → List Strain → Content
filed wells metric ss = grown_of wells metric (by_code ss)

-- the filing form of a library
unfoldable pub filing_form : List ℕ → List ℕ
filing_form xs = bytes_of (filed (wells_of xs) (metric_of xs) (strains_of xs))

-- two libraries agree in wells, metric and the set of their strains
pub record Agree (xs ys : List ℕ) : Type 0 where
  pub wells : wells_of xs ≡ wells_of ys
  pub metric : metric_of xs ≡ metric_of ys
  pub strain : (s : Strain) → Memᴰ s (strains_of xs) ↔ Memᴰ s (strains_of ys)
