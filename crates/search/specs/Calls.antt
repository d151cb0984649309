-- The sitting and the search within a radius: the answer and the whole of both lent slices, on every input. Assumes nothing.
use Rattle.std.specs.Prelude.{◌≡◌, List, ◌++◌, map, ℕ, ◌*◌, min, ℤ, length, drop}
use Rattle.ranking.specs.Found.{Found}
use Rattle.image.specs.Fields.{count_of}
use Rattle.image.specs.Verdict.{judge}
use Rattle.search.specs.Ranked.{within_radius, plates_in, rows}
use Rattle.walk.specs.Measured.{measured_count}
use Rattle.image.specs.Answer.{given, answer_of}
use Rattle.search.specs.declared.Tally.{Tally}
use Rattle.search.specs.Answer.{Outcome, outcome, Served, Gathered, handed}
use Rattle.search.specs.Rules.{plate_rules, sitting_rules, radius_rules, within_rules}

-- the parts of a strain found that are written
abbrev pub code_in : Found → ℕ
code_in f = f.code

abbrev pub distance_in : Found → ℕ
distance_in f = f.distance

-- a slice in whose front the plates' places were written
abbrev pub served : List ℕ → List ℤ → ℕ → (Found → ℕ) → List ℕ → List ℕ
served xs plates k part lent = rows xs k part plates 0 (plates_in xs plates) ++ drop (plates_in xs plates * k) lent

-- a sitting that is not refused
abbrev pub sat : List ℕ → List ℤ → ℕ → (codes distances : List ℕ) → Outcome ℕ
sat xs plates k codes distances = record {
  answer = given (min k (count_of xs));
  codes = served xs plates k code_in codes;
  distances = served xs plates k distance_in distances;
}

unfoldable pub sitting_of : List ℕ → List ℤ → ℕ → (codes distances : List ℕ) → Outcome ℕ
sitting_of xs plates k codes distances =
    outcome (judge (sitting_rules xs (length plates) k (length codes) (length distances))) (sat xs plates k codes distances) codes distances

-- a slice in whose front the strains inside the radius were written
abbrev pub listed : List Found → (Found → ℕ) → List ℕ → List ℕ
listed fs part lent = map part fs ++ drop (length fs) lent

-- a search within a radius that is not refused
abbrev pub around : List ℕ → List ℤ → ℕ → (codes distances : List ℕ) → Outcome Tally
around xs plate radius codes distances = record {
  answer = given (record { strains = length (within_radius xs radius plate); measured = measured_count xs radius plate });
  codes = listed (within_radius xs radius plate) code_in codes;
  distances = listed (within_radius xs radius plate) distance_in distances;
}

unfoldable pub within_of : List ℕ → List ℤ → ℕ → (codes distances : List ℕ) → Outcome Tally
within_of xs plate radius codes distances =
    outcome (judge (within_rules xs (length plate) (length codes) (length distances))) (around xs plate radius codes distances) codes distances

-- the contracts: the answer and both slices are the outcome's
abbrev pub SittingGives : (image : List ℕ) → (plates : List ℤ) → (k : ℕ) → (codes distances : List ℕ) → Served → (codes' distances' : List ℕ) → Type 0
SittingGives image plates k codes distances r codes' distances' =
    handed (answer_of r) codes' distances' ≡ sitting_of image plates k codes distances

abbrev pub WithinGives : (image : List ℕ) → (plate : List ℤ) → (radius : ℕ) → (codes distances : List ℕ) → Gathered → (codes' distances' : List ℕ) → Type 0
WithinGives image plate radius codes distances r codes' distances' =
    handed (answer_of r) codes' distances' ≡ within_of image plate radius codes distances

-- and of the two over an accepted library, where the rules on the image are passed
abbrev pub SatGives : (image : List ℕ) → (plates : List ℤ) → (k : ℕ) → (codes distances : List ℕ) → Served → (codes' distances' : List ℕ) → Type 0
SatGives image plates k codes distances r codes' distances' =
    handed (answer_of r) codes' distances'
    ≡ outcome (judge (plate_rules image (length plates) k (length codes) (length distances))) (sat image plates k codes distances) codes distances

abbrev pub AroundGives : (image : List ℕ) → (plate : List ℤ) → (radius : ℕ) → (codes distances : List ℕ) → Gathered → (codes' distances' : List ℕ) → Type 0
AroundGives image plate radius codes distances r codes' distances' =
    handed (answer_of r) codes' distances'
    ≡ outcome (judge (radius_rules image (length plate) (length codes) (length distances))) (around image plate radius codes distances) codes distances
