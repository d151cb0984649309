-- What a search hands back. Assumes nothing.
use Rattle.std.specs.Prelude.{◌≡◌, Result, Ok, List, ℕ}
use Rattle.image.specs.declared.refusal.Refusal.{Refusal}
use Rattle.image.specs.Verdict.{Verdict, accepted, refused}
use Rattle.image.specs.Answer.{Answer, given, denied}
use Rattle.search.specs.declared.Tally.{Tally}

-- the answer, and the whole of both lent slices
pub record Outcome (Told : Type 0) : Type 0 where
  pub answer : Answer Told
  pub codes : List ℕ
  pub distances : List ℕ

-- refused, all is as it was
unfoldable pub outcome : {Told : Type 0} → Verdict → (good : Outcome Told) → (codes distances : List ℕ) → Outcome Told
outcome accepted good codes distances = good
outcome (refused m p) good codes distances = record { answer = denied m p; codes = codes; distances = distances }

-- the answers: how many of each plate's places hold a strain; how many strains lie inside the radius, and how many profiles were measured
abbrev pub Served : Type 0
Served = Result ℕ Refusal

abbrev pub Gathered : Type 0
Gathered = Result Tally Refusal

abbrev pub counted : (strains measured : ℕ) → Gathered
counted n m = Ok (record { strains = n; measured = m })

-- an answer, and both slices
abbrev pub handed : {Told : Type 0} → Answer Told → (codes distances : List ℕ) → Outcome Told
handed answer codes distances = record { answer = answer; codes = codes; distances = distances }

-- how many strains an answer tells of, or the refusal
abbrev pub strains_in : Answer Tally → Answer ℕ
strains_in (given t) = given t.strains
strains_in (denied m p) = denied m p

-- two searches within a radius differ at most in how many profiles were measured
pub record Alike (o p : Outcome Tally) : Type 0 where
  pub answer : strains_in o.answer ≡ strains_in p.answer
  pub codes : o.codes ≡ p.codes
  pub distances : o.distances ≡ p.distances
