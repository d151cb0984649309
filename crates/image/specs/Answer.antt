-- What a call hands back. Assumes nothing.
use Rattle.std.specs.Prelude.{Result, Ok, Err, List, ◌++◌, ℕ, length, drop}
use Rattle.image.specs.declared.refusal.Place.{Place}
use Rattle.image.specs.declared.refusal.Refusal.{Refusal}
use Rattle.image.specs.Refusals.{number_of, place_of}
use Rattle.image.specs.Verdict.{Verdict, accepted, refused}

-- what is told, or a refusal by its number and place
pub data Answer (Told : Type 0) : Type 0 where
  given : Told → Answer Told
  denied : ℕ → Place → Answer Told

-- of a call that writes to the front of one lent slice: how much it wrote, and the whole slice
pub record Outcome : Type 0 where
  pub answer : Answer ℕ
  pub buffer : List ℕ

-- not refused, what is new stands in front and the rest is as it was; refused, all is as it was
unfoldable pub outcome : Verdict → (new buffer : List ℕ) → Outcome
outcome accepted new buffer = record { answer = given (length new); buffer = new ++ drop (length new) buffer }
outcome (refused m p) new buffer = record { answer = denied m p; buffer = buffer }

-- the answer of a call that writes to the front of one slice: how much it wrote, or why it refused
abbrev pub Answered : Type 0
Answered = Result ℕ Refusal

-- what document 01 says of the answer of a call
abbrev pub answer_of : {Told : Type 0} → Result Told Refusal → Answer Told
answer_of (Ok told) = given told
answer_of (Err r) = denied (number_of r) (place_of r)

-- the answer, and the slice
abbrev pub handed : Answered → List ℕ → Outcome
handed r buffer = record { answer = answer_of r; buffer = buffer }

-- the verdict that an answer tells, whatever else it tells
abbrev pub verdict_of : {Told : Type 0} → Result Told Refusal → Verdict
verdict_of (Ok told) = accepted
verdict_of (Err r) = refused (number_of r) (place_of r)
