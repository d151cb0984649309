-- Demand 1: a bad library, plate or count is refused by the number in the table, for the first fault in the call's order, and a refused call changes
-- nothing that was lent to it. That each call takes any input, ends, and stays inside the memory lent to it is what it means that the code is
-- proved: no contract here has a `requires`. Assumes nothing.
use Rattle.std.specs.Prelude.{◌≡◌, ◌≢◌, List, ℕ, ◌<◌, ℤ, length}
use Rattle.profile.specs.Distance.{Wells}
use Rattle.image.specs.declared.refusal.Place.{Place}
use Rattle.image.specs.Verdict.{Verdict, accepted, refused}
use Rattle.image.specs.Faults.{Line, FirstFault, NoFault}
use Rattle.image.specs.Answer.{Answer, given, denied, answer_of, Answered, verdict_of}
use Rattle.checker.specs.Check.{Checked}
use Rattle.checker.specs.Check as check
use Rattle.checker.specs.Table.{table}
use Rattle.content.specs.Bytes.{Bytes}
use Rattle.build.specs.Calls.{start_of, add_of, file_of, StartGives, AddGives, FileGives}
use Rattle.build.specs.Table.{start_table, add_table, file_table}
use Rattle.search.specs.Answer.{Served, Gathered}
use Rattle.search.specs.Calls.{sitting_of, within_of, SittingGives, WithinGives}
use Rattle.search.specs.Table.{sitting_table, within_table}
use Rattle.text.specs.Calls as text
use Rattle.text.specs.Table.{list_table}
use Rattle.short.specs.Short.{ShortGives}
use Rattle.short.specs.Table.{short_table}
use Rattle.host.specs.Word.{first, long, counts, verdict_word}
use Rattle.host.specs.Doors.{Wrote, Searched}
use Rattle.host.specs.Reading.{answer_in, verdict_in, value_from, long_from, counts_from}

-- ---- what is demanded of one call

-- an answer by a table: `Refused m p` says that it refuses by number m at place p, `Given` that it does not refuse, `Unchanged` that all that was
-- lent to be written is as it was; what is lent to be read cannot change
pub record ByTable (lines : List Line) (Refused : ℕ → Place → Type 0) (Given Unchanged : Type 0) : Type 1 where
  -- refused by a number at a place exactly where that line of the table applies there and no line before it applies
  pub fault : (m : ℕ) (p : Place) → (Refused m p → FirstFault lines m p) × (FirstFault lines m p → Refused m p)
  -- not refused exactly where no line applies
  pub none : (Given → NoFault lines) × (NoFault lines → Given)
  -- refused, nothing is changed
  pub unchanged : (m : ℕ) (p : Place) → Refused m p → Unchanged

-- the check's verdict by its table; nothing is lent to be written
abbrev pub VerdictBy : List Line → Verdict → Type 1
VerdictBy lines v = ByTable lines (λ m p. v ≡ refused m p) (v ≡ accepted) (Unit {0})

-- another call's answer by its table
abbrev pub AnswerBy : {Told : Type 0} → List Line → Answer Told → (Unchanged : Type 0) → Type 1
AnswerBy {Told} lines a Unchanged = ByTable lines (λ m p. a ≡ denied m p) ((t : Told) × (a ≡ given t)) Unchanged

-- the short call returns a number and tells no place: 0, or the refusal's
pub record NumberBy (lines : List Line) (number : ℕ) (Unchanged : Type 0) : Type 1 where
  pub fault : number ≢ 0 → (p : Place) × FirstFault lines number p
  pub told : (m : ℕ) (p : Place) → FirstFault lines m p → number ≡ m
  pub none : (number ≡ 0 → NoFault lines) × (NoFault lines → number ≡ 0)
  pub unchanged : number ≢ 0 → Unchanged

-- ---- the demand, call by call: each line of it is about the contract that the call's code is proved to meet

pub record Calls1 : Type 1 where
  pub check : (image : List ℕ) (r : Checked) → check.CheckGives image r → VerdictBy (table image) (verdict_of r)
  pub start : (wells metric code : ℕ) (profile : List ℤ) (buffer : List ℕ) (r : Answered) (buffer' : List ℕ)
      → StartGives wells metric code profile buffer r buffer'
      → AnswerBy (start_table wells metric code profile (length buffer)) (answer_of r) (buffer' ≡ buffer)
  pub add : (buffer : List ℕ) (stated code : ℕ) (profile : List ℤ) (r : Answered) (buffer' : List ℕ)
      → AddGives buffer stated code profile r buffer'
      → AnswerBy (add_table buffer stated code profile) (answer_of r) (buffer' ≡ buffer)
  pub file : (image buffer : List ℕ) (r : Answered) (buffer' : List ℕ)
      → FileGives image buffer r buffer'
      → AnswerBy (file_table image (length buffer)) (answer_of r) (buffer' ≡ buffer)
  pub sitting : (image : List ℕ) (plates : List ℤ) (k : ℕ) (codes distances : List ℕ) (r : Served) (codes' distances' : List ℕ)
      → SittingGives image plates k codes distances r codes' distances'
      → AnswerBy (sitting_table image (length plates) k (length codes) (length distances)) (answer_of r) ((codes' ≡ codes) × (distances' ≡ distances))
  pub within : (image : List ℕ) (plate : List ℤ) (radius : ℕ) (codes distances : List ℕ) (r : Gathered) (codes' distances' : List ℕ)
      → WithinGives image plate radius codes distances r codes' distances'
      → AnswerBy (within_table image (length plate) (length codes) (length distances)) (answer_of r) ((codes' ≡ codes) × (distances' ≡ distances))
  pub short : (image plate out : List ℕ) (number : ℕ) (out' : List ℕ)
      → ShortGives image plate out number out'
      → NumberBy (short_table image (length plate) (length out)) number (out' ≡ out)
  pub list : (image room : List ℕ) (r : Answered) (room' : List ℕ)
      → text.ListGives image room r room'
      → AnswerBy (list_table image (length room)) (answer_of r) (room' ≡ room)

-- and door by door: what a program in C reads from the answer word. `Bytes`, `Wells` and the bound on a code are what the types of the arguments say
pub record Doors1 : Type 1 where
  pub kw_check : (image : List ℕ) (word : ℕ) → Bytes image → word ≡ verdict_word (check.check_of image) → VerdictBy (table image) (verdict_in word)
  pub kw_start : (wells metric code : ℕ) (profile : List ℤ) (buffer : List ℕ) (word : ℕ) (buffer' : List ℕ)
      → Wrote first (start_of wells metric code profile buffer) word buffer'
      → AnswerBy (start_table wells metric code profile (length buffer)) (answer_in value_from word) (buffer' ≡ buffer)
  pub kw_add : (buffer : List ℕ) (stated code : ℕ) (profile : List ℤ) (word : ℕ) (buffer' : List ℕ) → Bytes buffer → code < 4294967296 → Wells profile
      → Wrote first (add_of buffer stated code profile) word buffer'
      → AnswerBy (add_table buffer stated code profile) (answer_in value_from word) (buffer' ≡ buffer)
  pub kw_file : (image buffer : List ℕ) (word : ℕ) (buffer' : List ℕ) → Bytes image
      → Wrote first (file_of image buffer) word buffer'
      → AnswerBy (file_table image (length buffer)) (answer_in value_from word) (buffer' ≡ buffer)
  pub kw_list : (image buffer : List ℕ) (word : ℕ) (buffer' : List ℕ) → Bytes image
      → Wrote long (text.list_of image buffer) word buffer'
      → AnswerBy (list_table image (length buffer)) (answer_in long_from word) (buffer' ≡ buffer)
  pub kw_sitting : (image : List ℕ) (plates : List ℤ) (k : ℕ) (codes distances : List ℕ) (word : ℕ) (codes' distances' : List ℕ) → Bytes image
      → Searched first (sitting_of image plates k codes distances) word codes' distances'
      → AnswerBy (sitting_table image (length plates) k (length codes) (length distances)) (answer_in value_from word) ((codes' ≡ codes) × (distances' ≡ distances))
  pub kw_within : (image : List ℕ) (plate : List ℤ) (radius : ℕ) (codes distances : List ℕ) (word : ℕ) (codes' distances' : List ℕ) → Bytes image
      → Searched counts (within_of image plate radius codes distances) word codes' distances'
      → AnswerBy (within_table image (length plate) (length codes) (length distances)) (answer_in counts_from word) ((codes' ≡ codes) × (distances' ≡ distances))

pub record Demand1 : Type 1 where
  pub calls : Calls1
  pub doors : Doors1
