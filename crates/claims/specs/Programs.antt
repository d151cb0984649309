-- Any program for a public call: what it can be asked, as far as the call's types allow, what it hands back, and when it meets the call's contract.
-- Assumes nothing.
use Rattle.std.specs.Prelude.{◌≡◌, List, ℕ, ◌<◌, ℤ, length, get_or}
use Rattle.profile.specs.Distance.{Wells}
use Rattle.image.specs.Answer as image
use Rattle.image.specs.Answer.{given, Answered}
use Rattle.checker.specs.Check.{Checked, CheckGives}
use Rattle.content.specs.Bytes.{Bytes}
use Rattle.search.specs.Answer.{Outcome, Served, Gathered}
use Rattle.search.specs.declared.Tally.{Tally}
use Rattle.search.specs.Calls.{sitting_of, SittingGives, within_of, WithinGives}
use Rattle.build.specs.Calls.{AddGives, FileGives}
use Rattle.short.specs.Short.{short_of, refusal_number, ShortGives}

-- a number of 32 bits, and one of 64
abbrev pub In32 : ℕ → Type 0
In32 n = n < 4294967296

abbrev pub In64 : ℕ → Type 0
In64 n = n < 18446744073709551616

-- numbers of 32 bits
pub record Words (xs : List ℕ) : Type 0 where
  pub low : (j : ℕ) → In32 (get_or xs j 0)

-- a slice of such elements: its length is a number of 64 bits
pub record Slice {A : Type 0} (Elements : List A → Type 0) (xs : List A) : Type 0 where
  pub elements : Elements xs
  pub is_length : In64 (length xs)

-- ---- the check

pub record CheckAsked : Type 0 where
  pub image : List ℕ
  pub is_image : Slice Bytes image

abbrev pub CheckProgram : Type 0
CheckProgram = CheckAsked → Checked

abbrev pub MeetsCheck : CheckProgram → Type 0
MeetsCheck program = (a : CheckAsked) → CheckGives a.image (program a)

-- ---- the searches. A program serves, if it meets the contract on every call that is not refused, whatever it does on the others

-- what a search hands back: its answer, and both lent slices as it leaves them
pub record SearchBack (Told : Type 0) : Type 0 where
  pub answer : Told
  pub codes : List ℕ
  pub distances : List ℕ

pub record SittingAsked : Type 0 where
  pub image : List ℕ
  pub plates : List ℤ
  pub k : ℕ
  pub codes : List ℕ
  pub distances : List ℕ
  pub is_image : Slice Bytes image
  pub are_plates : Slice Wells plates
  pub is_k : In32 k
  pub are_codes : Slice Words codes
  pub are_distances : Slice Words distances

abbrev pub SittingProgram : Type 0
SittingProgram = SittingAsked → SearchBack Served

-- what document 01 has it hand back
abbrev pub sitting_for : SittingAsked → Outcome ℕ
sitting_for a = sitting_of a.image a.plates a.k a.codes a.distances

abbrev pub MeetsSittingAt : SittingAsked → SearchBack Served → Type 0
MeetsSittingAt a back = SittingGives a.image a.plates a.k a.codes a.distances back.answer back.codes back.distances

abbrev pub MeetsSitting : SittingProgram → Type 0
MeetsSitting program = (a : SittingAsked) → MeetsSittingAt a (program a)

abbrev pub ServesSitting : SittingProgram → Type 0
ServesSitting program = (a : SittingAsked) (filled : ℕ) → (sitting_for a).answer ≡ given filled → MeetsSittingAt a (program a)

pub record WithinAsked : Type 0 where
  pub image : List ℕ
  pub plate : List ℤ
  pub radius : ℕ
  pub codes : List ℕ
  pub distances : List ℕ
  pub is_image : Slice Bytes image
  pub is_plate : Slice Wells plate
  pub is_radius : In32 radius
  pub are_codes : Slice Words codes
  pub are_distances : Slice Words distances

abbrev pub WithinProgram : Type 0
WithinProgram = WithinAsked → SearchBack Gathered

abbrev pub within_for : WithinAsked → Outcome Tally
within_for a = within_of a.image a.plate a.radius a.codes a.distances

abbrev pub MeetsWithinAt : WithinAsked → SearchBack Gathered → Type 0
MeetsWithinAt a back = WithinGives a.image a.plate a.radius a.codes a.distances back.answer back.codes back.distances

abbrev pub MeetsWithin : WithinProgram → Type 0
MeetsWithin program = (a : WithinAsked) → MeetsWithinAt a (program a)

abbrev pub ServesWithin : WithinProgram → Type 0
ServesWithin program = (a : WithinAsked) (counts : Tally) → (within_for a).answer ≡ given counts → MeetsWithinAt a (program a)

-- ---- the short call

-- what it hands back: 0 or the refusal number, and the lent bytes as it leaves them
pub record ShortBack : Type 0 where
  pub number : ℕ
  pub out : List ℕ

pub record ShortAsked : Type 0 where
  pub image : List ℕ
  pub plate : List ℕ
  pub out : List ℕ
  pub is_image : Slice Bytes image
  pub is_plate : Slice Bytes plate
  pub is_out : Slice Bytes out

abbrev pub ShortProgram : Type 0
ShortProgram = ShortAsked → ShortBack

abbrev pub short_for : ShortAsked → image.Outcome
short_for a = short_of a.image a.plate a.out

abbrev pub MeetsShortAt : ShortAsked → ShortBack → Type 0
MeetsShortAt a back = ShortGives a.image a.plate a.out back.number back.out

abbrev pub MeetsShort : ShortProgram → Type 0
MeetsShort program = (a : ShortAsked) → MeetsShortAt a (program a)

abbrev pub ServesShort : ShortProgram → Type 0
ServesShort program = (a : ShortAsked) → refusal_number (short_for a).answer ≡ 0 → MeetsShortAt a (program a)

-- ---- adding and filing

-- what a call that builds a library hands back: its answer, and the buffer as it leaves it
pub record BuildBack : Type 0 where
  pub answer : Answered
  pub buffer : List ℕ

pub record AddAsked : Type 0 where
  pub buffer : List ℕ
  pub stated : ℕ
  pub code : ℕ
  pub profile : List ℤ
  pub is_buffer : Slice Bytes buffer
  pub is_stated : In64 stated
  pub is_code : In32 code
  pub is_profile : Slice Wells profile

abbrev pub AddProgram : Type 0
AddProgram = AddAsked → BuildBack

abbrev pub MeetsAdd : AddProgram → Type 0
MeetsAdd program = (a : AddAsked) → AddGives a.buffer a.stated a.code a.profile (program a).answer (program a).buffer

pub record FileAsked : Type 0 where
  pub image : List ℕ
  pub buffer : List ℕ
  pub is_image : Slice Bytes image
  pub is_buffer : Slice Bytes buffer

abbrev pub FilingProgram : Type 0
FilingProgram = FileAsked → BuildBack

abbrev pub MeetsFile : FilingProgram → Type 0
MeetsFile program = (a : FileAsked) → FileGives a.image a.buffer (program a).answer (program a).buffer
