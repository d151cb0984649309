-- The answer word of the C interface: 64 bits that tell an answer whole. Bits 0..7 the refusal number, 0 where nothing was refused.
-- Refused: bits 8..15 the kind of place, 16..31 its record, of a pair the earlier one, 32..47 the later one. Not refused: bits 16..31 the
-- first value told, 32..47 the second; a long length takes both, its lower 16 bits as the first value. Assumes nothing.
use Rattle.std.specs.Prelude.{ℕ, ◌+◌, ◌*◌, ◌%◌}
use Rattle.image.specs.declared.refusal.Place.{Place}
use Rattle.image.specs.declared.refusal.Place.TheVariants.{None, Record, Pair}
use Rattle.image.specs.Verdict.{Verdict, accepted, refused}
use Rattle.image.specs.Answer.{Answer, given, denied}
use Rattle.search.specs.declared.Tally.{Tally}

-- a number of 16 bits from bit 16 on, and from bit 32 on
abbrev pub first : ℕ → ℕ
first n = 65536 * (n % 65536)

abbrev pub second : ℕ → ℕ
second n = 4294967296 * (n % 65536)

-- a number of 32 bits from bit 16 on
abbrev pub long : ℕ → ℕ
long n = 65536 * (n % 4294967296)

abbrev pub place_word : Place → ℕ
place_word None = 0
place_word (Record i) = 256 + first i
place_word (Pair earlier later) = 512 + first earlier + second later

abbrev pub refused_word : ℕ → Place → ℕ
refused_word number place = number + place_word place

-- the check's verdict, which tells no value
abbrev pub verdict_word : Verdict → ℕ
verdict_word accepted = 0
verdict_word (refused m p) = refused_word m p

-- an answer whose values are told by `told`
abbrev pub answer_word : {Told : Type 0} → (Told → ℕ) → Answer Told → ℕ
answer_word told (given x) = told x
answer_word told (denied m p) = refused_word m p

-- of a search within a radius: how many strains, and how many profiles were measured
abbrev pub counts : Tally → ℕ
counts c = first c.strains + second c.measured
