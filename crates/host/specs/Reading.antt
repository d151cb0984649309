-- How a program in C takes an answer word apart. Assumes nothing.
use Rattle.std.specs.Prelude.{ℕ, zero, suc, ◌+◌, ◌*◌, ◌/◌, ◌%◌}
use Rattle.image.specs.declared.refusal.Place.{Place}
use Rattle.image.specs.declared.refusal.Place.TheVariants.{None, Record, Pair}
use Rattle.image.specs.Verdict.{Verdict, accepted, refused}
use Rattle.image.specs.Answer.{Answer, given, denied}
use Rattle.search.specs.declared.Tally.{Tally}

-- bits 0..7, 8..15, 16..31, 32..47
abbrev pub number_part : ℕ → ℕ
number_part w = w % 256

abbrev pub kind_part : ℕ → ℕ
kind_part w = w / 256 % 256

abbrev pub first_part : ℕ → ℕ
first_part w = w / 65536 % 65536

abbrev pub second_part : ℕ → ℕ
second_part w = w / 4294967296 % 65536

-- a place by its kind: 0 none, 1 a record, 2 a pair, the earlier record first; no word has another kind
unfoldable pub place_from : (kind first second : ℕ) → Place
place_from zero first second = None
place_from (suc zero) first second = Record first
place_from (suc (suc kind)) first second = Pair first second

-- number 0: nothing was refused, and the values are told
unfoldable pub answer_from : {Told : Type 0} → (ℕ → ℕ → Told) → (number kind first second : ℕ) → Answer Told
answer_from told zero kind first second = given (told first second)
answer_from told (suc number) kind first second = denied (suc number) (place_from kind first second)

unfoldable pub verdict_from : (number kind first second : ℕ) → Verdict
verdict_from zero kind first second = accepted
verdict_from (suc number) kind first second = refused (suc number) (place_from kind first second)

-- a word read: of a call that tells by `told`, and of the check
unfoldable pub answer_in : {Told : Type 0} → (ℕ → ℕ → Told) → ℕ → Answer Told
answer_in told w = answer_from told (number_part w) (kind_part w) (first_part w) (second_part w)

unfoldable pub verdict_in : ℕ → Verdict
verdict_in w = verdict_from (number_part w) (kind_part w) (first_part w) (second_part w)

-- what is told: a length or a count of places, from the first value; a long length, from both; both counts of a search within a radius
abbrev pub value_from : ℕ → ℕ → ℕ
value_from first second = first

abbrev pub long_from : ℕ → ℕ → ℕ
long_from first second = first + 65536 * second

abbrev pub counts_from : ℕ → ℕ → Tally
counts_from first second = record { strains = first; measured = second }
