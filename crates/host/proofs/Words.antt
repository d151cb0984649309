-- The answer word loses nothing: taken apart, it gives the answer back, so words differ where answers differ. Assumes nothing.
use mathlib.Core.Path.{◌≡◌, refl, sym, ◌∙◌, ap, ap₂}
use Prim.Native.Nat.{ℕ, zero, suc, ◌+◌, ◌*◌, ◌/◌, ◌%◌, ◌≤◌, ◌<◌}
use native.Mathlib.Omega.{arith}
use Rattle.image.specs.declared.refusal.Place.{Place}
use Rattle.image.specs.declared.refusal.Place.TheVariants.{None, Record, Pair}
use Rattle.image.specs.Verdict.{Verdict, accepted, refused}
use Rattle.image.specs.Answer.{Answer, given, denied}
use Rattle.search.specs.declared.Tally.{Tally}
use Rattle.host.specs.Word.{first, long, counts, refused_word, verdict_word, answer_word}
use Rattle.host.specs.Reading.{number_part, kind_part, first_part, second_part, place_from, answer_from, verdict_from, answer_in, verdict_in, value_from, long_from, counts_from}

-- ---- parts that fit

-- the records of a place have 16 bits each
pub data PlaceFits : Place → Type 0 where
  none_fits : PlaceFits None
  record_fits : {i : ℕ} → i < 65536 → PlaceFits (Record i)
  pair_fits : {earlier later : ℕ} → earlier < 65536 → later < 65536 → PlaceFits (Pair earlier later)

-- a refusal number is a byte, and not 0
pub record RefusalFits (number : ℕ) (place : Place) : Type 0 where
  pub some : 1 ≤ number
  pub low : number < 256
  pub at : PlaceFits place

pub data VerdictFits : Verdict → Type 0 where
  accepted_fits : VerdictFits accepted
  refused_fits : {m : ℕ} {p : Place} → RefusalFits m p → VerdictFits (refused m p)

pub data AnswerFits {Told : Type 0} (Small : Told → Type 0) : Answer Told → Type 0 where
  given_fits : {x : Told} → Small x → AnswerFits Small (given x)
  denied_fits : {m : ℕ} {p : Place} → RefusalFits m p → AnswerFits Small (denied m p)

-- a value told has 16 bits
abbrev pub In16 : ℕ → Type 0
In16 n = n < 65536

-- a long length has 32
abbrev pub In32 : ℕ → Type 0
In32 n = n < 4294967296

-- both counts have 16 each
abbrev pub BothIn16 : Tally → Type 0
BothIn16 c = (c.strains < 65536) × (c.measured < 65536)

-- ---- a word of four parts, taken apart

record Parts (w number kind one two : ℕ) : Type 0 where
  is_number : number_part w ≡ number
  is_kind : kind_part w ≡ kind
  is_first : first_part w ≡ one
  is_second : second_part w ≡ two

parts : (w number kind one two : ℕ) → w ≡ number + 256 * kind + 65536 * one + 4294967296 * two → number < 256 → kind < 256 → one < 65536 → two < 65536
    → Parts w number kind one two
parts w number kind one two e m k a b = record { is_number = omega arith; is_kind = omega arith; is_first = omega arith; is_second = omega arith }

-- ---- a refusal

number_read : (m : ℕ) {p : Place} → m < 256 → PlaceFits p → number_part (refused_word m p) ≡ m
number_read m low none_fits = omega arith
number_read m low (record_fits h) = omega arith
number_read m low (pair_fits h k) = omega arith

place_read : (m : ℕ) {p : Place} → m < 256 → PlaceFits p
    → place_from (kind_part (refused_word m p)) (first_part (refused_word m p)) (second_part (refused_word m p)) ≡ p
unfolding place_from
place_read m low none_fits = let q = parts (refused_word m None) m 0 0 0 (omega arith) low (omega arith) (omega arith) (omega arith) in rw q.is_kind refl
place_read m low (record_fits {i = i} h) =
    let q = parts (refused_word m (Record i)) m 1 i 0 (omega arith) low (omega arith) h (omega arith) in
    rw q.is_kind (ap Record q.is_first)
place_read m low (pair_fits {earlier = i} {later = j} h k) =
    let q = parts (refused_word m (Pair i j)) m 2 i j (omega arith) low (omega arith) h k in
    rw q.is_kind (ap₂ Pair q.is_first q.is_second)

from_denied : {Told : Type 0} (told : ℕ → ℕ → Told) (number kind one two : ℕ) → 1 ≤ number
    → answer_from told number kind one two ≡ denied number (place_from kind one two)
unfolding answer_from
from_denied told zero kind one two h = absurd (omega arith)
from_denied told (suc number) kind one two h = refl

from_refused : (number kind one two : ℕ) → 1 ≤ number → verdict_from number kind one two ≡ refused number (place_from kind one two)
unfolding verdict_from
from_refused zero kind one two h = absurd (omega arith)
from_refused (suc number) kind one two h = refl

module _ {m : ℕ} {p : Place} (f : RefusalFits m p) where
  number_some : 1 ≤ number_part (refused_word m p)
  number_some = omega (arith, number_read m f.low f.at, f.some)

  denied_read : {Told : Type 0} (told : ℕ → ℕ → Told) → answer_in told (refused_word m p) ≡ denied m p
  unfolding answer_in
  denied_read told = from_denied told _ _ _ _ number_some ∙ ap₂ denied (number_read m f.low f.at) (place_read m f.low f.at)

  refused_read : verdict_in (refused_word m p) ≡ refused m p
  unfolding verdict_in
  refused_read = from_refused _ _ _ _ number_some ∙ ap₂ refused (number_read m f.low f.at) (place_read m f.low f.at)

-- ---- an answer

-- `told` reads what `word` wrote
pub record Reads {Told : Type 0} (Small : Told → Type 0) (word : Told → ℕ) (told : ℕ → ℕ → Told) : Type 0 where
  pub reads : (x : Told) → Small x → answer_in told (word x) ≡ given x

pub reads_value : Reads In16 first value_from
unfolding answer_in answer_from
reads_value = record {
  reads = λ n h. let q = parts (first n) 0 0 n 0 (omega arith) (omega arith) (omega arith) h (omega arith) in rw q.is_number (ap given q.is_first);
}

-- a number from its lower 16 bits and what is above them
halves : (n : ℕ) → long_from (n % 65536) (n / 65536) ≡ n
halves n = omega arith

pub reads_long : Reads In32 long long_from
unfolding answer_in answer_from
reads_long = record {
  reads = λ n h.
      let q = parts (long n) 0 0 (n % 65536) (n / 65536) (omega arith) (omega arith) (omega arith) (omega arith) (omega arith) in
      rw q.is_number (ap given (ap₂ long_from q.is_first q.is_second ∙ halves n));
}

pub reads_counts : Reads BothIn16 counts counts_from
unfolding answer_in answer_from
reads_counts = record {
  reads = λ c h.
      let q = parts (counts c) 0 0 c.strains c.measured (omega arith) (omega arith) (omega arith) h.0 h.1 in
      rw q.is_number (ap₂ (λ a b. given (record { strains = a; measured = b })) q.is_first q.is_second);
}

module _ {Told : Type 0} {Small : Told → Type 0} {word : Told → ℕ} {told : ℕ → ℕ → Told} (r : Reads Small word told) where
  -- a word read is the answer
  pub word_read : {a : Answer Told} → AnswerFits Small a → answer_in told (answer_word word a) ≡ a
  word_read (given_fits {x = x} h) = r.reads x h
  word_read (denied_fits f) = denied_read f told

  -- so words differ where answers differ
  pub words_differ : {a b : Answer Told} → AnswerFits Small a → AnswerFits Small b → answer_word word a ≡ answer_word word b → a ≡ b
  words_differ f g e = sym (word_read f) ∙ ap (answer_in told) e ∙ word_read g

-- ---- a verdict

pub verdict_read : {v : Verdict} → VerdictFits v → verdict_in (verdict_word v) ≡ v
unfolding verdict_in verdict_from
verdict_read accepted_fits = refl
verdict_read (refused_fits f) = refused_read f

pub verdicts_differ : {v u : Verdict} → VerdictFits v → VerdictFits u → verdict_word v ≡ verdict_word u → v ≡ u
verdicts_differ f g e = sym (verdict_read f) ∙ ap verdict_in e ∙ verdict_read g
