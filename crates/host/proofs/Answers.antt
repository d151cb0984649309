-- What a door hands back, from what the call behind it handed back, and that its contract leaves nothing open. Assumes nothing.
use mathlib.Core.Path.{◌≡◌, refl, sym, ◌∙◌, ap}
use mathlib.Core.List.{List}
use Prim.Native.Nat.{ℕ}
use Rattle.image.specs.Answer.{Answer, Outcome, answer_of, verdict_of, handed, Answered}
use Rattle.checker.specs.Check.{Checked, check_of}
use Rattle.search.specs.Answer as search
use Rattle.std.specs.Prelude.{Result, Ok, Err, IfOk, IfErr, IsOkAnd, MatchResult}
use Rattle.image.specs.declared.refusal.Refusal.{Refusal}
use Rattle.image.specs.Refusals.{number_of, place_of}
use Rattle.host.specs.Word.{verdict_word, refused_word, answer_word}
use Rattle.host.specs.Doors.{Wrote, Searched}

-- the word of an answer: of what is told as `Post` says, or of a refusal
module _ {Told : Type 0} (told : Told → ℕ) {Post : Told → ℕ → Type 0} (says : (x : Told) (y : ℕ) → Post x y → y ≡ told x) where
  pub worded : (r : Result Told Refusal) (mapped : Result ℕ Refusal) {word : ℕ} → MatchResult r (λ x. IsOkAnd mapped (Post x)) (λ e. mapped ≡ Err e)
      → IfOk mapped (λ y. word ≡ y) → IfErr mapped (λ refusal. word ≡ refused_word (number_of refusal) (place_of refusal)) → word ≡ answer_word told (answer_of r)
  worded (Ok x) (Ok y) p g d = g ∙ says x y p
  worded (Ok x) (Err refusal) p g d = absurd p
  worded (Err refusal) mapped p g d = rw p at d

-- the check tells nothing but its verdict
pub verdict_told : (r : Checked) → answer_word (λ t. 0) (answer_of r) ≡ verdict_word (verdict_of r)
verdict_told (Ok t) = refl
verdict_told (Err refusal) = refl

pub wrote : (told : ℕ → ℕ) (r : Answered) (buffer : List ℕ) (o : Outcome) {word : ℕ} → handed r buffer ≡ o → word ≡ answer_word told (answer_of r)
    → Wrote told o word buffer
wrote told r buffer o h e = record { is_word = e ∙ ap (λ p. answer_word told p.answer) h; is_buffer = ap (λ p. p.buffer) h }

pub searched : {Told : Type 0} (told : Told → ℕ) (answer : Answer Told) (codes distances : List ℕ) (o : search.Outcome Told) {word : ℕ}
    → search.handed answer codes distances ≡ o → word ≡ answer_word told answer → Searched told o word codes distances
searched told answer codes distances o h e = record {
  is_word = e ∙ ap (λ p. answer_word told p.answer) h;
  is_codes = ap (λ p. p.codes) h;
  is_distances = ap (λ p. p.distances) h;
}

-- ---- the doors' contracts leave one word and one content of what was lent

-- of the check
pub one_word : (xs : List ℕ) {word word' : ℕ} → word ≡ verdict_word (check_of xs) → word' ≡ verdict_word (check_of xs) → word ≡ word'
one_word xs p q = p ∙ sym q

-- of the calls that write to a buffer
pub one_wrote : {told : ℕ → ℕ} {o : Outcome} {word word' : ℕ} {buffer buffer' : List ℕ} → Wrote told o word buffer → Wrote told o word' buffer'
    → (word ≡ word') × (buffer ≡ buffer')
one_wrote p q = (p.is_word ∙ sym q.is_word, p.is_buffer ∙ sym q.is_buffer)

-- of the searches
pub one_searched : {Told : Type 0} {told : Told → ℕ} {o : search.Outcome Told} {word word' : ℕ} {codes codes' distances distances' : List ℕ}
    → Searched told o word codes distances → Searched told o word' codes' distances' → (word ≡ word') × (codes ≡ codes') × (distances ≡ distances')
one_searched p q = (p.is_word ∙ sym q.is_word, p.is_codes ∙ sym q.is_codes, p.is_distances ∙ sym q.is_distances)
