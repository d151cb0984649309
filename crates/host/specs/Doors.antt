-- What a door hands back: the answer word and the whole of what was lent, by the outcome of the call behind it. Assumes nothing.
use Rattle.std.specs.Prelude.{◌≡◌, List, ℕ}
use Rattle.image.specs.Answer.{Outcome}
use Rattle.search.specs.Answer as search
use Rattle.host.specs.Word.{answer_word}

-- of a call that writes to the front of one buffer, and whose length is told by `told`
pub record Wrote (told : ℕ → ℕ) (o : Outcome) (word : ℕ) (buffer : List ℕ) : Type 0 where
  pub is_word : word ≡ answer_word told o.answer
  pub is_buffer : buffer ≡ o.buffer

-- of a search, whose values are told by `told`
pub record Searched {Told : Type 0} (told : Told → ℕ) (o : search.Outcome Told) (word : ℕ) (codes distances : List ℕ) : Type 0 where
  pub is_word : word ≡ answer_word told o.answer
  pub is_codes : codes ≡ o.codes
  pub is_distances : distances ≡ o.distances
