-- A text written into a room. Assumes nothing.
use Rattle.std.specs.Prelude.{◌≡◌, List, ℕ, ◌+◌, length}
use Rattle.std.proofs.lemmas.List.Edits.{sets}

-- the room with the text at a place and nothing else changed, and the place behind the text
pub record Written (before : List ℕ) (at : ℕ) (text : List ℕ) (behind : ℕ) (after : List ℕ) : Type 0 where
  pub ends : behind ≡ at + length text
  pub stands : after ≡ sets before at text
