-- The short call: the five nearest strains of one plate that comes in bytes, and the whole of what was lent, on every input. Assumes nothing.
use Rattle.std.specs.Prelude.{◌≡◌, not, List, [], ◌∷◌, ◌++◌, ℕ, ◌*◌, ltb, eqb, length}
use Rattle.profile.specs.Bytes.{wells_at}
use Rattle.ranking.specs.Found.{Found}
use Rattle.image.specs.Fields.{wells_of}
use Rattle.image.specs.Verdict.{Rule, rule, when, judge}
use Rattle.image.specs.Answer.{Answer, given, denied, Outcome, outcome}
use Rattle.checker.specs.Check.{check_rules}
use Rattle.content.specs.Bytes.{bytes32}
use Rattle.search.specs.Ranked.{nearest, places}
use Rattle.search.specs.Calls.{code_in, distance_in}

-- once the image is accepted: 14 not 2w bytes, 16 fewer than 40
unfoldable pub plate_rules : List ℕ → (plate out : ℕ) → List Rule
plate_rules xs plate out = rule 14 (when (not (eqb plate (2 * wells_of xs)))) ∷ rule 16 (when (ltb out 40)) ∷ []

-- the sitting's order: 1 to 13, then those
unfoldable pub short_rules : List ℕ → (plate out : ℕ) → List Rule
short_rules xs plate out = check_rules xs ++ plate_rules xs plate out

-- codes and distances by turns, 4 bytes each
unfoldable pub by_turns : (codes distances : List ℕ) → List ℕ
by_turns [] distances = []
by_turns (c ∷ codes) [] = []
by_turns (c ∷ codes) (d ∷ distances) = bytes32 c ++ bytes32 d ++ by_turns codes distances

-- what is written of the strains found: five times code and distance, 0 and 0 where there are fewer strains
abbrev pub five_of : List Found → List ℕ
five_of fs = by_turns (places 5 code_in fs) (places 5 distance_in fs)

-- over an accepted library, and on any bytes
unfoldable pub served_of : (image plate out : List ℕ) → Outcome
served_of xs plate out = outcome (judge (plate_rules xs (length plate) (length out))) (five_of (nearest xs 5 (wells_at plate 0 (wells_of xs)))) out

unfoldable pub short_of : (image plate out : List ℕ) → Outcome
short_of xs plate out = outcome (judge (short_rules xs (length plate) (length out))) (five_of (nearest xs 5 (wells_at plate 0 (wells_of xs)))) out

-- what is returned: the refusal number, or 0
abbrev pub refusal_number : Answer ℕ → ℕ
refusal_number (given n) = 0
refusal_number (denied number place) = number

-- what is handed back: the number, and the whole of what was lent to be written
pub record Numbered (o : Outcome) (number : ℕ) (out : List ℕ) : Type 0 where
  pub is_number : number ≡ refusal_number o.answer
  pub is_out : out ≡ o.buffer

-- the contract
abbrev pub ShortGives : (image plate out : List ℕ) → (number : ℕ) → (out' : List ℕ) → Type 0
ShortGives image plate out number out' = Numbered (short_of image plate out) number out'
