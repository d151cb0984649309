-- A library listed, and what the listing program prints: the answer and the whole of the lent room, on every input. Assumes nothing.
use Rattle.std.specs.Prelude.{◌≡◌, List, [], ◌∷◌, ◌++◌, ℕ, ltb, length, drop}
use Rattle.image.specs.Verdict.{Verdict, accepted, refused, Rule, rule, when, judge}
use Rattle.image.specs.Answer.{Outcome, outcome, handed, Answered}
use Rattle.checker.specs.Check.{check_rules, check_of}
use Rattle.text.specs.Listing.{listing, refused_line}

-- 1 to 13 on the image, then 16: the room is shorter than 147,456 bytes, which is enough for every listing (`listing_fits`). Document 01 has no
-- such call; document 02 names the number
unfoldable pub list_rules : List ℕ → (room : ℕ) → List Rule
list_rules xs room = check_rules xs ++ rule 16 (when (ltb room 147456)) ∷ []

unfoldable pub list_of : List ℕ → List ℕ → Outcome
list_of xs room = outcome (judge (list_rules xs (length room))) (listing xs) room

-- what is printed of a library by the check's verdict: its listing, or the refusal's number
unfoldable pub printed_by : Verdict → List ℕ → List ℕ
printed_by accepted xs = listing xs
printed_by (refused number place) xs = refused_line number

unfoldable pub printed : List ℕ → List ℕ
printed xs = printed_by (check_of xs) xs

-- the contracts: of list the answer and the room are the outcome's; of print the page holds what is printed, and the rest of it is as it was
abbrev pub ListGives : (image room : List ℕ) → Answered → (room' : List ℕ) → Type 0
ListGives image room r room' = handed r room' ≡ list_of image room

abbrev pub PrintGives : (image page : List ℕ) → (r : ℕ) → (page' : List ℕ) → Type 0
PrintGives image page r page' = (r ≡ length (printed image)) × (page' ≡ printed image ++ drop r page)
