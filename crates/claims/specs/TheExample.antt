-- What document 01 says of its example library: how it is built, how it is listed and printed, and two of its cases byte for byte. Assumes nothing.
use Rattle.std.specs.Prelude.{◌≡◌, List, [], ◌∷◌, ◌++◌, ℕ, ◌≤◌, pos, length, drop}
use Rattle.image.specs.Verdict.{accepted}
use Rattle.image.specs.Answer.{given}
use Rattle.checker.specs.Check.{check_of}
use Rattle.text.specs.Listing.{ascii, listing}
use Rattle.text.specs.Calls.{list_of, printed}
use Rattle.short.specs.Short.{short_of}
use Rattle.claims.specs.Example.{example_with, example}
use Rattle.claims.specs.Growing.{one_well, grown_in_order}

-- the five lines
abbrev pub example_text : List ℕ
example_text =
    ascii "wells 1 metric 1 count 4 root 101\n"
    ++ ascii "101 101 4 0\n"
    ++ ascii "102 101 1 3\n"
    ++ ascii "103 101 3 10\n"
    ++ ascii "104 103 -1 11\n"

-- the answer to C3 by the short call: five times code and distance, four bytes each
abbrev pub c3_bytes : List ℕ
c3_bytes =
    103 ∷ 0 ∷ 0 ∷ 0 ∷ 3 ∷ 0 ∷ 0 ∷ 0
    ∷ 102 ∷ 0 ∷ 0 ∷ 0 ∷ 4 ∷ 0 ∷ 0 ∷ 0
    ∷ 104 ∷ 0 ∷ 0 ∷ 0 ∷ 4 ∷ 0 ∷ 0 ∷ 0
    ∷ 101 ∷ 0 ∷ 0 ∷ 0 ∷ 7 ∷ 0 ∷ 0 ∷ 0
    ∷ 0 ∷ 0 ∷ 0 ∷ 0 ∷ 0 ∷ 0 ∷ 0 ∷ 0 ∷ []

pub record TheExample : Type 0 where
  -- one well, metric 1: started and added in this order, it stands in front of the buffer, and the rest is as it was
  pub built : (buffer : List ℕ) → 56 ≤ length buffer
      → grown_in_order 1 1 (one_well 101 (pos 0)) (one_well 102 (pos 3) ∷ one_well 103 (pos 10) ∷ one_well 104 (pos 11) ∷ []) buffer
      ≡ record { answer = given 56; buffer = example ++ drop 56 buffer }
  pub is_accepted : check_of example ≡ accepted
  pub is_listing : listing example ≡ example_text
  pub is_listed : (room : List ℕ) → 147456 ≤ length room → list_of example room ≡ record { answer = given 85; buffer = example_text ++ drop 85 room }
  pub is_printed : printed example ≡ example_text
  -- C12's library, printed
  pub c12_printed : printed (example_with 1) ≡ ascii "refused 12\n"
  -- C3 by the short call: the plate 7 is the bytes 7 and 0
  pub c3_short : (out : List ℕ) → 40 ≤ length out → short_of example (7 ∷ 0 ∷ []) out ≡ record { answer = given 40; buffer = c3_bytes ++ drop 40 out }
