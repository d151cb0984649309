-- Start, add and filing: the answer and the whole buffer, on every input. Assumes nothing.
use Rattle.std.specs.Prelude.{◌≡◌, List, ℕ, ℤ, length}
use Rattle.image.specs.Strains.{strain_of}
use Rattle.image.specs.Verdict.{judge}
use Rattle.image.specs.Answer.{Outcome, outcome, handed, Answered}
use Rattle.content.specs.Bytes.{bytes_of}
use Rattle.content.specs.Adding.{started}
use Rattle.content.specs.Filing.{filing_form}
use Rattle.adding.specs.ImageWith.{image_with}
use Rattle.build.specs.Rules.{start_rules, add_rules, file_rules}

unfoldable pub start_of : (wells metric code : ℕ) → List ℤ → List ℕ → Outcome
start_of wells metric code profile buffer =
    outcome (judge (start_rules wells metric code profile (length buffer))) (bytes_of (started wells metric (strain_of code profile))) buffer

unfoldable pub add_of : List ℕ → (stated code : ℕ) → List ℤ → Outcome
add_of buffer stated code profile =
    outcome (judge (add_rules buffer stated code profile)) (image_with buffer stated code profile) buffer

unfoldable pub file_of : List ℕ → List ℕ → Outcome
file_of image buffer = outcome (judge (file_rules image (length buffer))) (filing_form image) buffer

-- the contracts: the answer and the buffer are the outcome's
abbrev pub StartGives : (wells metric code : ℕ) → List ℤ → (buffer : List ℕ) → Answered → (buffer' : List ℕ) → Type 0
StartGives wells metric code profile buffer r buffer' = handed r buffer' ≡ start_of wells metric code profile buffer

abbrev pub AddGives : (buffer : List ℕ) → (stated code : ℕ) → List ℤ → Answered → (buffer' : List ℕ) → Type 0
AddGives buffer stated code profile r buffer' = handed r buffer' ≡ add_of buffer stated code profile

abbrev pub FileGives : (image buffer : List ℕ) → Answered → (buffer' : List ℕ) → Type 0
FileGives image buffer r buffer' = handed r buffer' ≡ file_of image buffer
