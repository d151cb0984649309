-- Demand 3: the filing form. Said of the contracts that the calls' code is proved to meet. `Bytes` is what the type of an image says. Assumes nothing.
use Rattle.std.specs.Prelude.{Ok, ◌≡◌, ◌↔◌, List, ◌++◌, ℕ, ◌≤◌, ℤ, length, drop}
use Rattle.image.specs.Library.{Library}
use Rattle.content.specs.Bytes.{Bytes}
use Rattle.content.specs.Filing.{filing_form, Agree}
use Rattle.image.specs.Answer.{Answered, answer_of}
use Rattle.build.specs.Calls.{FileGives}
use Rattle.search.specs.Answer.{Served, Gathered, strains_in}
use Rattle.search.specs.Calls.{SittingGives, WithinGives}
use Rattle.short.specs.Short.{ShortGives}

pub record Demand3 : Type 0 where
  -- every accepted library has a filing form, and filing gives it, where there is room for it: as long as the library, in front of the buffer, with
  -- the rest of the buffer as it was
  pub given : (image buffer : List ℕ) {r : Answered} {buffer' : List ℕ} → Bytes image → Library image → length image ≤ length buffer → FileGives image buffer r buffer'
      → (r ≡ Ok (length image)) × (buffer' ≡ filing_form image ++ drop (length image) buffer)
  -- nothing else is filed
  pub only : (image buffer : List ℕ) {n : ℕ} {buffer' : List ℕ} → FileGives image buffer (Ok n) buffer' → Library image × (length image ≤ length buffer)
  -- it is itself accepted, and as long
  pub accepted : (image : List ℕ) → Bytes image → Library image → Library (filing_form image) × (length (filing_form image) ≡ length image)
  -- two libraries have equal filing forms, byte for byte, exactly when they agree in wells, metric and set of strains
  pub equal : (xs ys : List ℕ) → Bytes xs → Bytes ys → Library xs → Library ys → (filing_form xs ≡ filing_form ys) ↔ Agree xs ys
  -- filing a filing form changes nothing
  pub twice : (image : List ℕ) → Bytes image → Library image → filing_form (filing_form image) ≡ filing_form image
  -- a library and its filing form give every plate the same strains and distances, and the same answer. Only how many profiles the search within a
  -- radius measures goes by the tree
  pub sitting : (image : List ℕ) → Bytes image → Library image → (plates : List ℤ) (k : ℕ) (codes distances : List ℕ) {r s : Served} {c c' d d' : List ℕ}
      → SittingGives image plates k codes distances r c d → SittingGives (filing_form image) plates k codes distances s c' d'
      → (r ≡ s) × (c ≡ c') × (d ≡ d')
  pub within : (image : List ℕ) → Bytes image → Library image → (plate : List ℤ) (radius : ℕ) (codes distances : List ℕ) (r s : Gathered) {c c' d d' : List ℕ}
      → WithinGives image plate radius codes distances r c d → WithinGives (filing_form image) plate radius codes distances s c' d'
      → (strains_in (answer_of r) ≡ strains_in (answer_of s)) × (c ≡ c') × (d ≡ d')
  pub short : (image : List ℕ) → Bytes image → Library image → (plate out : List ℕ) {m n : ℕ} {b c : List ℕ}
      → ShortGives image plate out m b → ShortGives (filing_form image) plate out n c → (m ≡ n) × (b ≡ c)
