-- A library grown call by call: started with one strain, the others added in order, each to what the call before it left. Assumes nothing.
use mathlib.Core.List.{List, [], ◌∷◌, foldl}
use Rattle.std.specs.Prelude.{ℕ, ℤ}
use Rattle.image.specs.Strains.{Strain, strain_of}
use Rattle.image.specs.Answer.{Answer, given, denied, Outcome}
use Rattle.build.specs.Calls.{start_of, add_of}

-- a strain of one well
abbrev pub one_well : (code : ℕ) (value : ℤ) → Strain
one_well code value = strain_of code (value ∷ [])

-- how long the image is that an answer tells of; a refusal tells of none
abbrev pub length_in : Answer ℕ → ℕ
length_in (given n) = n
length_in (denied m p) = 0

-- add, to what an earlier call left
abbrev pub then_add : Outcome → Strain → Outcome
then_add o s = add_of o.buffer (length_in o.answer) s.code s.profile

abbrev pub grown_in_order : (wells metric : ℕ) → (first : Strain) (rest : List Strain) → (buffer : List ℕ) → Outcome
grown_in_order wells metric first rest buffer = foldl then_add (start_of wells metric first.code first.profile buffer) rest
