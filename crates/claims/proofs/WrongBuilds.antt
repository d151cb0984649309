-- Additions and filings that document 01 has shut out: whatever else a program of such a kind does, it does not meet the contract. Assumes nothing.
use Rattle.std.specs.Prelude.{Ok}
use mathlib.Core.Path.{◌≡◌, sym, ◌∙◌, ap}
use mathlib.Core.Logic.{◌≢◌, ◌↔◌, ◌⊎◌, ⊎_elim}
use mathlib.Core.List.{List, [], ◌∷◌, ◌++◌, Memᴰ}
use Prim.Native.Nat.{ℕ, ◌<◌}
use native.Mathlib.Omega.{arith}
use lib.IntN.{pos}
use lib.ListN.{length, get_or, take, replicate, length-append, length-take}
use lib.Seq.{get_or-take}
use Rattle.image.specs.Answer.{given, answer_of}
use Rattle.image.specs.Fields.{count_of}
use Rattle.image.specs.Library.{Library}
use Rattle.image.specs.Strains.{Strain, strains_of, strain_of}
use Rattle.image.proofs.Strains.{strains_length}
use Rattle.content.specs.Bytes.{Bytes}
use Rattle.content.proofs.Blocks.{bytes_append}
use Rattle.build.specs.Calls.{add_of, file_of}
use Rattle.image.proofs.Answers.{one_answer}
use Rattle.build.proofs.Theorems.{add_was_accepted, add_accepted, add_keeps_strains, add_changes, file_was_as_long, filed_same_strains}
use Rattle.claims.specs.Example.{example_with, example, reversed}
use Rattle.claims.specs.Programs.{In64, Slice, AddAsked, AddProgram, MeetsAdd, FileAsked, FilingProgram, MeetsFile}
use Rattle.claims.proofs.Example.{renamed}
use Rattle.claims.proofs.ExampleGrown.{with_105, reversed_filed, renamed_filed}
use Rattle.claims.proofs.Inputs.{example_bytes, renamed_bytes, reversed_bytes, bytes_zeros, one_plate}

-- ---- adding

-- an image of some length in front of a buffer: its count stands in the buffer
count_in_front : (n : ℕ) (buffer : List ℕ) → Library (take n buffer) → count_of (take n buffer) ≡ count_of buffer
count_in_front n buffer l =
    let long : 16 < n = omega (arith, l.layout.size, l.layout.count.0, length-take n buffer) in
    omega (arith, get_or-take n buffer 4 0 (omega arith), get_or-take n buffer 5 0 (omega arith))

with_room : In64 (length (example ++ replicate 10 0))
unfolding example_with
with_room = omega arith

-- C7: 105 at 12, in a buffer with room for one record more
abbrev seventh : AddAsked
seventh = record {
  buffer = example ++ replicate 10 0;
  stated = 56;
  code = 105;
  profile = pos 12 ∷ [];
  is_buffer = record { elements = bytes_append example (replicate 10 0) example_bytes.elements (bytes_zeros 10); is_length = with_room };
  is_stated = omega arith;
  is_code = omega arith;
  is_profile = one_plate 12 (omega arith);
}

module _ (program : AddProgram) (meets : MeetsAdd program) where
  -- an addition that is not refused
  module _ (a : AddAsked) (n : ℕ) (e : (program a).answer ≡ Ok n) where
    abbrev now : List ℕ
    now = (add_of a.buffer a.stated a.code a.profile).buffer

    left : (program a).buffer ≡ now
    left = ap (λ o. o.buffer) (meets a)

    told : (add_of a.buffer a.stated a.code a.profile).answer ≡ given n
    told = sym (ap (λ o. o.answer) (meets a)) ∙ ap answer_of e

    -- the image is another than it was
    pub every_addition_changes_the_image : take n (program a).buffer ≢ take a.stated a.buffer
    every_addition_changes_the_image q =
        add_changes a.buffer a.stated a.code a.profile a.is_buffer.elements a.is_code a.is_profile.elements n told (ap (take n) (sym left) ∙ q)

    -- and so is the buffer: the count that stands in it has grown
    pub every_addition_changes_the_buffer : (program a).buffer ≢ a.buffer
    every_addition_changes_the_buffer q = omega (
      arith,
      ap count_of (sym left ∙ q),
      count_in_front n now (add_accepted a.buffer a.stated a.code a.profile a.is_buffer.elements a.is_code a.is_profile.elements n told),
      count_in_front a.stated a.buffer (add_was_accepted a.buffer a.stated a.code a.profile a.is_buffer.elements a.is_code a.is_profile.elements n told),
      ap length (add_keeps_strains a.buffer a.stated a.code a.profile a.is_buffer.elements a.is_code a.is_profile.elements n told),
      length-append (strains_of (take a.stated a.buffer)) (strain_of a.code a.profile ∷ []),
      strains_length (take n now),
      strains_length (take a.stated a.buffer),
    )

  at_seventh : (program seventh).answer ≡ Ok 66
  unfolding example_with
  at_seventh = (one_answer (program seventh).answer (Ok 66) _ _ _ (meets seventh) (sym (with_105 (replicate 10 0) (omega arith)))).0

  -- so none leaves the image as it was in all additions that are not refused
  pub no_addition_leaves_the_image :
      ((a : AddAsked) (n : ℕ) → (program a).answer ≡ Ok n
      → (take n (program a).buffer ≡ take a.stated a.buffer) ⊎ ((program a).buffer ≡ a.buffer))
      → ⊥
  no_addition_leaves_the_image bad =
      ⊎_elim (every_addition_changes_the_image seventh 66 at_seventh) (every_addition_changes_the_buffer seventh 66 at_seventh) (bad seventh 66 at_seventh)

  -- and none refuses all
  pub no_addition_refuses_all : ((a : AddAsked) (n : ℕ) → (program a).answer ≢ Ok n) → ⊥
  no_addition_refuses_all bad = bad seventh 66 at_seventh

-- ---- filing

-- C11's library, and one as long that has other strains
abbrev asked : (image : List ℕ) → Slice Bytes image → FileAsked
asked image b = record { image = image; buffer = replicate 56 0; is_image = b; is_buffer = record { elements = bytes_zeros 56; is_length = omega arith } }

abbrev eleventh : FileAsked
eleventh = asked reversed reversed_bytes

abbrev other : FileAsked
other = asked renamed renamed_bytes

module _ (program : FilingProgram) (meets : MeetsFile program) where
  at_eleventh : ((program eleventh).answer ≡ Ok 56) × ((program eleventh).buffer ≡ example)
  unfolding example_with
  at_eleventh = one_answer (program eleventh).answer (Ok 56) _ _ _ (meets eleventh) (sym (reversed_filed (replicate 56 0) (omega arith)))

  at_other : ((program other).answer ≡ Ok 56) × ((program other).buffer ≡ renamed)
  unfolding example_with renamed
  at_other = one_answer (program other).answer (Ok 56) _ _ _ (meets other) (sym (renamed_filed (replicate 56 0) (omega arith)))

  -- every filing that is not refused is as long as the image, and holds the image's strains
  pub every_filing_keeps_the_strains : (a : FileAsked) (n : ℕ) → (program a).answer ≡ Ok n
      → (n ≡ length a.image) × ((s : Strain) → Memᴰ s (strains_of (take n (program a).buffer)) ↔ Memᴰ s (strains_of a.image))
  every_filing_keeps_the_strains a n e =
      let told : (file_of a.image a.buffer).answer ≡ given n = sym (ap (λ o. o.answer) (meets a)) ∙ ap answer_of e in (
        file_was_as_long a.image a.buffer a.is_image.elements n told,
        λ s. rw (ap (λ o. o.buffer) (meets a)) (filed_same_strains a.image a.buffer a.is_image.elements n told s),
      )

  -- none copies its input
  pub no_filing_copies : ((a : FileAsked) (n : ℕ) → (program a).answer ≡ Ok n → take n (program a).buffer ≡ a.image) → ⊥
  unfolding example_with reversed
  no_filing_copies bad =
      let e = bad eleventh 56 at_eleventh.0 in
      omega (arith, ap (λ (xs : List ℕ). get_or xs 16 0) (rw at_eleventh.1 at e))

  -- none gives one constant image, nor one for each length
  pub no_filing_is_constant : (form : (size : ℕ) → List ℕ)
      → ((a : FileAsked) (n : ℕ) → (program a).answer ≡ Ok n → take n (program a).buffer ≡ form (length a.image)) → ⊥
  unfolding example_with reversed renamed
  no_filing_is_constant form bad =
      let first = bad eleventh 56 at_eleventh.0 in
      let second = bad other 56 at_other.0 in
      omega (arith, ap (λ (xs : List ℕ). get_or xs 16 0) ((rw at_eleventh.1 at first) ∙ sym (rw at_other.1 at second)))
