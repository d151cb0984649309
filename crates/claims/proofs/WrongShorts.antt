-- Short calls that document 01 has shut out: whatever else a program of such a kind does, it does not meet the contract. Assumes nothing.
use mathlib.Core.Path.{◌≡◌, refl, ◌∙◌, ap}
use mathlib.Core.Logic.{◌≢◌}
use mathlib.Core.List.{List, [], ◌∷◌}
use Prim.Native.Nat.{ℕ, ◌<◌}
use native.Mathlib.Omega.{arith}
use lib.ListN.{length, get_or, replicate}
use Rattle.profile.specs.Bytes.{signed, well_at, wells_at}
use Rattle.profile.specs.Distance.{gap, joined, distance}
use Rattle.ranking.specs.Sort.{insert, sort_by}
use Rattle.image.specs.Fields.{profile_at}
use Rattle.image.specs.Strains.{each, strains_of}
use Rattle.content.specs.Bytes.{Bytes}
use Rattle.walk.specs.Weighed.{weighed}
use Rattle.search.specs.Ranked.{ranked, nearest, places}
use Rattle.short.specs.Short.{by_turns, refusal_number}
use Rattle.short.proofs.Theorems.{short_is}
use Rattle.claims.specs.Example.{example_with, example}
use Rattle.claims.specs.Programs.{Slice, ShortBack, ShortAsked, ShortProgram, short_for, MeetsShort, ServesShort}
use Rattle.claims.proofs.Example.{example_library, renamed, renamed_library}
use Rattle.claims.proofs.TheExample.{short_seven}
use Rattle.claims.proofs.Inputs.{example_bytes, renamed_bytes, bytes_zeros, well_bytes}

-- ---- what is asked here: the five nearest of plate 7, as in C3, or of plate 0, of two libraries

abbrev asked : (image : List ℕ) → Slice Bytes image → (plate : ℕ) → plate < 256 → ShortAsked
asked image b plate h = record {
  image = image;
  plate = plate ∷ 0 ∷ [];
  out = replicate 40 0;
  is_image = b;
  is_plate = well_bytes plate h;
  is_out = record { elements = bytes_zeros 40; is_length = omega arith };
}

abbrev seven : ShortAsked
seven = asked example example_bytes 7 (omega arith)

abbrev zeroth : (image : List ℕ) → Slice Bytes image → ShortAsked
zeroth image b = asked image b 0 (omega arith)

-- on the definitions: 103 is the nearest to 7, and 101 to 0, or 100 that has its place
abbrev Begins : ShortAsked → (byte : ℕ) → Type 0
Begins a byte = (refusal_number (short_for a).answer ≡ 0) × (get_or (short_for a).buffer 0 0 ≡ byte)

begins_seven : Begins seven 103
begins_seven = rw (short_seven (replicate 40 0) (omega arith)) (refl, refl)

begins_zeroth : Begins (zeroth example example_bytes) 101 × Begins (zeroth renamed renamed_bytes) 100
unfolding example_with renamed signed well_at wells_at gap joined distance profile_at each strains_of insert sort_by weighed ranked nearest places by_turns
begins_zeroth = (
  rw (short_is example_library (0 ∷ 0 ∷ []) (replicate 40 0) refl (omega arith)) (refl, refl),
  rw (short_is renamed_library (0 ∷ 0 ∷ []) (replicate 40 0) refl (omega arith)) (refl, refl),
)

-- ---- what no program does that meets the contract

hands_back : (program : ShortProgram) → ServesShort program → (a : ShortAsked) {byte : ℕ} → Begins a byte
    → ((program a).number ≡ 0) × (get_or (program a).out 0 0 ≡ byte)
hands_back program serves a b =
    let meets = serves a b.0 in (meets.is_number ∙ b.0, ap (λ (bs : List ℕ). get_or bs 0 0) meets.is_out ∙ b.1)

module _ (program : ShortProgram) (meets : MeetsShort program) where
  at_seven : ((program seven).number ≡ 0) × (get_or (program seven).out 0 0 ≡ 103)
  at_seven = hands_back program (λ a e. meets a) seven begins_seven

  at_zeroth : ((program (zeroth example example_bytes)).number ≡ 0) × (get_or (program (zeroth example example_bytes)).out 0 0 ≡ 101)
  at_zeroth = hands_back program (λ a e. meets a) (zeroth example example_bytes) begins_zeroth.0

  -- it does not refuse all
  pub no_short_refuses_all : ((a : ShortAsked) → (program a).number ≢ 0) → ⊥
  no_short_refuses_all bad = bad seven at_seven.0

  -- it does not give one fixed list, nor lists that all begin with one byte
  pub no_short_gives_one_list : (byte : ℕ) → ((a : ShortAsked) → (program a).number ≡ 0 → get_or (program a).out 0 0 ≡ byte) → ⊥
  no_short_gives_one_list byte bad = omega (arith, bad seven at_seven.0, bad (zeroth example example_bytes) at_zeroth.0, at_seven.1, at_zeroth.1)

  -- it does not write nothing
  pub no_short_writes_nothing : ((a : ShortAsked) → (program a).number ≡ 0 → (program a).out ≡ a.out) → ⊥
  no_short_writes_nothing bad = omega (arith, at_seven.1, ap (λ (bs : List ℕ). get_or bs 0 0) (bad seven at_seven.0))

-- ---- no function that ignores what it searches, or what it searches for, serves, though it sees all lengths

pub no_short_ignores_plate : (program : (image : List ℕ) (size : ℕ) (out : List ℕ) → ShortBack)
    → ServesShort (λ a. program a.image (length a.plate) a.out) → ⊥
no_short_ignores_plate program serves =
    let short : ShortProgram = λ a. program a.image (length a.plate) a.out in
    omega (arith, (hands_back short serves seven begins_seven).1, (hands_back short serves (zeroth example example_bytes) begins_zeroth.0).1)

pub no_short_ignores_library : (program : (size : ℕ) (plate out : List ℕ) → ShortBack)
    → ServesShort (λ a. program (length a.image) a.plate a.out) → ⊥
unfolding example_with renamed
no_short_ignores_library program serves =
    let short : ShortProgram = λ a. program (length a.image) a.plate a.out in
    omega (
      arith,
      (hands_back short serves (zeroth example example_bytes) begins_zeroth.0).1,
      (hands_back short serves (zeroth renamed renamed_bytes) begins_zeroth.1).1,
    )

pub no_short_ignores_both : (program : (image_size plate_size : ℕ) (out : List ℕ) → ShortBack)
    → ServesShort (λ a. program (length a.image) (length a.plate) a.out) → ⊥
no_short_ignores_both program = no_short_ignores_plate (λ image. program (length image))
