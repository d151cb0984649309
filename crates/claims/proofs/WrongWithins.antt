-- Searches within a radius that document 01 has shut out: whatever else a program of such a kind does, it does not meet the contract.
-- Assumes nothing.
use Rattle.search.specs.Answer.{counted, Gathered, handed}
use mathlib.Core.Path.{◌≡◌, refl, sym, ◌∙◌, ap}
use mathlib.Core.Logic.{◌≢◌, ◌⊎◌, ⊎_elim}
use mathlib.Core.List.{List, [], ◌∷◌}
use Prim.Native.Nat.{ℕ, suc}
use native.Mathlib.Omega.{arith}
use lib.IntN.{ℤ, pos, negsuc}
use lib.ListN.{length, get_or}
use Rattle.profile.specs.Bytes.{signed, well_at, wells_at}
use Rattle.profile.specs.Distance.{Wells, gap, joined, distance}
use Rattle.profile.specs.Level.{cover_limit, reach}
use Rattle.ranking.specs.Sort.{insert, sort_by}
use Rattle.image.specs.Answer.{given, answer_of}
use Rattle.image.specs.Fields.{profile_at}
use Rattle.image.specs.Strains.{each, strains_of}
use Rattle.content.specs.Bytes.{Bytes}
use Rattle.walk.specs.Walk.{opens}
use Rattle.walk.specs.Weighed.{weighed, found_at, reach_at}
use Rattle.walk.specs.Measured.{measured_in, is_measured, measured_from, measured_count}
use Rattle.search.specs.declared.Tally.{Tally}
use Rattle.search.specs.Calls.{within_of}
use Rattle.search.specs.Ranked.{ranked, inside, within_radius}
use Rattle.search.proofs.Answers.{one_answer_within}
use Rattle.search.proofs.Outcomes.{granted}
use Rattle.claims.specs.Example.{example_with, example}
use Rattle.claims.specs.Programs.{In32, Slice, SearchBack, WithinAsked, WithinProgram, within_for, MeetsWithin, ServesWithin}
use Rattle.claims.proofs.Example.{example_library, renamed, renamed_library}
use Rattle.claims.proofs.NotRefused.{gathers}
use Rattle.claims.proofs.Inputs.{example_bytes, renamed_bytes, four_lent, one_plate}

-- ---- what is asked here

abbrev asked : (image : List ℕ) → Slice Bytes image → (plate : List ℤ) → Slice Wells plate → (radius : ℕ) → In32 radius → WithinAsked
asked image b plate w radius h = record {
  image = image;
  plate = plate;
  radius = radius;
  codes = 0 ∷ 0 ∷ 0 ∷ 0 ∷ [];
  distances = 0 ∷ 0 ∷ 0 ∷ 0 ∷ [];
  is_image = b;
  is_plate = w;
  is_radius = h;
  are_codes = four_lent;
  are_distances = four_lent;
}

-- within 4 of 7, as in C4, and within 3; within 0 of -40, as in C6
abbrev four_of_seven : WithinAsked
four_of_seven = asked example example_bytes (pos 7 ∷ []) (one_plate 7 (omega arith)) 4 (omega arith)

abbrev three_of_seven : WithinAsked
three_of_seven = asked example example_bytes (pos 7 ∷ []) (one_plate 7 (omega arith)) 3 (omega arith)

abbrev none_of_low : WithinAsked
none_of_low = asked example example_bytes (negsuc 39 ∷ [])
    (record { elements = Wells.well (record { sfits = omega arith }) Wells.none; is_length = omega arith }) 0 (omega arith)

-- within 4 of 0, of two libraries
abbrev four_of_zero : (image : List ℕ) → Slice Bytes image → WithinAsked
four_of_zero image b = asked image b (pos 0 ∷ []) (one_plate 0 (omega arith)) 4 (omega arith)

abbrev counts : (strains measured : ℕ) → Tally
counts strains measured = record { strains = strains; measured = measured }

-- on the definitions
searches :
    (within_for four_of_seven ≡ handed (given (counts 3 4)) (103 ∷ 102 ∷ 104 ∷ 0 ∷ []) (3 ∷ 4 ∷ 4 ∷ 0 ∷ []))
    × (within_for three_of_seven ≡ handed (given (counts 1 4)) (103 ∷ 0 ∷ 0 ∷ 0 ∷ []) (3 ∷ 0 ∷ 0 ∷ 0 ∷ []))
    × (within_for none_of_low ≡ handed (given (counts 0 1)) (0 ∷ 0 ∷ 0 ∷ 0 ∷ []) (0 ∷ 0 ∷ 0 ∷ 0 ∷ []))
    × (within_for (four_of_zero example example_bytes) ≡ handed (given (counts 2 4)) (101 ∷ 102 ∷ 0 ∷ 0 ∷ []) (0 ∷ 3 ∷ 0 ∷ 0 ∷ []))
    × (within_for (four_of_zero renamed renamed_bytes) ≡ handed (given (counts 2 4)) (100 ∷ 102 ∷ 0 ∷ 0 ∷ []) (0 ∷ 3 ∷ 0 ∷ 0 ∷ []))
unfolding example_with renamed signed well_at wells_at gap joined distance cover_limit reach profile_at each strains_of insert sort_by opens weighed found_at reach_at measured_in is_measured measured_from measured_count ranked inside within_radius
searches = (
  gathers example_library _ _ refl _ _ (omega arith) (omega arith),
  gathers example_library _ _ refl _ _ (omega arith) (omega arith),
  gathers example_library _ _ refl _ _ (omega arith) (omega arith),
  gathers example_library _ _ refl _ _ (omega arith) (omega arith),
  gathers renamed_library _ _ refl _ _ (omega arith) (omega arith),
)

-- ---- what no program does that meets the contract

abbrev Back : SearchBack Gathered → (strains measured : ℕ) (codes distances : List ℕ) → Type 0
Back back strains measured codes distances = (back.answer ≡ counted strains measured) × (back.codes ≡ codes) × (back.distances ≡ distances)

hands_back : (program : WithinProgram) → ServesWithin program → (a : WithinAsked) {n m : ℕ} {codes distances : List ℕ}
    → within_for a ≡ handed (given (counts n m)) codes distances → Back (program a) n m codes distances
hands_back program serves a {n} {m} e =
    one_answer_within a.image a.plate a.radius a.codes a.distances {s = counted n m}
    (serves a (counts n m) (ap (λ o. o.answer) e)) (sym e)

module _ (program : WithinProgram) (meets : MeetsWithin program) where
  at_four_of_seven : Back (program four_of_seven) 3 4 (103 ∷ 102 ∷ 104 ∷ 0 ∷ []) (3 ∷ 4 ∷ 4 ∷ 0 ∷ [])
  at_four_of_seven = hands_back program (λ a c e. meets a) four_of_seven searches.0

  at_none_of_low : Back (program none_of_low) 0 1 (0 ∷ 0 ∷ 0 ∷ 0 ∷ []) (0 ∷ 0 ∷ 0 ∷ 0 ∷ [])
  at_none_of_low = hands_back program (λ a c e. meets a) none_of_low searches.2

  at_four_of_zero : Back (program (four_of_zero example example_bytes)) 2 4 (101 ∷ 102 ∷ 0 ∷ 0 ∷ []) (0 ∷ 3 ∷ 0 ∷ 0 ∷ [])
  at_four_of_zero = hands_back program (λ a c e. meets a) (four_of_zero example example_bytes) searches.3

  -- it does not refuse all
  pub no_within_refuses_all : ((a : WithinAsked) (n m : ℕ) → (program a).answer ≢ counted n m) → ⊥
  no_within_refuses_all bad = bad four_of_seven 3 4 at_four_of_seven.0

  -- it does not give one fixed list, nor lists that all begin with one code where they hold a strain
  pub no_within_gives_one_list : (code : ℕ)
      → ((a : WithinAsked) (n m : ℕ) → (program a).answer ≡ counted (suc n) m → get_or (program a).codes 0 0 ≡ code) → ⊥
  no_within_gives_one_list code bad = omega (
    arith,
    bad four_of_seven 2 4 at_four_of_seven.0,
    bad (four_of_zero example example_bytes) 1 4 at_four_of_zero.0,
    ap (λ (cs : List ℕ). get_or cs 0 0) at_four_of_seven.1,
    ap (λ (cs : List ℕ). get_or cs 0 0) at_four_of_zero.1,
  )

  -- it does not write nothing, nor leave one of the slices as it was
  pub no_within_writes_nothing :
      ((a : WithinAsked) (n m : ℕ) → (program a).answer ≡ counted n m → ((program a).codes ≡ a.codes) ⊎ ((program a).distances ≡ a.distances)) → ⊥
  no_within_writes_nothing bad =
      ⊎_elim (λ e. absurd (omega (arith, ap (λ (cs : List ℕ). get_or cs 0 0) (sym at_four_of_seven.1 ∙ e))))
      (λ e. absurd (omega (arith, ap (λ (ds : List ℕ). get_or ds 0 0) (sym at_four_of_seven.2 ∙ e))))
      (bad four_of_seven 3 4 at_four_of_seven.0)

  -- it invents neither count: they are how many strains lie within the radius, and how many profiles document 01 has measured
  told : (a : WithinAsked) (n m : ℕ) → (program a).answer ≡ counted n m
      → counts n m ≡ counts (length (within_radius a.image a.radius a.plate)) (measured_count a.image a.radius a.plate)
  unfolding within_of
  told a n m e = let q = sym (ap (λ o. o.answer) (meets a)) ∙ ap answer_of e in let t = sym (ap (λ o. o.answer) (granted _ _ a.codes a.distances (counts n m) q).1) ∙ q in cc

  pub no_strain_count_is_invented : (a : WithinAsked) (n m : ℕ) → (program a).answer ≡ counted n m → n ≡ length (within_radius a.image a.radius a.plate)
  no_strain_count_is_invented a n m e = ap (λ c. c.strains) (told a n m e)

  pub no_measured_count_is_invented : (a : WithinAsked) (n m : ℕ) → (program a).answer ≡ counted n m → m ≡ measured_count a.image a.radius a.plate
  no_measured_count_is_invented a n m e = ap (λ c. c.measured) (told a n m e)

  -- so neither is one number
  pub no_strain_count_is_constant : (count : ℕ) → ((a : WithinAsked) (n m : ℕ) → (program a).answer ≡ counted n m → n ≡ count) → ⊥
  no_strain_count_is_constant count bad = omega (arith, bad four_of_seven 3 4 at_four_of_seven.0, bad none_of_low 0 1 at_none_of_low.0)

  pub no_measured_count_is_constant : (count : ℕ) → ((a : WithinAsked) (n m : ℕ) → (program a).answer ≡ counted n m → m ≡ count) → ⊥
  no_measured_count_is_constant count bad = omega (arith, bad four_of_seven 3 4 at_four_of_seven.0, bad none_of_low 0 1 at_none_of_low.0)

-- ---- no function that ignores what it searches, what it searches for, or how far, serves, though it sees all lengths

pub no_within_ignores_plate : (program : (image : List ℕ) (values radius : ℕ) (codes distances : List ℕ) → SearchBack Gathered)
    → ServesWithin (λ a. program a.image (length a.plate) a.radius a.codes a.distances) → ⊥
no_within_ignores_plate program serves =
    let within : WithinProgram = λ a. program a.image (length a.plate) a.radius a.codes a.distances in
    let first = hands_back within serves four_of_seven searches.0 in
    let second = hands_back within serves (four_of_zero example example_bytes) searches.3 in
    omega (arith, ap (λ (cs : List ℕ). get_or cs 0 0) (sym first.1 ∙ second.1))

pub no_within_ignores_library : (program : (size : ℕ) (plate : List ℤ) (radius : ℕ) (codes distances : List ℕ) → SearchBack Gathered)
    → ServesWithin (λ a. program (length a.image) a.plate a.radius a.codes a.distances) → ⊥
unfolding example_with renamed
no_within_ignores_library program serves =
    let within : WithinProgram = λ a. program (length a.image) a.plate a.radius a.codes a.distances in
    let first = hands_back within serves (four_of_zero example example_bytes) searches.3 in
    let second = hands_back within serves (four_of_zero renamed renamed_bytes) searches.4 in
    omega (arith, ap (λ (cs : List ℕ). get_or cs 0 0) (sym first.1 ∙ second.1))

pub no_within_ignores_both : (program : (size values radius : ℕ) (codes distances : List ℕ) → SearchBack Gathered)
    → ServesWithin (λ a. program (length a.image) (length a.plate) a.radius a.codes a.distances) → ⊥
no_within_ignores_both program = no_within_ignores_plate (λ image. program (length image))

pub no_within_ignores_radius : (program : (image : List ℕ) (plate : List ℤ) (codes distances : List ℕ) → SearchBack Gathered)
    → ServesWithin (λ a. program a.image a.plate a.codes a.distances) → ⊥
no_within_ignores_radius program serves =
    let within : WithinProgram = λ a. program a.image a.plate a.codes a.distances in
    let first = hands_back within serves four_of_seven searches.0 in
    let second = hands_back within serves three_of_seven searches.1 in
    omega (arith, ap (λ (cs : List ℕ). get_or cs 1 0) (sym first.1 ∙ second.1))
