-- Sittings that document 01 has shut out: whatever else a program of such a kind does, it does not meet the contract. Assumes nothing.
use Rattle.std.specs.Prelude.{Ok}
use mathlib.Core.Path.{◌≡◌, refl, sym, ◌∙◌, ap}
use mathlib.Core.Logic.{◌≢◌, ◌⊎◌, ⊎_elim}
use mathlib.Core.List.{List, [], ◌∷◌}
use Prim.Native.Nat.{ℕ, ◌*◌, ◌<◌, min}
use native.Mathlib.Omega.{arith}
use lib.IntN.{ℤ, pos}
use lib.ListN.{length, get_or, take, drop, replicate}
use Rattle.profile.specs.Bytes.{signed, well_at, wells_at}
use Rattle.profile.specs.Distance.{Wells, gap, joined, distance}
use Rattle.ranking.specs.Sort.{insert, sort_by}
use Rattle.image.specs.Answer.{given, answer_of}
use Rattle.image.specs.Fields.{count_of, profile_at}
use Rattle.image.specs.Strains.{each, strains_of}
use Rattle.content.specs.Bytes.{Bytes}
use Rattle.walk.specs.Weighed.{weighed}
use Rattle.search.specs.Answer.{Served, handed}
use Rattle.search.specs.Calls.{code_in, distance_in, sitting_of}
use Rattle.search.specs.Ranked.{ranked, nearest, plates_in, plate_at, places, rows}
use Rattle.search.proofs.Answers.{one_answer}
use Rattle.search.proofs.Outcomes.{granted}
use Rattle.search.proofs.Theorems.{plate_alone, plate_alone_distances}
use Rattle.claims.specs.Example.{example_with, example}
use Rattle.claims.specs.Programs.{In32, Slice, SearchBack, SittingAsked, SittingProgram, sitting_for, MeetsSitting, ServesSitting}
use Rattle.claims.proofs.Example.{example_library, renamed, renamed_library}
use Rattle.claims.proofs.NotRefused.{sits}
use Rattle.claims.proofs.Inputs.{example_bytes, renamed_bytes, two_lent, one_plate, two_plates}

-- ---- what is asked here: the nearest strain of each of two plates, or the nearest two or one of one plate

abbrev asked : (image : List ℕ) → Slice Bytes image → (plates : List ℤ) → Slice Wells plates → (k : ℕ) → In32 k → SittingAsked
asked image b plates w k h = record {
  image = image;
  plates = plates;
  k = k;
  codes = 0 ∷ 0 ∷ [];
  distances = 0 ∷ 0 ∷ [];
  is_image = b;
  are_plates = w;
  is_k = h;
  are_codes = two_lent;
  are_distances = two_lent;
}

abbrev seven_zero : SittingAsked
seven_zero = asked example example_bytes (pos 7 ∷ pos 0 ∷ []) (two_plates 7 0 (omega arith) (omega arith)) 1 (omega arith)

abbrev zero_seven : SittingAsked
zero_seven = asked example example_bytes (pos 0 ∷ pos 7 ∷ []) (two_plates 0 7 (omega arith) (omega arith)) 1 (omega arith)

abbrev seven_seven : SittingAsked
seven_seven = asked example example_bytes (pos 7 ∷ pos 7 ∷ []) (two_plates 7 7 (omega arith) (omega arith)) 1 (omega arith)

-- as in C2, and with k = 1
abbrev two_of_seven : SittingAsked
two_of_seven = asked example example_bytes (pos 7 ∷ []) (one_plate 7 (omega arith)) 2 (omega arith)

abbrev one_of_seven : SittingAsked
one_of_seven = asked example example_bytes (pos 7 ∷ []) (one_plate 7 (omega arith)) 1 (omega arith)

-- of two libraries
abbrev one_of_zero : (image : List ℕ) → Slice Bytes image → SittingAsked
one_of_zero image b = asked image b (pos 0 ∷ []) (one_plate 0 (omega arith)) 1 (omega arith)

-- on the definitions
sittings :
    (sitting_for seven_zero ≡ handed (given 1) (103 ∷ 101 ∷ []) (3 ∷ 0 ∷ []))
    × (sitting_for zero_seven ≡ handed (given 1) (101 ∷ 103 ∷ []) (0 ∷ 3 ∷ []))
    × (sitting_for seven_seven ≡ handed (given 1) (103 ∷ 103 ∷ []) (3 ∷ 3 ∷ []))
    × (sitting_for two_of_seven ≡ handed (given 2) (103 ∷ 102 ∷ []) (3 ∷ 4 ∷ []))
    × (sitting_for one_of_seven ≡ handed (given 1) (103 ∷ 0 ∷ []) (3 ∷ 0 ∷ []))
    × (sitting_for (one_of_zero example example_bytes) ≡ handed (given 1) (101 ∷ 0 ∷ []) (0 ∷ 0 ∷ []))
    × (sitting_for (one_of_zero renamed renamed_bytes) ≡ handed (given 1) (100 ∷ 0 ∷ []) (0 ∷ 0 ∷ []))
unfolding example_with renamed signed well_at wells_at gap joined distance profile_at each strains_of insert sort_by weighed ranked nearest plate_at places rows
sittings = (
  sits example_library _ _ refl refl _ _ (omega arith) (omega arith),
  sits example_library _ _ refl refl _ _ (omega arith) (omega arith),
  sits example_library _ _ refl refl _ _ (omega arith) (omega arith),
  sits example_library _ _ refl refl _ _ (omega arith) (omega arith),
  sits example_library _ _ refl refl _ _ (omega arith) (omega arith),
  sits example_library _ _ refl refl _ _ (omega arith) (omega arith),
  sits renamed_library _ _ refl refl _ _ (omega arith) (omega arith),
)

-- ---- what no program does that meets the contract

abbrev Back : SearchBack Served → (filled : ℕ) (codes distances : List ℕ) → Type 0
Back back filled codes distances = (back.answer ≡ Ok filled) × (back.codes ≡ codes) × (back.distances ≡ distances)

hands_back : (program : SittingProgram) → ServesSitting program → (a : SittingAsked) {n : ℕ} {codes distances : List ℕ}
    → sitting_for a ≡ handed (given n) codes distances → Back (program a) n codes distances
hands_back program serves a {n} e =
    one_answer a.image a.plates a.k a.codes a.distances {s = Ok n} (serves a n (ap (λ o. o.answer) e)) (sym e)

module _ (program : SittingProgram) (meets : MeetsSitting program) where
  at_seven_zero : Back (program seven_zero) 1 (103 ∷ 101 ∷ []) (3 ∷ 0 ∷ [])
  at_seven_zero = hands_back program (λ a n e. meets a) seven_zero sittings.0

  at_zero_seven : Back (program zero_seven) 1 (101 ∷ 103 ∷ []) (0 ∷ 3 ∷ [])
  at_zero_seven = hands_back program (λ a n e. meets a) zero_seven sittings.1

  at_seven_seven : Back (program seven_seven) 1 (103 ∷ 103 ∷ []) (3 ∷ 3 ∷ [])
  at_seven_seven = hands_back program (λ a n e. meets a) seven_seven sittings.2

  at_two_of_seven : Back (program two_of_seven) 2 (103 ∷ 102 ∷ []) (3 ∷ 4 ∷ [])
  at_two_of_seven = hands_back program (λ a n e. meets a) two_of_seven sittings.3

  -- it does not refuse all
  pub no_sitting_refuses_all : ((a : SittingAsked) (n : ℕ) → (program a).answer ≢ Ok n) → ⊥
  no_sitting_refuses_all bad = bad seven_zero 1 at_seven_zero.0

  -- it does not give one fixed list, nor lists that all begin with one code
  pub no_sitting_gives_one_list : (code : ℕ) → ((a : SittingAsked) (n : ℕ) → (program a).answer ≡ Ok n → get_or (program a).codes 0 0 ≡ code) → ⊥
  no_sitting_gives_one_list code bad = omega (
    arith,
    bad seven_zero 1 at_seven_zero.0,
    bad zero_seven 1 at_zero_seven.0,
    ap (λ (cs : List ℕ). get_or cs 0 0) at_seven_zero.1,
    ap (λ (cs : List ℕ). get_or cs 0 0) at_zero_seven.1,
  )

  -- it does not write nothing, nor leave one of the slices as it was
  pub no_sitting_writes_nothing :
      ((a : SittingAsked) (n : ℕ) → (program a).answer ≡ Ok n → ((program a).codes ≡ a.codes) ⊎ ((program a).distances ≡ a.distances)) → ⊥
  no_sitting_writes_nothing bad =
      ⊎_elim (λ e. absurd (omega (arith, ap (λ (cs : List ℕ). get_or cs 0 0) (sym at_seven_zero.1 ∙ e))))
      (λ e. absurd (omega (arith, ap (λ (ds : List ℕ). get_or ds 0 0) (sym at_seven_zero.2 ∙ e))))
      (bad seven_zero 1 at_seven_zero.0)

  -- the places of plate j, in a slice
  abbrev places_of : SittingAsked → (j : ℕ) → List ℕ → List ℕ
  places_of a j lent = take a.k (drop (j * a.k) lent)

  -- every plate has its own k nearest, whatever the others are
  pub every_plate_is_served : (a : SittingAsked) (n j : ℕ) → (program a).answer ≡ Ok n → j < plates_in a.image a.plates
      → let found = nearest a.image a.k (plate_at a.image a.plates j) in
      (places_of a j (program a).codes ≡ places a.k code_in found) × (places_of a j (program a).distances ≡ places a.k distance_in found)
  every_plate_is_served a n j e h =
      let told : (sitting_for a).answer ≡ given n = sym (ap (λ o. o.answer) (meets a)) ∙ ap answer_of e in (
        ap (λ o. places_of a j o.codes) (meets a) ∙ plate_alone a.image a.plates a.k a.codes a.distances n told j h,
        ap (λ o. places_of a j o.distances) (meets a) ∙ plate_alone_distances a.image a.plates a.k a.codes a.distances n told j h,
      )

  -- so it does not serve plate 0 alone, and give each of the others the places of plate 0, or zeros, or leave its places as they were lent
  pub no_sitting_serves_plate_0_only :
      ((a : SittingAsked) (n j : ℕ) → (program a).answer ≡ Ok n → 0 < j → j < plates_in a.image a.plates
      → (places_of a j (program a).codes ≡ places_of a 0 (program a).codes)
      ⊎ ((places_of a j (program a).codes ≡ replicate a.k 0) ⊎ (places_of a j (program a).codes ≡ places_of a j a.codes)))
      → ⊥
  unfolding example_with
  no_sitting_serves_plate_0_only bad =
      ⊎_elim (λ e. absurd (omega (arith, ap (λ (cs : List ℕ). get_or cs 0 0) (rw at_seven_zero.1 at e))))
      (⊎_elim (λ e. absurd (omega (arith, ap (λ (cs : List ℕ). get_or cs 0 0) (rw at_seven_zero.1 at e))))
      (λ e. absurd (omega (arith, ap (λ (cs : List ℕ). get_or cs 0 0) (rw at_seven_zero.1 at e)))))
      (bad seven_zero 1 1 at_seven_zero.0 (omega arith) (omega arith))

  -- nor fill in plate j in any way from all that it sees but the values of the other plates: the library, k, how many plates there are, plate 0,
  -- j, and what was lent
  pub no_sitting_fills_in_others : (fill : (image : List ℕ) (k many : ℕ) (plate : List ℤ) (j : ℕ) (codes distances : List ℕ) → List ℕ)
      → ((a : SittingAsked) (n j : ℕ) → (program a).answer ≡ Ok n → 0 < j → j < plates_in a.image a.plates
      → places_of a j (program a).codes
      ≡ fill a.image a.k (plates_in a.image a.plates) (plate_at a.image a.plates 0) j a.codes a.distances)
      → ⊥
  unfolding example_with plate_at
  no_sitting_fills_in_others fill bad =
      let zero = bad seven_zero 1 1 at_seven_zero.0 (omega arith) (omega arith) in
      let seven = bad seven_seven 1 1 at_seven_seven.0 (omega arith) (omega arith) in
      omega (arith, ap (λ (cs : List ℕ). get_or cs 0 0) ((rw at_seven_zero.1 at zero) ∙ sym (rw at_seven_seven.1 at seven)))

  -- it does not invent the count: that is the lower of k and the number of strains
  pub no_filled_count_is_invented : (a : SittingAsked) (n : ℕ) → (program a).answer ≡ Ok n → n ≡ min a.k (count_of a.image)
  unfolding sitting_of
  no_filled_count_is_invented a n e =
      let q = sym (ap (λ o. o.answer) (meets a)) ∙ ap answer_of e in
      let told = sym (ap (λ o. o.answer) (granted _ _ a.codes a.distances n q).1) ∙ q in cc

  -- so it is not one number
  pub no_filled_count_is_constant : (count : ℕ) → ((a : SittingAsked) (n : ℕ) → (program a).answer ≡ Ok n → n ≡ count) → ⊥
  no_filled_count_is_constant count bad = omega (arith, bad seven_zero 1 at_seven_zero.0, bad two_of_seven 2 at_two_of_seven.0)

-- ---- no function that ignores what it searches, what it searches for, or how many it is asked for, serves, though it sees all lengths

pub no_sitting_ignores_plates : (program : (image : List ℕ) (values k : ℕ) (codes distances : List ℕ) → SearchBack Served)
    → ServesSitting (λ a. program a.image (length a.plates) a.k a.codes a.distances) → ⊥
no_sitting_ignores_plates program serves =
    let sitting : SittingProgram = λ a. program a.image (length a.plates) a.k a.codes a.distances in
    let first = hands_back sitting serves seven_zero sittings.0 in
    let second = hands_back sitting serves zero_seven sittings.1 in
    omega (arith, ap (λ (cs : List ℕ). get_or cs 0 0) (sym first.1 ∙ second.1))

pub no_sitting_ignores_library : (program : (size : ℕ) (plates : List ℤ) (k : ℕ) (codes distances : List ℕ) → SearchBack Served)
    → ServesSitting (λ a. program (length a.image) a.plates a.k a.codes a.distances) → ⊥
unfolding example_with renamed
no_sitting_ignores_library program serves =
    let sitting : SittingProgram = λ a. program (length a.image) a.plates a.k a.codes a.distances in
    let first = hands_back sitting serves (one_of_zero example example_bytes) sittings.5 in
    let second = hands_back sitting serves (one_of_zero renamed renamed_bytes) sittings.6 in
    omega (arith, ap (λ (cs : List ℕ). get_or cs 0 0) (sym first.1 ∙ second.1))

pub no_sitting_ignores_both : (program : (size values k : ℕ) (codes distances : List ℕ) → SearchBack Served)
    → ServesSitting (λ a. program (length a.image) (length a.plates) a.k a.codes a.distances) → ⊥
no_sitting_ignores_both program = no_sitting_ignores_plates (λ image. program (length image))

pub no_sitting_ignores_k : (program : (image : List ℕ) (plates : List ℤ) (codes distances : List ℕ) → SearchBack Served)
    → ServesSitting (λ a. program a.image a.plates a.codes a.distances) → ⊥
no_sitting_ignores_k program serves =
    let sitting : SittingProgram = λ a. program a.image a.plates a.codes a.distances in
    let first = hands_back sitting serves two_of_seven sittings.3 in
    let second = hands_back sitting serves one_of_seven sittings.4 in
    omega (arith, ap (λ (cs : List ℕ). get_or cs 1 0) (sym first.1 ∙ second.1))
