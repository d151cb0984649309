-- What the sitting and the search within a radius promise to those who use them. Assumes nothing.
use mathlib.Core.Path.{◌≡◌, refl, sym, ◌∙◌, ap, ap₂}
use mathlib.Core.Logic.{◌↔◌, ◌⊎◌, inl, inr}
use mathlib.Core.Bool.{Bool, true, false, ◌||◌}
use mathlib.Core.List.{List, [], ◌++◌, append_assoc, Memᴰ}
use mathlib.Core.List.Memᴰ
use Prim.Native.Nat.{ℕ, zero, suc, ◌+◌, ◌-◌, ◌*◌, ◌≤◌, ◌<◌, min}
use native.Mathlib.Nat.{zero-add}
use native.Mathlib.Omega.{arith}
use lib.Dec.{eqb}
use lib.IntN.{ℤ}
use lib.ListN.{length, get_or, take, drop, length-take, take-append-drop}
use lib.Seq.{take_at, drop-append-add}
use borrow.Author.Tests.{le-leb, eq-eqb}
use Rattle.profile.specs.Distance.{Profile}
use Rattle.profile.proofs.Distances.{distance_most}
use Rattle.ranking.specs.Order.{Ascending, Distinct}
use Rattle.ranking.specs.Found.{Found, rank}
use Rattle.ranking.proofs.Places.{mem_get_or, get_or_mem}
use Rattle.ranking.proofs.Ranks.{rank_nearer}
use Rattle.ranking.proofs.Order.{ascending_front, ascending_below, ascending_one, distinct_front, distinct_apart}
use Rattle.ranking.proofs.Sorted.{sort_only_by_set}
use Rattle.tree.specs.Tree.{Below, self, child}
use Rattle.image.specs.Fields.{wells_of, metric_of, count_of, root_of, parent_at}
use Rattle.image.specs.Strains.{Strain, strains_of}
use Rattle.image.specs.Library.{tree_of, Library}
use Rattle.image.specs.Verdict.{Verdict, accepted, refused, judge}
use Rattle.image.proofs.Trees.{library_way}
use Rattle.content.specs.Bytes.{Bytes}
use Rattle.content.specs.Filing.{filing_form, Agree}
use Rattle.content.proofs.Filing.{library_strains, file_accepted, file_wells, file_metric, file_same_strains}
use Rattle.walk.specs.Walk.{no_found, worst, opens}
use Rattle.walk.specs.Weighed.{weighed, found_at, reach_at}
use Rattle.walk.specs.Measured.{measured_in, is_measured, measured_from, measured_count}
use Rattle.search.specs.Ranked.{ranked, nearest, inside, within_radius, plates_in, plate_at, places, rows}
use Rattle.image.specs.Answer.{given}
use Rattle.search.specs.Answer.{Outcome, outcome, Alike}
use Rattle.search.specs.declared.Tally.{Tally}
use Rattle.search.specs.Rules.{plate_rules, sitting_rules, radius_rules, within_rules}
use Rattle.search.specs.Calls.{code_in, distance_in, served, sitting_of, listed, within_of}
use Rattle.search.proofs.Serves.{nearest_places}
use Rattle.search.proofs.Lists.{inside_mem, mem_inside, inside_ascending, inside_distinct, inside_append, inside_all, weighed_distinct, library_codes, ranked_length, ranked_ascending, ranked_mem, mem_ranked, ranked_codes, ranked_distinct}
use Rattle.search.proofs.Only.{first_only}
use Rattle.search.proofs.Scans.{record_strain}
use Rattle.search.proofs.Outcomes.{granted, image_accepted}

-- ---- the tree does not matter

alike : (v : Verdict) {good good' : Outcome Tally} (codes distances : List ℕ) → Alike good good'
    → Alike (outcome v good codes distances) (outcome v good' codes distances)
unfolding outcome
alike accepted codes distances a = a
alike (refused m p) codes distances a = record { answer = refl; codes = refl; distances = refl }

-- two libraries that agree in wells, metric and the set of their strains. The codes of the second are those of the first, so the bytes of
-- one are enough
module _ {xs ys : List ℕ} (b : Bytes xs) (lx : Library xs) (ly : Library ys) (a : Agree xs ys) where
  pub same_ranked : (plate : List ℤ) → ranked xs plate ≡ ranked ys plate
  unfolding ranked
  same_ranked plate =
      rw a.metric
      (sort_only_by_set (weighed_distinct (metric_of ys) plate (library_codes lx) (λ s m. fits s m))
      (weighed_distinct (metric_of ys) plate (library_codes ly) (λ s m. fits s ((a.strain s).1 m)))
      (λ f m. let w = Memᴰ.of_map (weighed (metric_of ys) plate) (strains_of xs) m in Memᴰ.cast (sym w.2) (Memᴰ.map _ ((a.strain w.0).0 w.1)))
      (λ f m. let w = Memᴰ.of_map (weighed (metric_of ys) plate) (strains_of ys) m in Memᴰ.cast (sym w.2) (Memᴰ.map _ ((a.strain w.0).1 w.1))))
    where
      fits : (s : Strain) → Memᴰ s (strains_of xs) → s.code < 4294967296
      fits s m = (library_strains xs b lx).code_fits m

  same_count : count_of xs ≡ count_of ys
  same_count = sym (ranked_length xs []) ∙ ap length (same_ranked []) ∙ ranked_length ys []

  pub same_nearest : (k : ℕ) (plate : List ℤ) → nearest xs k plate ≡ nearest ys k plate
  unfolding nearest
  same_nearest k plate = ap (take k) (same_ranked plate)

  same_near : (radius : ℕ) (plate : List ℤ) → within_radius xs radius plate ≡ within_radius ys radius plate
  unfolding within_radius
  same_near radius plate = ap (inside radius) (same_ranked plate)

  same_plate : (plates : List ℤ) (j : ℕ) → plate_at xs plates j ≡ plate_at ys plates j
  unfolding plate_at
  same_plate plates j = rw a.wells

  same_rows : (k : ℕ) (part : Found → ℕ) (plates : List ℤ) (j many : ℕ) → rows xs k part plates j many ≡ rows ys k part plates j many
  unfolding rows
  same_rows k part plates j zero = refl
  same_rows k part plates j (suc many) =
      ap₂ {C = List ℕ} (λ r s. r ++ s) (ap (places k part) (same_nearest k (plate_at xs plates j) ∙ ap (nearest ys k) (same_plate plates j)))
      (same_rows k part plates (suc j) many)

  same_served : (plates : List ℤ) (k : ℕ) (part : Found → ℕ) (lent : List ℕ) → served xs plates k part lent ≡ served ys plates k part lent
  same_served plates k part lent = rw (a.wells, same_rows k part plates 0 (plates_in ys plates))

  same_sitting : (values k codes distances : ℕ) → judge (sitting_rules xs values k codes distances) ≡ judge (sitting_rules ys values k codes distances)
  unfolding sitting_rules plate_rules
  same_sitting values k codes distances =
      let e : plate_rules xs values k codes distances ≡ plate_rules ys values k codes distances = rw a.wells in
      image_accepted lx _ ∙ ap judge e ∙ sym (image_accepted ly _)

  same_within : (values codes distances : ℕ) → judge (within_rules xs values codes distances) ≡ judge (within_rules ys values codes distances)
  unfolding within_rules radius_rules
  same_within values codes distances =
      let e : radius_rules xs values codes distances ≡ radius_rules ys values codes distances = rw (a.wells, same_count) in
      image_accepted lx _ ∙ ap judge e ∙ sym (image_accepted ly _)

  -- a sitting gives one answer and one content of each slice
  pub tree_does_not_matter : (plates : List ℤ) (k : ℕ) (codes distances : List ℕ)
      → sitting_of xs plates k codes distances ≡ sitting_of ys plates k codes distances
  unfolding sitting_of
  tree_does_not_matter plates k codes distances = λ i.
      outcome (same_sitting (length plates) k (length codes) (length distances) i)
      (record {
        answer = given (min k (same_count i));
        codes = same_served plates k code_in codes i;
        distances = same_served plates k distance_in distances i;
      })
      codes distances

  -- and so does a search within a radius, but for how many profiles were measured
  pub tree_does_not_matter_within : (plate : List ℤ) (radius : ℕ) (codes distances : List ℕ)
      → Alike (within_of xs plate radius codes distances) (within_of ys plate radius codes distances)
  unfolding within_of
  tree_does_not_matter_within plate radius codes distances =
      rw (same_within (length plate) (length codes) (length distances))
      (alike (judge (within_rules ys (length plate) (length codes) (length distances))) codes distances
      (record {
        answer = ap (λ fs. given (length fs)) (same_near radius plate);
        codes = ap (λ fs. listed fs code_in codes) (same_near radius plate);
        distances = ap (λ fs. listed fs distance_in distances) (same_near radius plate);
      }))

-- a library and its filing form
module _ (xs : List ℕ) (b : Bytes xs) (l : Library xs) where
  pub filing_agrees : Agree xs (filing_form xs)
  filing_agrees = record {
    wells = sym (file_wells xs b l);
    metric = sym (file_metric xs b l);
    strain = λ s. ((file_same_strains xs b l s).1, (file_same_strains xs b l s).0);
  }

  pub filing_same_answers : (plates : List ℤ) (k : ℕ) (codes distances : List ℕ)
      → sitting_of xs plates k codes distances ≡ sitting_of (filing_form xs) plates k codes distances
  filing_same_answers = tree_does_not_matter b l (file_accepted xs b l) filing_agrees

  pub filing_same_within : (plate : List ℤ) (radius : ℕ) (codes distances : List ℕ)
      → Alike (within_of xs plate radius codes distances) (within_of (filing_form xs) plate radius codes distances)
  filing_same_within = tree_does_not_matter_within b l (file_accepted xs b l) filing_agrees

-- ---- a plate's places depend on the library, the plate and k alone

module _ (xs : List ℕ) (k : ℕ) (part : Found → ℕ) where
  -- plate j + i among the rows of the plates from j on
  rows_at : (plates : List ℤ) (rest : List ℕ) (j i many : ℕ) → i < many
      → take k (drop (i * k) (rows xs k part plates j many ++ rest)) ≡ places k part (nearest xs k (plate_at xs plates (j + i)))
  unfolding rows
  rows_at plates rest j i zero h = absurd (omega arith)
  rows_at plates rest j zero (suc many) h =
      let z : 0 * k ≡ 0 = omega arith in
      let s : j + 0 ≡ j = omega arith in
      let here = places k part (nearest xs k (plate_at xs plates j)) in
      rw (z, s, append_assoc here (rows xs k part plates (suc j) many) rest)
      (take_at here (rows xs k part plates (suc j) many ++ rest) k (nearest_places xs k (plate_at xs plates j) part))
  rows_at plates rest j (suc i) (suc many) h =
      let here = places k part (nearest xs k (plate_at xs plates j)) in
      let z : suc i * k ≡ length here + i * k = omega (arith, nearest_places xs k (plate_at xs plates j) part) in
      let s : j + suc i ≡ suc j + i = omega arith in
      rw (z, s, append_assoc here (rows xs k part plates (suc j) many) rest, drop-append-add here (rows xs k part plates (suc j) many ++ rest) (i * k))
      (rows_at plates rest (suc j) i many (omega arith))

  served_at : (plates : List ℤ) (lent : List ℕ) (j : ℕ) → j < plates_in xs plates
      → take k (drop (j * k) (served xs plates k part lent)) ≡ places k part (nearest xs k (plate_at xs plates j))
  served_at plates lent j h =
      rows_at plates (drop (plates_in xs plates * k) lent) 0 j (plates_in xs plates) h
      ∙ ap (λ (i : ℕ). places k part (nearest xs k (plate_at xs plates i))) (zero-add j)

-- in a sitting that is not refused
module _ (xs : List ℕ) (plates : List ℤ) (k : ℕ) (codes distances : List ℕ) (n : ℕ) (e : (sitting_of xs plates k codes distances).answer ≡ given n) where
  sitting_is : sitting_of xs plates k codes distances
      ≡ record { answer = given (min k (count_of xs)); codes = served xs plates k code_in codes; distances = served xs plates k distance_in distances }
  unfolding sitting_of
  sitting_is = (granted _ _ codes distances n e).1

  pub plate_alone : (j : ℕ) → j < plates_in xs plates
      → take k (drop (j * k) (sitting_of xs plates k codes distances).codes) ≡ places k code_in (nearest xs k (plate_at xs plates j))
  plate_alone j h = rw sitting_is (served_at xs k code_in plates codes j h)

  pub plate_alone_distances : (j : ℕ) → j < plates_in xs plates
      → take k (drop (j * k) (sitting_of xs plates k codes distances).distances) ≡ places k distance_in (nearest xs k (plate_at xs plates j))
  plate_alone_distances j h = rw sitting_is (served_at xs k distance_in plates distances j h)

-- one plate in two sittings, or at two places of one
module _ (xs : List ℕ) (k : ℕ) (plates plates' : List ℤ) (codes codes' distances distances' : List ℕ) (n n' : ℕ)
    (e : (sitting_of xs plates k codes distances).answer ≡ given n) (e' : (sitting_of xs plates' k codes' distances').answer ≡ given n')
    (j j' : ℕ) (h : j < plates_in xs plates) (h' : j' < plates_in xs plates') (same : plate_at xs plates j ≡ plate_at xs plates' j') where
  pub plate_twice :
      take k (drop (j * k) (sitting_of xs plates k codes distances).codes) ≡ take k (drop (j' * k) (sitting_of xs plates' k codes' distances').codes)
  plate_twice =
      plate_alone xs plates k codes distances n e j h
      ∙ ap (λ (p : List ℤ). places k code_in (nearest xs k p)) same
      ∙ sym (plate_alone xs plates' k codes' distances' n' e' j' h')

  pub plate_twice_distances :
      take k (drop (j * k) (sitting_of xs plates k codes distances).distances) ≡ take k (drop (j' * k) (sitting_of xs plates' k codes' distances').distances)
  plate_twice_distances =
      plate_alone_distances xs plates k codes distances n e j h
      ∙ ap (λ (p : List ℤ). places k distance_in (nearest xs k p)) same
      ∙ sym (plate_alone_distances xs plates' k codes' distances' n' e' j' h')

-- ---- which strains lie within a radius, and in what order

module _ (xs : List ℕ) (radius : ℕ) (plate : List ℤ) where
  -- exactly the strains no further than the radius
  pub near_exactly : (f : Found)
      → Memᴰ f (within_radius xs radius plate) ↔ ((s : Strain) × Memᴰ s (strains_of xs) × (f ≡ weighed (metric_of xs) plate s) × (f.distance ≤ radius))
  unfolding within_radius
  near_exactly f = (
    λ m. let i = inside_mem radius (ranked xs plate) m in let w = ranked_mem xs plate i.0 in (w.0, w.1, w.2, i.1),
    λ w. mem_inside radius (ranked xs plate) (Memᴰ.cast w.2 (mem_ranked xs plate w.1)) w.3,
  )

  pub near_ascending : Ascending rank (within_radius xs radius plate)
  unfolding within_radius
  near_ascending = inside_ascending radius (ranked_ascending xs plate)

  -- each once
  pub near_distinct : Bytes xs → Library xs → Distinct rank (within_radius xs radius plate)
  unfolding within_radius
  near_distinct b l = inside_distinct radius (ranked_distinct xs plate b l)

  -- and no other list is that
  pub near_only : Bytes xs → Library xs → {fs : List Found} → Ascending rank fs → Distinct rank fs
      → ((f : Found) → Memᴰ f fs ↔ ((s : Strain) × Memᴰ s (strains_of xs) × (f ≡ weighed (metric_of xs) plate s) × (f.distance ≤ radius)))
      → fs ≡ within_radius xs radius plate
  near_only b l up d exactly =
      ascending_one up near_ascending d (near_distinct b l) (λ f m. (near_exactly f).1 ((exactly f).0 m)) (λ f m. (exactly f).1 ((near_exactly f).0 m))

-- ---- the k nearest

-- some strains of a library are its k nearest to a plate: as many as there are, up to k, and each other strain has a higher rank, which is a
-- higher distance or, on a tie, a higher code (`rank_lower` in crates/ranking/proofs/Ranks.antt)
pub record Nearest (xs : List ℕ) (k : ℕ) (plate : List ℤ) (fs : List Found) : Type 0 where
  pub many : length fs ≡ min k (count_of xs)
  pub strain : (f : Found) → Memᴰ f fs → (s : Strain) × Memᴰ s (strains_of xs) × (f ≡ weighed (metric_of xs) plate s)
  pub order : Ascending rank fs
  pub once : Distinct rank fs
  pub others : (s : Strain) → Memᴰ s (strains_of xs) → (Memᴰ (weighed (metric_of xs) plate s) fs → ⊥)
      → (f : Found) → Memᴰ f fs → rank f < rank (weighed (metric_of xs) plate s)

module _ (xs : List ℕ) (k : ℕ) (plate : List ℤ) where
  -- the others stand behind them
  front : nearest xs k plate ++ drop k (ranked xs plate) ≡ ranked xs plate
  unfolding nearest
  front = take-append-drop k (ranked xs plate)

  nearest_ascending : Ascending rank (nearest xs k plate)
  nearest_ascending = ascending_front (nearest xs k plate) (drop k (ranked xs plate)) (rw front (ranked_ascending xs plate))

  nearest_mem : {f : Found} → Memᴰ f (nearest xs k plate) → Memᴰ f (ranked xs plate)
  nearest_mem m = rw front at (Memᴰ.append_left (drop k (ranked xs plate)) m)

  nearest_length : length (nearest xs k plate) ≡ min k (count_of xs)
  unfolding nearest
  nearest_length = length-take k (ranked xs plate) ∙ ap (min k) (ranked_length xs plate)

  module _ (b : Bytes xs) (l : Library xs) where
    pub nearest_exactly : Nearest xs k plate (nearest xs k plate)
    nearest_exactly = record {
      many = nearest_length;
      strain = λ f m. ranked_mem xs plate (nearest_mem m);
      order = nearest_ascending;
      once = distinct_front (nearest xs k plate) (drop k (ranked xs plate)) (rw front (ranked_distinct xs plate b l));
      others = λ s m out f n. above f n (outside s out (Memᴰ.append_cases (nearest xs k plate) (rw front (mem_ranked xs plate m))));
    }
      where
        outside : (s : Strain) → (Memᴰ (weighed (metric_of xs) plate s) (nearest xs k plate) → ⊥)
            → Memᴰ (weighed (metric_of xs) plate s) (nearest xs k plate) ⊎ Memᴰ (weighed (metric_of xs) plate s) (drop k (ranked xs plate))
            → Memᴰ (weighed (metric_of xs) plate s) (drop k (ranked xs plate))
        outside s out (inl m) = absurd (out m)
        outside s out (inr m) = m

        above : {g : Found} (f : Found) → Memᴰ f (nearest xs k plate) → Memᴰ g (drop k (ranked xs plate)) → rank f < rank g
        above f m n = omega (
          arith,
          ascending_below {key = rank} (nearest xs k plate) (drop k (ranked xs plate)) (rw front (ranked_ascending xs plate)) m n,
          distinct_apart {key = rank} (nearest xs k plate) (drop k (ranked xs plate)) (rw front (ranked_distinct xs plate b l)) m n,
        )

    -- and no other list is that
    pub nearest_only : {fs : List Found} → Nearest xs k plate fs → fs ≡ nearest xs k plate
    unfolding nearest
    nearest_only {fs} n =
        first_only k (ranked_ascending xs plate) (ranked_distinct xs plate b l) n.order n.once (n.many ∙ ap (min k) (sym (ranked_length xs plate)))
        (λ f m. let w = n.strain f m in Memᴰ.cast w.2 (mem_ranked xs plate w.1))
        (λ g m out f h. let w = ranked_mem xs plate m in rw w.2 (n.others w.0 w.1 (λ i. out (Memᴰ.cast w.2 i)) f h))

-- ---- the two searches agree

-- the distance of the last of a list
abbrev pub furthest : List Found → ℕ
furthest fs = worst (length fs) fs

ascending_at : {fs : List Found} → Ascending rank fs → (i j : ℕ) → i ≤ j → j < length fs → rank (get_or fs i no_found) ≤ rank (get_or fs j no_found)
ascending_at Ascending.none i j h l = absurd (omega arith)
ascending_at (Ascending.next low up) zero zero h l = omega arith
ascending_at (Ascending.next {xs = fs} low up) zero (suc j) h l = low (get_or fs j no_found) (mem_get_or fs j no_found (omega arith))
ascending_at (Ascending.next low up) (suc i) zero h l = absurd (omega arith)
ascending_at (Ascending.next low up) (suc i) (suc j) h l = ascending_at up i j (omega arith) (omega arith)

-- of a list in order, no other lies further
furthest_most : {fs : List Found} → Ascending rank fs → ((f : Found) → Memᴰ f fs → f.code < 4294967296)
    → (f : Found) → Memᴰ f fs → f.distance ≤ furthest fs
furthest_most {fs} up fits f m =
    let w = get_or_mem no_found m in
    let last : length fs - 1 < length fs = omega (arith, w.1) in
    rank_nearer f (get_or fs (length fs - 1) no_found) (fits _ (mem_get_or fs (length fs - 1) no_found last))
    (rw (← w.2) (ascending_at up w.0 (length fs - 1) (omega (arith, w.1)) last))

-- the k nearest are the first of those within the distance of the last of them
pub searches_agree : (xs : List ℕ) → Bytes xs → Library xs → (k : ℕ) (plate : List ℤ)
    → take (min k (count_of xs)) (within_radius xs (furthest (nearest xs k plate)) plate) ≡ nearest xs k plate
unfolding within_radius
searches_agree xs b l k plate =
    let first = nearest xs k plate in
    let rest = drop k (ranked xs plate) in
    let close = furthest_most (nearest_ascending xs k plate) (λ f m. ranked_codes xs plate b l (nearest_mem xs k plate m)) in
    let inner : inside (furthest first) first ≡ first = inside_all (furthest first) first close in
    ap (λ (fs : List Found). take (min k (count_of xs)) (inside (furthest first) fs)) (sym (front xs k plate))
    ∙ ap (take (min k (count_of xs))) (inside_append (furthest first) first rest ∙ ap (λ (fs : List Found). fs ++ inside (furthest first) rest) inner)
    ∙ take_at first (inside (furthest first) rest) (min k (count_of xs)) (nearest_length xs k plate)

-- ---- a radius that no distance exceeds

or_true : (t : Bool) → (t || true) ≡ true
or_true true = refl
or_true false = refl

module _ (xs : List ℕ) (b : Bytes xs) (l : Library xs) (plate : List ℤ) (p : Profile (wells_of xs) plate) (radius : ℕ) (wide : 1048560 ≤ radius) where
  strain_within : {s : Strain} → Memᴰ s (strains_of xs) → (weighed (metric_of xs) plate s).distance ≤ radius
  unfolding weighed
  strain_within m = omega (arith, distance_most (metric_of xs) (wells_of xs) l.layout.wells.1 ((library_strains xs b l).profile m) p)

  pub within_all : within_radius xs radius plate ≡ ranked xs plate
  unfolding within_radius
  within_all = inside_all radius (ranked xs plate) (λ f m. let w = ranked_mem xs plate m in rw w.2 (strain_within w.1))

  pub within_all_count : length (within_radius xs radius plate) ≡ count_of xs
  within_all_count = ap length within_all ∙ ranked_length xs plate

  opened : (v : ℕ) → v < count_of xs → opens (found_at xs plate) (reach_at xs) radius v ≡ true
  unfolding opens found_at
  opened v h = le-leb (found_at xs plate v).distance (radius + reach_at xs v) (omega (arith, strain_within (record_strain xs v h)))

  -- every record reaches the root
  measured_in_lem : {k q : ℕ} → Below (tree_of xs) (root_of xs) k q → (generations : ℕ) → k ≤ generations → measured_in xs radius plate generations q ≡ true
  unfolding measured_in
  measured_in_lem self zero h = eq-eqb (root_of xs) (root_of xs) refl
  measured_in_lem self (suc generations) h = rw (eq-eqb (root_of xs) (root_of xs) refl)
  measured_in_lem (child o w) zero h = absurd (omega arith)
  measured_in_lem (child {q = q} o w) (suc generations) h =
      rw (opened (parent_at xs q) (l.layout.parent q o.node), measured_in_lem w generations (omega arith)) (or_true (eqb q (root_of xs)))

  all_measured : (i : ℕ) → i < count_of xs → is_measured xs radius plate i ≡ true
  unfolding is_measured
  all_measured i h = let w = library_way l i h in measured_in_lem w.1 21 w.2

  measured_from_lem : (i many : ℕ) → i + many ≤ count_of xs → measured_from xs radius plate i many ≡ many
  unfolding measured_from
  measured_from_lem i zero h = refl
  measured_from_lem i (suc many) h = rw (all_measured i (omega arith), measured_from_lem (suc i) many (omega arith)) (omega arith)

  pub within_all_measured : measured_count xs radius plate ≡ count_of xs
  unfolding measured_count
  within_all_measured = measured_from_lem 0 (count_of xs) (omega arith)
