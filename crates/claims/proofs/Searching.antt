-- Demand 2, the searches: each plate gets its true nearest strains, and within a radius exactly the strains inside it. Assumes nothing.
use Rattle.std.specs.Prelude.{Ok}
use Rattle.search.specs.Answer.{counted}
use mathlib.Core.Path.{◌≡◌, refl, sym, ◌∙◌, ap}
use mathlib.Core.Bool.{true}
use mathlib.Core.List.{List, ◌++◌, map}
use Prim.Native.Nat.{ℕ, ◌*◌, ◌<◌}
use lib.IntN.{ℤ}
use lib.ListN.{length, take, drop}
use lib.Seq.{drop_at}
use borrow.Author.Tests.{leb-true, le-leb}
use Rattle.ranking.specs.Found.{Found}
use Rattle.ranking.proofs.Ranks.{rank_lower, lower_rank}
use Rattle.tree.specs.Tree.{Below, self, child}
use Rattle.image.specs.Fields.{metric_of, root_of}
use Rattle.image.specs.Library.{tree_of, Library}
use Rattle.image.specs.Verdict.{accepted, judge}
use Rattle.image.specs.Answer.{given}
use Rattle.image.proofs.Trees.{library_way}
use Rattle.image.proofs.Verdicts.{judge_both}
use Rattle.checker.specs.Check.{check_rules, check_of}
use Rattle.checker.proofs.Accepted.{accepted_exactly}
use Rattle.content.specs.Bytes.{Bytes}
use Rattle.content.proofs.Filing.{library_strains}
use Rattle.walk.specs.Forest.{forest_of}
use Rattle.walk.specs.Walk.{opens, measures}
use Rattle.walk.specs.Weighed.{weighed, found_at, reach_at}
use Rattle.walk.specs.Measured.{is_measured, measured_count}
use Rattle.walk.proofs.Measured.{root_measured, other_measured, measured_exactly, measures_once, measures_counted}
use Rattle.search.specs.declared.Tally.{Tally}
use Rattle.search.specs.Ranked.{nearest, within_radius, plates_in, plate_at, rows}
use Rattle.search.specs.Rules.{sitting_rules, within_rules}
use Rattle.search.specs.Calls.{code_in, distance_in, sat, sitting_of, listed, around, within_of, SittingGives, WithinGives}
use Rattle.search.proofs.Outcomes.{granted}
use Rattle.search.proofs.Serves.{rows_length}
use Rattle.search.proofs.Theorems.{nearest_exactly, nearest_only, near_exactly, near_only, near_ascending, near_distinct, plate_alone, plate_alone_distances}
use Rattle.search.proofs.Weighing.{every_strain_weighed}
use Rattle.claims.specs.Demand2.{StrainOf, NearestStrains, StrainsWithin, Measured, SittingHas, WithinHas, Searching}
use Rattle.claims.proofs.Parts.{told_is, codes_are, distances_are}
use Rattle.claims.proofs.Inputs.{both_true}
use Rattle.claims.proofs.NotRefused.{served, gathered}
use Rattle.claims.proofs.InOrder.{Coded, in_order, order_ascending, order_distinct}

-- a code of a library has 32 bits
strain_code_lem : {image : List ℕ} → Bytes image → Library image → (plate : List ℤ) {f : Found} → StrainOf image plate f → f.code < 4294967296
unfolding weighed
strain_code_lem {image} b l plate s = rw s.2 ((library_strains image b l).code_fits s.1)

-- ---- the sitting

module _ (image : List ℕ) (b : Bytes image) (l : Library image) (k : ℕ) (plate : List ℤ) where
  nearest_strains : NearestStrains image k plate (nearest image k plate)
  nearest_strains =
      let n = nearest_exactly image k plate b l in
      record {
        many = n.many;
        strain = n.strain;
        order = in_order (λ f m. strain_code_lem b l plate (n.strain f m)) n.order n.once;
        others = λ g s out f m.
            rank_lower f g (strain_code_lem b l plate (n.strain f m)) (strain_code_lem b l plate s)
            (rw s.2 (n.others s.0 s.1 (λ q. out (rw s.2 q)) f m));
      }

module _ (image : List ℕ) (plates : List ℤ) (k : ℕ) (codes distances : List ℕ) (filled : ℕ) (codes' distances' : List ℕ) (b : Bytes image)
    (e : SittingGives image plates k codes distances (Ok filled) codes' distances') where
  told : (sitting_of image plates k codes distances).answer ≡ given filled
  told = sym (told_is e)

  sitting_granted : (judge (sitting_rules image (length plates) k (length codes) (length distances)) ≡ accepted) × (sitting_of image plates k codes distances ≡ sat image plates k codes distances)
  unfolding sitting_of
  sitting_granted = granted _ (sat image plates k codes distances) codes distances filled told

  sat_is : record { answer = given filled; codes = codes'; distances = distances' } ≡ sat image plates k codes distances
  sat_is = e ∙ sitting_granted.1

  sat_library : Library image
  unfolding sitting_rules check_of
  sat_library = (accepted_exactly image).0 (judge_both (check_rules image) _ sitting_granted.0).0

  sitting_has : SittingHas image plates k codes distances filled codes' distances'
  sitting_has = record {
    library = sat_library;
    count = let z = told_is sat_is in cc;
    plate = λ j h. (
      nearest image k (plate_at image plates j),
      nearest_strains image b sat_library k (plate_at image plates j),
      ap (λ o. take k (drop (j * k) o.codes)) e ∙ plate_alone image plates k codes distances filled told j h,
      ap (λ o. take k (drop (j * k) o.distances)) e ∙ plate_alone_distances image plates k codes distances filled told j h,
    );
    codes_stay = ap (λ o. drop (plates_in image plates * k) o.codes) sat_is ∙ drop_at (rows image k code_in plates 0 (plates_in image plates)) (drop (plates_in image plates * k) codes) _ (rows_length image plates k code_in 0 (plates_in image plates));
    distances_stay = ap (λ o. drop (plates_in image plates * k) o.distances) sat_is ∙ drop_at (rows image k distance_in plates 0 (plates_in image plates)) (drop (plates_in image plates * k) distances) _ (rows_length image plates k distance_in 0 (plates_in image plates));
  }

-- ---- within a radius

module _ (image : List ℕ) (b : Bytes image) (l : Library image) (radius : ℕ) (plate : List ℤ) where
  strains_within : StrainsWithin image radius plate (within_radius image radius plate)
  strains_within = record {
    exactly = λ f. (
      λ m. let w = (near_exactly image radius plate f).0 m in ((w.0, w.1, w.2), w.3),
      λ w. (near_exactly image radius plate f).1 (w.0.0, w.0.1, w.0.2, w.1),
    );
    order = in_order (λ f m. let w = (near_exactly image radius plate f).0 m in strain_code_lem b l plate (w.0, w.1, w.2)) (near_ascending image radius plate)
        (near_distinct image radius plate b l);
  }

  -- the rule on what is measured, as a test and as document 01 says it
  measured_by : {k i : ℕ} → Below (tree_of image) (root_of image) k i → is_measured image radius plate i ≡ true → Measured image radius plate i
  unfolding opens found_at reach_at weighed
  measured_by self e = Measured.root
  measured_by (child {q = i} o w) e =
      let both = both_true _ _ (sym (other_measured l radius plate i o.node o.not_root) ∙ e) in
      Measured.child o (measured_by w both.1) (leb-true _ _ both.0)

  by_measured : {i : ℕ} → Measured image radius plate i → is_measured image radius plate i ≡ true
  unfolding opens found_at reach_at weighed
  by_measured Measured.root = root_measured image radius plate
  by_measured (Measured.child {i = i} o m h) = other_measured l radius plate i o.node o.not_root ∙ rw (le-leb _ _ h, by_measured m) refl

module _ (image : List ℕ) (plate : List ℤ) (radius : ℕ) (codes distances : List ℕ) (many measured : ℕ) (codes' distances' : List ℕ) (b : Bytes image)
    (e : WithinGives image plate radius codes distances (counted many measured) codes' distances') where
  within_granted : (judge (within_rules image (length plate) (length codes) (length distances)) ≡ accepted) × (within_of image plate radius codes distances ≡ around image plate radius codes distances)
  unfolding within_of
  within_granted = granted _ (around image plate radius codes distances) codes distances _ (sym (told_is e))

  around_is : record { answer = given (record { strains = many; measured = measured }); codes = codes'; distances = distances' } ≡ around image plate radius codes distances
  around_is = e ∙ within_granted.1

  around_library : Library image
  unfolding within_rules check_of
  around_library = (accepted_exactly image).0 (judge_both (check_rules image) _ within_granted.0).0

  counts_are : ◌≡◌ {A = Tally} (record { strains = many; measured = measured }) (record { strains = length (within_radius image radius plate); measured = measured_count image radius plate })
  counts_are = let z = told_is around_is in cc

  many_is : many ≡ length (within_radius image radius plate)
  many_is = ap (λ (c : Tally). c.strains) counts_are

  listed_is : (part : Found → ℕ) (lent lent' : List ℕ) → lent' ≡ listed (within_radius image radius plate) part lent → lent' ≡ map part (within_radius image radius plate) ++ drop many lent
  listed_is part lent lent' h = h ∙ ap (λ n. map part (within_radius image radius plate) ++ drop n lent) (sym many_is)

  within_has : WithinHas image plate radius codes distances many measured codes' distances'
  within_has = record {
    library = around_library;
    inside = (
      within_radius image radius plate,
      strains_within image b around_library radius plate,
      many_is,
      listed_is code_in codes codes' (codes_are around_is),
      listed_is distance_in distances distances' (distances_are around_is),
    );
    profiles = (
      measures (found_at image plate) (reach_at image) radius (forest_of image),
      measures_once around_library radius plate,
      (λ i. (
        λ m. let w = (measured_exactly around_library radius plate i).0 m in
            (w.0, measured_by image b around_library radius plate (library_way around_library i w.0).1 w.1),
        λ w. (measured_exactly around_library radius plate i).1 (w.0, by_measured image b around_library radius plate w.1),
      )),
      ap (λ (c : Tally). c.measured) counts_are ∙ sym (measures_counted around_library radius plate),
    );
  }

-- ---- the words leave one list

within_one : (image : List ℕ) → Bytes image → Library image → (radius : ℕ) (plate : List ℤ) (fs gs : List Found)
    → StrainsWithin image radius plate fs → StrainsWithin image radius plate gs → fs ≡ gs
within_one image b l radius plate fs gs p q = only fs p ∙ sym (only gs q)
  where
    only : (hs : List Found) → StrainsWithin image radius plate hs → hs ≡ within_radius image radius plate
    only hs w =
        let fits : Coded hs = λ f m. strain_code_lem b l plate ((w.exactly f).0 m).0 in
        near_only image radius plate b l (order_ascending fits w.order) (order_distinct fits w.order)
        (λ f. (λ m. let e = (w.exactly f).0 m in (e.0.0, e.0.1, e.0.2, e.1), λ e. (w.exactly f).1 ((e.0, e.1, e.2), e.3)))

nearest_one : (image : List ℕ) → Bytes image → Library image → (k : ℕ) (plate : List ℤ) (fs gs : List Found)
    → NearestStrains image k plate fs → NearestStrains image k plate gs → fs ≡ gs
nearest_one image b l k plate fs gs p q = only fs p ∙ sym (only gs q)
  where
    only : (hs : List Found) → NearestStrains image k plate hs → hs ≡ nearest image k plate
    only hs n =
        let fits : Coded hs = λ f m. strain_code_lem b l plate (n.strain f m) in
        nearest_only image k plate b l (record {
          many = n.many;
          strain = n.strain;
          order = order_ascending fits n.order;
          once = order_distinct fits n.order;
          others = λ s m out f i.
              lower_rank f (weighed (metric_of image) plate s) (fits f i) (strain_code_lem b l plate (s, m, refl)) (n.others (weighed (metric_of image) plate s) (s, m, refl) out f i);
        })

-- ---- the demand

pub searching : Searching
searching = record {
  served = served;
  nearest = sitting_has;
  nearest_one = nearest_one;
  gathered = gathered;
  within = within_has;
  within_one = within_one;
  every_strain = λ image b l plate fits k some. every_strain_weighed image b l plate fits k some;
}
