-- The walk down an accepted library's tree meets its strains, each once: in order they are the scan of all strains. Assumes nothing.
use mathlib.Core.Path.{◌≡◌, refl, sym, ap, ◌∙◌}
use mathlib.Core.List.{List, [], map, Memᴰ}
use mathlib.Core.List.Memᴰ
use Prim.Native.Nat.{ℕ, ◌≤◌, ◌<◌}
use native.Mathlib.Omega.{arith}
use lib.IntN.{ℤ}
use lib.ListN.{length, take}
use Rattle.ranking.specs.Sort.{itself, sort_by}
use Rattle.ranking.specs.Order.{Distinct}
use Rattle.ranking.specs.Found.{Found, rank}
use Rattle.ranking.specs.First.{first_k}
use Rattle.ranking.proofs.Places.{mem_get_or}
use Rattle.ranking.proofs.Sorted.{sort_only_by_set}
use Rattle.image.specs.Fields.{wells_of, metric_of, count_of, code_at}
use Rattle.image.specs.Strains.{Strain, strain_at, strains_of}
use Rattle.image.specs.Library.{Library}
use Rattle.image.proofs.Strains.{strains_length, strain_is, strain_record}
use Rattle.content.specs.Bytes.{Bytes}
use Rattle.content.proofs.Filing.{library_strains}
use Rattle.walk.specs.Forest.{nodes, forest_of}
use Rattle.walk.specs.Walk.{walk}
use Rattle.walk.specs.Weighed.{weighed, found_at, reach_at}
use Rattle.walk.proofs.Forests.{forest_distinct, forest_all, forest_in, forest_reaching}
use Rattle.walk.proofs.Walks.{Coded, walk_first}
use Rattle.search.specs.Ranked.{ranked, nearest}
use Rattle.search.proofs.Lists.{weighed_distinct, library_codes}

nobody : Strain
nobody = record { code = 0; profile = [] }

module _ (xs : List ℕ) where
  -- a record's strain is one of the library's
  pub record_strain : (i : ℕ) → i < count_of xs → Memᴰ (strain_at xs i) (strains_of xs)
  record_strain i h = Memᴰ.cast (sym (strain_is xs i nobody h)) (mem_get_or (strains_of xs) i nobody (omega (arith, strains_length xs)))

module _ {xs : List ℕ} (b : Bytes xs) (l : Library xs) where
  module _ (plate : List ℤ) where
    pub found_code : (i : ℕ) → i < count_of xs → (found_at xs plate i).code < 4294967296
    unfolding found_at weighed
    found_code i h = (library_strains xs b l).code_fits (record_strain xs i h)

    pub walked_coded : Coded (map (found_at xs plate) (nodes (forest_of xs)))
    walked_coded = record { fits = λ f m. fits f (Memᴰ.of_map (found_at xs plate) (nodes (forest_of xs)) m) }
      where
        fits : (f : Found) → (i : ℕ) × Memᴰ i (nodes (forest_of xs)) × (found_at xs plate i ≡ f) → f.code < 4294967296
        fits f w = rw (← w.2) (found_code w.0 (forest_in l w.0 w.1))

    -- records that differ have ranks that differ
    found_distinct : {is : List ℕ} → Distinct itself is → ((i : ℕ) → Memᴰ i is → i < count_of xs) → Distinct rank (map (found_at xs plate) is)
    unfolding found_at weighed
    found_distinct Distinct.none low = Distinct.none
    found_distinct (Distinct.next {x = i} {xs = is} other d) low =
        Distinct.next (λ f m. apart f (Memᴰ.of_map (found_at xs plate) is m)) (found_distinct d (λ j m. low j (Memᴰ.tail m)))
      where
        apart : (f : Found) → (j : ℕ) × Memᴰ j is × (found_at xs plate j ≡ f) → rank (found_at xs plate i) ≡ rank f → ⊥
        apart f w e =
            let hi : i < count_of xs = low i (Memᴰ.head refl) in
            let hj : w.0 < count_of xs = low w.0 (Memᴰ.tail w.1) in
            let same : rank (found_at xs plate i) ≡ rank (found_at xs plate w.0) = e ∙ sym (ap rank w.2) in
            let code : code_at xs i ≡ code_at xs w.0 = omega (arith, same, found_code i hi, found_code w.0 hj) in
            other w.0 w.1 (l.layout.codes i w.0 hi hj code)

    pub walked_ranked : sort_by rank (map (found_at xs plate) (nodes (forest_of xs))) ≡ ranked xs plate
    unfolding ranked found_at
    walked_ranked =
        sort_only_by_set (found_distinct (forest_distinct l) (forest_in l))
        (weighed_distinct (metric_of xs) plate (library_codes l) (λ s m. (library_strains xs b l).code_fits m))
        (λ f m. there f (Memᴰ.of_map (found_at xs plate) (nodes (forest_of xs)) m))
        (λ f m. back f (Memᴰ.of_map (weighed (metric_of xs) plate) (strains_of xs) m))
      where
        there : (f : Found) → (i : ℕ) × Memᴰ i (nodes (forest_of xs)) × (found_at xs plate i ≡ f) → Memᴰ f (map (weighed (metric_of xs) plate) (strains_of xs))
        there f w = Memᴰ.cast (sym w.2) (Memᴰ.map (weighed (metric_of xs) plate) (record_strain xs w.0 (forest_in l w.0 w.1)))

        back : (f : Found) → (s : Strain) × Memᴰ s (strains_of xs) × (weighed (metric_of xs) plate s ≡ f) → Memᴰ f (map (found_at xs plate) (nodes (forest_of xs)))
        back f w =
            let r = strain_record xs w.1 in
            Memᴰ.cast (sym w.2 ∙ ap (weighed (metric_of xs) plate) (sym r.2)) (Memᴰ.map (found_at xs plate) (forest_all l r.0 r.1))

    -- what the walk of the nearest search keeps in the end is what a scan of all strains gives
    pub walk_is_scan : length plate ≡ wells_of xs → (k : ℕ) → 1 ≤ k → walk (found_at xs plate) (reach_at xs) k (forest_of xs) [] ≡ nearest xs k plate
    unfolding nearest first_k
    walk_is_scan fits k some = walk_first (found_at xs plate) (reach_at xs) k (forest_reaching l plate fits) walked_coded some ∙ ap (take k) walked_ranked
