-- What the walk within a radius meets, in order of rank, is what the definition lists. Assumes nothing.
use mathlib.Core.Path.{◌≡◌, refl, sym, ap, ◌∙◌}
use mathlib.Core.Bool.{Bool, true, false, cond}
use mathlib.Core.List.{List, [], ◌∷◌, ◌++◌, map, map-map, Memᴰ}
use Prim.Native.Nat.{ℕ, ◌≤◌, ◌<◌}
use lib.Dec.{leb}
use lib.IntN.{ℤ}
use lib.ListN.{length, take, drop, length-map}
use lib.Seq.{take_at, length-take-le}
use Rattle.ranking.specs.Sort.{itself, sort_by}
use Rattle.ranking.specs.Found.{Found, rank, distance_of, code_of}
use Rattle.ranking.proofs.Ranks.{rank_distance, rank_code}
use Rattle.ranking.proofs.Sorted.{sort_length, sort_map}
use Rattle.image.specs.Library.{Library}
use Rattle.content.specs.Bytes.{Bytes}
use Rattle.walk.specs.Forest.{nodes, forest_of}
use Rattle.walk.specs.Walk.{within}
use Rattle.walk.specs.Weighed.{found_at, reach_at}
use Rattle.walk.proofs.Measured.{measures_counted}
use Rattle.search.specs.Ranked.{ranked, inside, within_radius}
use Rattle.search.specs.Calls.{code_in, distance_in, listed}
use Rattle.search.specs.Steps.{Gathers, Lists}
use Rattle.search.specs.declared.Tally.{Tally}
use Rattle.search.proofs.Lists.{inside_mem, inside_sort, ranked_codes}
use Rattle.search.proofs.Scans.{walked_ranked}

-- the records within a radius, as they are found
within_inside : (found : ℕ → Found) (reach : ℕ → ℕ) (radius : ℕ) (vs : List ℕ)
    → map found (within found reach radius vs) ≡ inside radius (map found vs)
unfolding within inside
within_inside found reach radius [] = refl
within_inside found reach radius (v ∷ vs) = go (within_inside found reach radius vs) (leb (found v).distance radius)
  where
    go : map found (within found reach radius vs) ≡ inside radius (map found vs) → (t : Bool)
        → map found (cond t (v ∷ within found reach radius vs) (within found reach radius vs))
        ≡ cond t (found v ∷ inside radius (map found vs)) (inside radius (map found vs))
    go e true = ap (λ (fs : List Found). found v ∷ fs) e
    go e false = e

-- a part of each rank in front of a list, written in front of another
module _ (part : ℕ → ℕ) (is : Found → ℕ) where
  pub parts : (fs : List Found) → ((f : Found) → Memᴰ f fs → part (rank f) ≡ is f) → map part (map rank fs) ≡ map is fs
  parts [] same = refl
  parts (f ∷ fs) same = cc (same f (Memᴰ.head refl), parts fs (λ g m. same g (Memᴰ.tail m)))

  part_written : (fs : List Found) → ((f : Found) → Memᴰ f fs → part (rank f) ≡ is f) → {ranks : List ℕ} → ranks ≡ map rank fs → (lent : List ℕ)
      → map part ranks ++ drop (length ranks) lent ≡ listed fs is lent
  part_written fs same e lent = rw (e, parts fs same, length-map)

module _ {xs : List ℕ} (plate : List ℤ) (b : Bytes xs) (l : Library xs) (radius : ℕ) where
  abbrev met : List ℕ
  met = within (found_at xs plate) (reach_at xs) radius (nodes (forest_of xs))

  -- what it meets, in order of rank, is what a scan of all strains gives
  pub within_is_scan : sort_by rank (map (found_at xs plate) met) ≡ within_radius xs radius plate
  unfolding within_radius
  within_is_scan =
      ap (sort_by rank) (within_inside (found_at xs plate) (reach_at xs) radius (nodes (forest_of xs)))
      ∙ sym (inside_sort radius (map (found_at xs plate) (nodes (forest_of xs))))
      ∙ ap (inside radius) (walked_ranked b l plate)

  ranks_sorted : sort_by itself (map (λ i. rank (found_at xs plate i)) met) ≡ map rank (within_radius xs radius plate)
  ranks_sorted =
      ap (sort_by itself) (sym (map-map rank (found_at xs plate) met)) ∙ sym (sort_map rank itself (map (found_at xs plate) met)) ∙ ap (map rank) within_is_scan

  near_length : length (within_radius xs radius plate) ≡ length met
  near_length = sym (ap length within_is_scan) ∙ sort_length rank (map (found_at xs plate) met) ∙ length-map met (found_at xs plate)

  near_code : {f : Found} → Memᴰ f (within_radius xs radius plate) → f.code < 4294967296
  unfolding within_radius
  near_code m = ranked_codes xs plate b l (inside_mem radius (ranked xs plate) m).0

  -- what is met, gathered, sorted and written
  pub gathered_lists : {before ranks sorted codes distances codes' distances' : List ℕ} {tally : Tally} → Gathers xs plate radius before ranks tally
      → tally.strains ≤ length ranks
      → sorted ≡ sort_by itself (take tally.strains ranks) ++ drop tally.strains ranks
      → codes' ≡ map code_of (take tally.strains sorted) ++ drop (length (take tally.strains sorted)) codes
      → distances' ≡ map distance_of (take tally.strains sorted) ++ drop (length (take tally.strains sorted)) distances
      → Lists xs plate radius codes distances codes' distances' tally
  gathered_lists {before} {ranks} {sorted} {codes} {distances} {tally = tally} g many isSorted is_codes is_distances = record {
    is_codes = is_codes ∙ part_written code_of code_in near (λ f m. rank_code f (near_code m)) sorted_is codes;
    is_distances = is_distances ∙ part_written distance_of distance_in near (λ f m. rank_distance f (near_code m)) sorted_is distances;
    strains = g.strains ∙ sym near_length;
    measured = g.measured ∙ measures_counted l radius plate;
  }
    where
      near : List Found
      near = within_radius xs radius plate

      front : take tally.strains ranks ≡ map (λ i. rank (found_at xs plate i)) met
      front =
          rw g.ranks
          (take_at (map (λ i. rank (found_at xs plate i)) met) (drop tally.strains before) tally.strains
          (length-map met (λ i. rank (found_at xs plate i)) ∙ sym g.strains))

      long : length (sort_by itself (take tally.strains ranks)) ≡ tally.strains
      long = sort_length itself (take tally.strains ranks) ∙ length-take-le tally.strains ranks many

      sorted_is : take tally.strains sorted ≡ map rank near
      sorted_is =
          ap (take tally.strains) isSorted ∙ take_at (sort_by itself (take tally.strains ranks)) (drop tally.strains ranks) tally.strains long
          ∙ ap (sort_by itself) front ∙ ranks_sorted
