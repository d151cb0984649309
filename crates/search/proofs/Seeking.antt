-- The nearest search of one plate: what it has kept, and that the rest of the walk leads to the nearest strains. Assumes nothing.
use mathlib.Core.Path.{◌≡◌, refl, sym, ap, ◌∙◌, subst}
use mathlib.Core.List.{List, [], map, nil≢cons}
use Prim.Native.Nat.{ℕ, ◌+◌, ◌*◌, ◌-◌, ◌≤◌, ◌<◌}
use native.Mathlib.Decide.{ℕ_discrete}
use native.Mathlib.Omega.{arith}
use lib.IntN.{ℤ}
use lib.ListN.{length, get_or, length-map, drop_of_length-le, get_or-map}
use Rattle.ranking.specs.Sort.{itself}
use Rattle.ranking.specs.Found.{Found, rank, distance_of}
use Rattle.ranking.specs.First.{offered}
use Rattle.ranking.specs.Best.{best_of, bound_of}
use Rattle.ranking.specs.declared.best.Best.{Best}
use Rattle.ranking.proofs.First.{offered_map}
use Rattle.ranking.proofs.Places.{mem_get_or}
use Rattle.ranking.proofs.Ranks.{rank_distance}
use Rattle.ranking.proofs.Running.{bound_room, bound_full}
use Rattle.image.specs.Fields.{wells_of, code_at}
use Rattle.image.specs.Library.{Library}
use Rattle.content.specs.Bytes.{Bytes}
use Rattle.walk.specs.Forest.{Forest, none, grow, nodes, join, after, forest_of}
use Rattle.walk.specs.Walk.{no_found, worst, walk}
use Rattle.walk.specs.Weighed.{weighed, found_at, reach_at}
use Rattle.walk.specs.Meeting.{Past, MeetsOne, MeetsNone}
use Rattle.walk.specs.declared.passage.Met.{Met}
use Rattle.walk.proofs.Places.{Standing, standing, nodes_after}
use Rattle.walk.proofs.Passing.{passing_none}
use Rattle.walk.proofs.Forests.{forest_length}
use Rattle.walk.proofs.Walks.{Keeping, keeping_none, keeping_offered, met_open, walk_into, walk_passing}
use Rattle.walk.proofs.Going.{Leads, leads_none, leads_on, leads_into, leads_passing}
use Rattle.search.specs.Ranked.{nearest}
use Rattle.search.proofs.Scans.{found_code, walk_is_scan}
use Rattle.search.proofs.Reached.{met_in}

-- a list of found strains, as a running list holds it
pub record Keeps (k : ℕ) (best : Best) (kept : List Found) : Type 0 where
  pub is_best : best ≡ best_of k (map rank kept)
  pub keeping : Keeping k kept

-- before the first record nothing is kept
keeps_none : {k : ℕ} {best : Best} → best ≡ best_of k [] → Keeps k best []
keeps_none {k} e = record { is_best = e; keeping = keeping_none k }

-- its bound
keeps_bound : {k : ℕ} {best : Best} {kept : List Found} → Keeps k best kept → bound_of best.asked best.kept ≡ bound_of k (map rank kept)
keeps_bound h = ap (λ (c : Best). bound_of c.asked c.kept) h.is_best

module _ (xs : List ℕ) (plate : List ℤ) (k : ℕ) where
  abbrev goes : Forest → List Found → List Found
  goes = walk (found_at xs plate) (reach_at xs) k

  -- the search stands at a place of the walk, with what it has kept: walked on with the rest, that is what walking all keeps, and the steps that the
  -- walk's `trace` has from here on are those that are left of all its steps
  pub record Stands (rest : Forest) (kept : List Found) : Type 0 where
    pub keeps_all : goes rest kept ≡ goes (forest_of xs) []
    pub steps : Leads (found_at xs plate) (reach_at xs) k (forest_of xs) [] rest kept

  pub record Seeking (best : Best) (place : ℕ) : Type 0 where
    pub kept : List Found
    pub keeps : Keeps k best kept
    pub stands : Stands (after place (forest_of xs)) kept

  pub seeks_none : {best : Best} → best ≡ best_of k [] → Seeking best 0
  unfolding after
  seeks_none e = record { kept = []; keeps = keeps_none e; stands = record { keeps_all = refl; steps = leads_none _ _ k (forest_of xs) [] } }

  -- where no record is left, the list stays
  walked_all : (rest : Forest) (kept : List Found) → nodes rest ≡ [] → goes rest kept ≡ kept
  unfolding walk nodes
  walked_all none kept e = refl
  walked_all (grow v below behind) kept e = absurd (nil≢cons (sym e))

module _ {xs : List ℕ} (b : Bytes xs) (l : Library xs) {plate : List ℤ} {k : ℕ} (some : 1 ≤ k) {best : Best} {from : ℕ} (s : Seeking xs plate k best from)
    {bound : ℕ} (is : bound ≡ bound_of best.asked best.kept) where
  -- the bound is the worst distance kept, where k are kept
  bound_open : length s.kept < k → bound ≡ 4294967295
  bound_open room = is ∙ keeps_bound s.keeps ∙ bound_room k (map rank s.kept) (omega (arith, length-map s.kept rank))

  bound_worst : length s.kept ≡ k → bound ≡ worst k s.kept
  bound_worst full =
      let code = s.keeps.keeping.coded.fits (get_or s.kept (k - 1) no_found) (mem_get_or s.kept (k - 1) no_found (omega arith)) in
      is
      ∙ keeps_bound s.keeps
      ∙ bound_full k (map rank s.kept) (length-map s.kept rank ∙ full)
      ∙ ap distance_of (get_or-map rank s.kept (k - 1) no_found)
      ∙ rank_distance (get_or s.kept (k - 1) no_found) code

  -- what is passed by does not change the list
  passes_by : {place many : ℕ} → Past xs plate bound from place many → Stands xs plate k (after place (forest_of xs)) s.kept
  passes_by {place} p = go (ℕ_discrete (length s.kept) k)
    where
      go : Dec (length s.kept ≡ k) → Stands xs plate k (after place (forest_of xs)) s.kept
      go (yes full) =
          let worst_is : worst k s.kept ≡ bound = sym (bound_worst full) in
          record {
            keeps_all = sym (walk_passing (found_at xs plate) (reach_at xs) k bound s.kept p.passing s.keeps.keeping full some worst_is) ∙ s.stands.keeps_all;
            steps = leads_on _ _ k s.stands.steps (leads_passing (found_at xs plate) (reach_at xs) k bound s.kept p.passing s.keeps.keeping full some worst_is);
          }
      go (no room) =
          subst (λ (f : Forest). Stands xs plate k f s.kept)
          (passing_none p.passing (p.all (omega (arith, bound_open (omega (arith, room, s.keeps.keeping.room)))))) s.stands

  -- a strain is met and offered, and the search goes on behind it
  module _ {measured to measured' : ℕ} {met : Met} (m : MeetsOne xs plate bound from measured to measured' met) where
    walks_on : Stands xs plate k (after to (forest_of xs)) (offered rank k (found_at xs plate met.node) s.kept)
    walks_on =
        let t : Standing (forest_of xs) m.place = standing (forest_of xs) m.place (omega (arith, forest_length l, m.low)) in
        let here : after m.place (forest_of xs) ≡ grow met.node t.below t.behind = t.stands ∙ ap (λ (v : ℕ). grow v t.below t.behind) (sym m.is_node) in
        let there : after to (forest_of xs) ≡ join t.below t.behind = ap (λ (i : ℕ). after i (forest_of xs)) (omega (arith, m.is_to)) ∙ t.stepped in
        let near : length s.kept ≡ k → (found_at xs plate met.node).distance ≤ worst k s.kept =
        λ full. omega (arith, bound_worst full, m.near, m.is_distance) in
        let goesIn = met_open (found_at xs plate) (reach_at xs) k met.node s.kept s.keeps.keeping some (found_code b l plate met.node (met_in l m)) near in
        let at = rw here at (passes_by m.past) in
        rw there (record {
          keeps_all = sym (walk_into (found_at xs plate) (reach_at xs) k met.node t.below t.behind s.kept goesIn) ∙ at.keeps_all;
          steps = leads_on _ _ k at.steps (leads_into (found_at xs plate) (reach_at xs) k met.node t.below t.behind s.kept goesIn);
        })

    module _ {code r : ℕ} (is_code : code ≡ code_at xs met.node) (is_rank : r ≡ met.distance * 4294967296 + code) where
      found_code_is : (found_at xs plate met.node).code ≡ code_at xs met.node
      unfolding found_at weighed
      found_code_is = refl

      rank_is : r ≡ rank (found_at xs plate met.node)
      rank_is = omega (arith, m.is_distance, is_rank, is_code, found_code_is)

      pub seeks_on : {best' : Best} → best' ≡ best_of best.asked (offered itself best.asked r best.kept) → Seeking xs plate k best' to
      seeks_on e = record {
        kept = offered rank k (found_at xs plate met.node) s.kept;
        keeps = record {
          is_best =
              e
              ∙ ap (λ (c : Best). best_of c.asked (offered itself c.asked r c.kept)) s.keeps.is_best
              ∙ ap (λ (q : ℕ). best_of k (offered itself k q (map rank s.kept))) rank_is
              ∙ ap (best_of k) (sym (offered_map rank itself k (found_at xs plate met.node) s.kept));
          keeping = keeping_offered (found_at xs plate met.node) (found_code b l plate met.node (met_in l m)) s.keeps.keeping;
        };
        stands = walks_on;
      }

  -- no more is met
  pub sought : {measured to measured' : ℕ} → length plate ≡ wells_of xs → MeetsNone xs plate bound from measured to measured'
      → best ≡ best_of k (map rank (nearest xs k plate))
  sought {to = to} fits m =
      let nothing : nodes (after to (forest_of xs)) ≡ [] =
      nodes_after to (forest_of xs) ∙ drop_of_length-le (nodes (forest_of xs)) {i = to} (omega (arith, forest_length l, m.is_to)) in
      s.keeps.is_best
      ∙ ap (λ (fs : List Found). best_of k (map rank fs))
      (sym (walked_all xs plate k (after to (forest_of xs)) s.kept nothing) ∙ (passes_by m.past).keeps_all ∙ walk_is_scan b l plate fits k some)
