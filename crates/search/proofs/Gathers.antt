-- The walk within a radius, one record a turn: what is gathered, and what is left. Assumes nothing.
use mathlib.Core.Path.{◌≡◌, refl, sym, ap, transport, ◌∙◌}
use mathlib.Core.List.{List, [], ◌∷◌, ◌++◌, map, map-append, append-nil}
use Prim.Native.Nat.{ℕ, suc, ◌+◌, ◌*◌, ◌≤◌, ◌<◌}
use native.Mathlib.Numerals.{add-one}
use native.Mathlib.Omega.{arith}
use lib.IntN.{ℤ}
use lib.ListN.{length, get_or, drop, set, length-append, length-map, drop_of_length-le}
use lib.Seq.{drop-cons, set_at, append_snoc}
use Rattle.ranking.specs.Found.{Found, rank}
use Rattle.image.specs.Fields.{wells_of, count_of, code_at}
use Rattle.image.specs.Library.{Library}
use Rattle.walk.specs.declared.passage.Met.{Met}
use Rattle.walk.specs.Forest.{Forest, none, grow, nodes, join, after, forest_of}
use Rattle.walk.specs.Walk.{Reaching, measures, within, Passing}
use Rattle.walk.specs.Weighed.{weighed, found_at, reach_at}
use Rattle.walk.specs.Meeting.{Past, MeetsOne, MeetsNone}
use Rattle.walk.proofs.Places.{Standing, standing, nodes_join, nodes_after, under_after}
use Rattle.walk.proofs.Passing.{passing_within, passing_measures, passing_length, met_within, met_measures}
use Rattle.walk.proofs.Forests.{forest_reaching, forest_length}
use Rattle.search.specs.Steps.{Gathers}

-- a record walked, one less is left
grow_length : (v : ℕ) (below behind : Forest) → length (nodes (grow v below behind)) ≡ suc (length (nodes (join below behind)))
unfolding nodes
grow_length v below behind = rw nodes_join

-- of a forest a rest is left: the ranks of what was met stand in front of a list, and what was measured is counted
pub record Gathering (found : ℕ → Found) (reach : ℕ → ℕ) (radius : ℕ) (whole : Forest) (before ranks : List ℕ) (left : Forest)
    (strains measured : ℕ) : Type 0 where
  pub met : List ℕ
  pub is_ranks : ranks ≡ map (λ i. rank (found i)) met ++ drop strains before
  pub is_strains : length met ≡ strains
  pub is_met : within found reach radius (nodes whole) ≡ met ++ within found reach radius (nodes left)
  pub is_measured : length (measures found reach radius whole) ≡ measured + length (measures found reach radius left)
  pub few : strains ≤ measured
  pub room : measured + length (nodes left) ≤ length (nodes whole)

measures_none : (found : ℕ → Found) (reach : ℕ → ℕ) (radius : ℕ) (left : Forest) → length (nodes left) ≡ 0 → length (measures found reach radius left) ≡ 0
unfolding nodes measures
measures_none found reach radius none e = refl
measures_none found reach radius (grow v below behind) e = absurd (omega arith)

module _ {found : ℕ → Found} {reach : ℕ → ℕ} {radius : ℕ} {whole : Forest} {before : List ℕ} where
  gathering_none : Gathering found reach radius whole before before whole 0 0
  gathering_none = record {
    met = [];
    is_ranks = refl;
    is_strains = refl;
    is_met = refl;
    is_measured = omega arith;
    few = omega arith;
    room = omega arith;
  }

  -- past records outside the radius
  gathering_past : {ranks : List ℕ} {left rest : Forest} {strains measured many : ℕ} → Reaching found reach left → Passing found reach radius left many rest
      → Gathering found reach radius whole before ranks left strains measured
      → Gathering found reach radius whole before ranks rest strains (measured + many)
  gathering_past r p g = record {
    met = g.met;
    is_ranks = g.is_ranks;
    is_strains = g.is_strains;
    is_met = g.is_met ∙ ap (λ (vs : List ℕ). g.met ++ vs) (passing_within r p);
    is_measured = omega (arith, g.is_measured, passing_measures p);
    few = omega (arith, g.few);
    room = omega (arith, g.room, passing_length p);
  }

  -- a record inside it
  gathering_one : {ranks : List ℕ} {strains measured : ℕ} (v : ℕ) (below behind : Forest) → (found v).distance ≤ radius → length (nodes whole) ≤ length before
      → Gathering found reach radius whole before ranks (grow v below behind) strains measured
      → Gathering found reach radius whole before (set ranks strains (rank (found v))) (join below behind) (strains + 1) (measured + 1)
  gathering_one {ranks} {strains} {measured} v below behind near h g = record {
    met = g.met ++ v ∷ [];
    is_ranks = written;
    is_strains = simp length-append (omega (arith, g.is_strains));
    is_met =
        g.is_met
        ∙ ap (λ (vs : List ℕ). g.met ++ vs) (met_within found reach radius v below behind near)
        ∙ sym (append_snoc g.met v (within found reach radius (nodes (join below behind))));
    is_measured = omega (arith, g.is_measured, met_measures found reach radius v below behind near);
    few = omega (arith, g.few);
    room = omega (arith, g.room, grow_length v below behind);
  }
    where
      front : List ℕ
      front = map (λ i. rank (found i)) g.met

      written : set ranks strains (rank (found v)) ≡ map (λ i. rank (found i)) (g.met ++ v ∷ []) ++ drop (strains + 1) before
      written =
          let low : strains < length before = omega (arith, g.few, g.room, grow_length v below behind) in
          let many : length front ≡ strains = length-map g.met (λ i. rank (found i)) ∙ g.is_strains in
          let rest = drop (suc strains) before in
          let at : set (front ++ get_or before strains 0 ∷ rest) strains (rank (found v)) ≡ front ++ rank (found v) ∷ rest =
          set_at front (get_or before strains 0) rest (rank (found v)) strains many in
          rw (g.is_ranks, drop-cons before strains 0 low, at, map-append, add-one) (sym (append_snoc front (rank (found v)) rest))

-- the same of a library's tree, by the place where the walk goes on
abbrev pub GatheringAt : List ℕ → List ℤ → (radius : ℕ) → (before ranks : List ℕ) → (place strains measured : ℕ) → Type 0
GatheringAt xs plate radius before ranks place strains measured =
    Gathering (found_at xs plate) (reach_at xs) radius (forest_of xs) before ranks (after place (forest_of xs)) strains measured

pub gather_none : (xs : List ℕ) (plate : List ℤ) (radius : ℕ) (before : List ℕ) → GatheringAt xs plate radius before before 0 0 0
unfolding after
gather_none xs plate radius before = gathering_none

module _ {xs : List ℕ} {plate : List ℤ} {radius : ℕ} {before ranks : List ℕ} {from strains measured : ℕ} (l : Library xs)
    (fits : length plate ≡ wells_of xs) (h : count_of xs ≤ length before) (g : GatheringAt xs plate radius before ranks from strains measured) where
  past : {place many : ℕ} → Past xs plate radius from place many → GatheringAt xs plate radius before ranks place strains (measured + many)
  past p = gathering_past (under_after from (forest_reaching l plate fits)) p.passing g

  module _ {to measured' : ℕ} {met : Met} (m : MeetsOne xs plate radius from measured to measured' met) where
    -- a record within the radius is met, and its rank is written
    pub gather_more : {code rank' : ℕ} → code ≡ code_at xs met.node → rank' ≡ met.distance * 4294967296 + code
        → GatheringAt xs plate radius before (set ranks strains rank') to (strains + 1) measured'
    unfolding found_at weighed
    gather_more {code} {rank'} is_code is_rank =
        transport
        (λ i. Gathering (found_at xs plate) (reach_at xs) radius (forest_of xs) before (set ranks strains (same i)) (next i) (strains + 1) (many i))
        (gathering_one met.node s.below s.behind (omega (arith, m.is_distance, m.near)) (omega (arith, forest_length l)) stood)
      where
        s : Standing (forest_of xs) m.place
        s = standing (forest_of xs) m.place (omega (arith, forest_length l, m.low))

        stood : Gathering (found_at xs plate) (reach_at xs) radius (forest_of xs) before ranks (grow met.node s.below s.behind) strains (measured + m.many)
        stood = rw (m.is_node, ← s.stands) (past m.past)

        next : join s.below s.behind ≡ after to (forest_of xs)
        next = sym s.stepped ∙ ap (λ (i : ℕ). after i (forest_of xs)) (omega (arith, m.is_to))

        same : rank (found_at xs plate met.node) ≡ rank'
        same = rw (is_rank, is_code, m.is_distance)

        many : measured + m.many + 1 ≡ measured'
        many = sym m.is_measured

  -- no more is met
  pub gather_end : {to measured' : ℕ} → MeetsNone xs plate radius from measured to measured'
      → Gathers xs plate radius before ranks (record { strains = strains; measured = measured' })
  unfolding within
  gather_end {to} {measured'} m = record {
    ranks = rw all at.is_ranks;
    strains = rw all (sym at.is_strains);
    few = omega (arith, forest_length l, at.few, at.room);
    measured = omega (arith, m.is_measured, at.is_measured, measures_none (found_at xs plate) (reach_at xs) radius (after to (forest_of xs)) (ap length nothing));
  }
    where
      at : GatheringAt xs plate radius before ranks to strains (measured + m.many)
      at = past m.past

      nothing : nodes (after to (forest_of xs)) ≡ []
      nothing = nodes_after to (forest_of xs) ∙ drop_of_length-le (nodes (forest_of xs)) {i = to} (omega (arith, forest_length l, m.is_to))

      all : within (found_at xs plate) (reach_at xs) radius (nodes (forest_of xs)) ≡ at.met
      all = at.is_met ∙ ap (λ (vs : List ℕ). at.met ++ within (found_at xs plate) (reach_at xs) radius vs) nothing ∙ append-nil at.met
