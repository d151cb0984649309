-- Every strain is weighed in every match: what the nearest search does with each record of a library, and why it may.
-- Two things are proved. The list that every sitting must hand back is the first k of all strains weighed: the sitting's contract says it, and names no
-- tree (`SittingGives`, by `nearest` in specs/Ranked.antt). And the walk that the code goes by, `trace` in crates/walk/specs/Walk.antt, measures each
-- record or passes it over for a reason that rules it out: that is said here. What a function measures cannot be seen from outside, so no contract names
-- `trace`. That the code goes by it stands in the proof of `nearest::nearest`: its loop carries `Stands` (Seeking.antt), by which the steps that `trace`
-- has from the loop's place on, with what is kept there, are those that are left of all steps. `seeks_none` is the loop's start, `seeks_on` is its turn,
-- and `sought` is its end. Assumes nothing.
use mathlib.Core.Path.{◌≡◌, sym, ap, ◌∙◌}
use mathlib.Core.List.Memᴰ
use mathlib.Core.List.{List, [], map, Memᴰ}
use Prim.Native.Nat.{ℕ, ◌+◌, ◌≤◌}
use native.Mathlib.Omega.{arith}
use lib.IntN.{ℤ}
use lib.ListN.{length, length-map}
use Rattle.ranking.specs.Found.{Found, rank}
use Rattle.ranking.proofs.First.{offers_first}
use Rattle.image.specs.Fields.{wells_of, metric_of, count_of}
use Rattle.image.specs.Library.{Library}
use Rattle.image.proofs.Strains.{strain_record}
use Rattle.content.specs.Bytes.{Bytes}
use Rattle.walk.specs.Forest.{nodes, forest_of}
use Rattle.walk.specs.Walk.{Step, measured, passed, record_of, measured_of, passed_of, walk}
use Rattle.walk.specs.Weighed.{weighed, found_at, reach_at}
use Rattle.walk.proofs.Forests.{forest_distinct, forest_all, forest_in, forest_length, forest_below, forest_reaching}
use Rattle.walk.proofs.Walks.{keeping_none}
use Rattle.walk.proofs.Traces.{trace_all, steps_counted, trace_offers, trace_passed}
use Rattle.search.specs.Ranked.{nearest}
use Rattle.search.specs.Weighing.{steps_of, PassedOver, EveryStrainWeighed}
use Rattle.search.proofs.Scans.{walked_coded, walk_is_scan}
use Rattle.search.proofs.Theorems.{nearest_exactly}

module _ (xs : List ℕ) (b : Bytes xs) (l : Library xs) (plate : List ℤ) (fits : length plate ≡ wells_of xs) (k : ℕ) (some : 1 ≤ k) where
  records : map record_of (steps_of xs plate k) ≡ nodes (forest_of xs)
  records = trace_all (found_at xs plate) (reach_at xs) k (forest_of xs) []

  final_list : walk (found_at xs plate) (reach_at xs) k (forest_of xs) [] ≡ nearest xs k plate
  final_list = walk_is_scan b l plate fits k some

  passed_over : (under : ℕ) (kept : List Found) (u : ℕ) → Memᴰ (passed under kept u) (steps_of xs plate k) → PassedOver xs plate k under kept u
  passed_over under kept u m =
      let none = keeping_none k in
      let p =
      trace_passed (found_at xs plate) (reach_at xs) k (forest_of xs) [] (forest_reaching l plate fits) (forest_below l) (walked_coded b l plate)
      none.ascends none.room none.coded some under kept u m in
      record {
        is_measured = p.is_measured;
        hangs = p.hangs;
        full = p.full;
        further = p.further;
        beyond = λ f n. p.beyond f (rw final_list n);
      }

  pub every_strain_weighed : EveryStrainWeighed xs plate k
  every_strain_weighed = record {
    all = λ i h. rw records (forest_all l i h);
    only = λ i m. forest_in l i (rw records at m);
    once = rw records (forest_distinct l);
    many = sym (length-map (steps_of xs plate k) record_of) ∙ ap length records ∙ forest_length l;
    reason = passed_over;
    final = sym (offers_first rank k _) ∙ trace_offers (found_at xs plate) (reach_at xs) k (forest_of xs) [] ∙ final_list;
  }

  -- the strains measured and those passed over are as many as there are
  pub measured_and_passed : length (measured_of (steps_of xs plate k)) + length (passed_of (steps_of xs plate k)) ≡ count_of xs
  measured_and_passed = steps_counted (steps_of xs plate k) ∙ every_strain_weighed.many

  -- a strain among the k nearest is a measured one
  pub listed_is_measured : (f : Found) → Memᴰ f (nearest xs k plate) → (i : ℕ) × Memᴰ (measured i) (steps_of xs plate k) × (found_at xs plate i ≡ f)
  unfolding found_at
  listed_is_measured f m =
      let w = (nearest_exactly xs k plate b l).strain f m in
      let r = strain_record xs w.1 in
      let t = Memᴰ.of_map record_of (steps_of xs plate k) (every_strain_weighed.all r.0 r.1) in
      let is : found_at xs plate r.0 ≡ f = ap (weighed (metric_of xs) plate) r.2 ∙ sym w.2 in
      by t.0 t.1 t.2 is
    where
      -- were it passed over, it would lie beyond itself
      by : {i : ℕ} (s : Step) → Memᴰ s (steps_of xs plate k) → record_of s ≡ i → found_at xs plate i ≡ f
          → (i : ℕ) × Memᴰ (measured i) (steps_of xs plate k) × (found_at xs plate i ≡ f)
      by (measured v) n e is = (v, n, ap (found_at xs plate) e ∙ is)
      by (passed under kept u) n e is =
          let same : (found_at xs plate u).distance ≡ f.distance = ap (λ (g : Found). g.distance) (ap (found_at xs plate) e ∙ is) in
          absurd (omega (arith, same, (every_strain_weighed.reason under kept u n).beyond f m))
