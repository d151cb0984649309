-- A step of the walk over the tree laid out. Assumes nothing.
use mathlib.Core.Path.{◌≡◌, refl, sym, ◌∙◌, ap, subst}
use mathlib.Core.Bool.{Bool, true, false, cond}
use mathlib.Core.List.{List}
use Prim.Native.Nat.{ℕ, suc, ◌+◌, ◌-◌, ◌≤◌, ◌<◌}
use native.Mathlib.Numerals.{add-one}
use native.Mathlib.Omega.{arith}
use borrow.Author.Tests.{lt-ltb, le-leb, lt-leb, leb-true, leb-false}
use lib.Dec.{ltb, leb}
use lib.IntN.{ℤ}
use lib.ListN.{length, get_or, length-map}
use Rattle.std.proofs.lemmas.List.{get_or-map}
use lib.Pow.{pow_pos}
use Rattle.ranking.proofs.Places.{mem_get_or}
use Rattle.profile.specs.Bytes.{wells_at}
use Rattle.profile.specs.Distance.{distance}
use Rattle.profile.specs.Level.{cover_limit, reach}
use Rattle.profile.proofs.Levels.{cover_byte}
use Rattle.image.specs.Fields.{wells_of, metric_of, count_of, level_byte_at, level_at, profile_start, profile_at}
use Rattle.image.specs.Library.{Library}
use Rattle.walk.specs.Forest.{Forest, grow, nodes, ends, after, forest_of}
use Rattle.walk.specs.Walk.{opens, Passing, here, into, over}
use Rattle.walk.specs.Weighed.{weighed, found_at, reach_at}
use Rattle.walk.specs.LaidOut.{LaidOut}
use Rattle.walk.specs.Meeting.{Past}
use Rattle.walk.specs.declared.step.Step.{Step}
use Rattle.walk.proofs.Places.{Standing, standing}
use Rattle.walk.proofs.Forests.{forest_in, forest_length}

-- further by less than the cover limit is further by no more than the reach
module _ (xs : List ℕ) (node limit more place behind : ℕ) (e : limit ≡ cover_limit (level_at xs node)) where
  pub goes_in : more < limit → place + 1 ≡ cond (leb more (reach_at xs node)) (place + 1) behind
  unfolding reach_at reach
  goes_in h = rw (le-leb more (cover_limit (level_at xs node) - 1) (omega (arith, e))) refl

  pub goes_past : limit ≤ more → behind ≡ cond (leb more (reach_at xs node)) (place + 1) behind
  unfolding reach_at reach
  goes_past h =
      let some : 1 ≤ limit = omega (arith, e, cover_byte (level_byte_at xs node), pow_pos (level_byte_at xs node)) in
      rw (lt-leb more (cover_limit (level_at xs node) - 1) (omega (arith, e))) refl

module _ {xs : List ℕ} {steps : List Step} (l : Library xs) (laid : LaidOut xs steps) where
  pub as_many : length steps ≡ count_of xs
  as_many = sym (length-map steps (λ (s : Step). s.node)) ∙ ap length laid.is_order ∙ forest_length l

  pub past_none : (plate : List ℤ) (bound from : ℕ) → Past xs plate bound from from 0
  past_none plate bound from = record { passing = here; onward = omega arith; all = λ _. refl }

  -- a step of the walk
  module _ (place : ℕ) (step : Step) (low : place < length steps) (is : step ≡ get_or steps place step) where
    stands : Standing (forest_of xs) place
    stands = standing (forest_of xs) place (omega (arith, as_many, forest_length l))

    pub node_is : step.node ≡ get_or (nodes (forest_of xs)) place 0
    node_is =
        ap (λ (s : Step). s.node) is
        ∙ sym (get_or-map (λ (s : Step). s.node) steps place step 0 low)
        ∙ ap (λ (vs : List ℕ). get_or vs place 0) laid.is_order

    behind_is : step.behind ≡ get_or (ends 0 (forest_of xs)) place 0
    behind_is =
        ap (λ (s : Step). s.behind) is
        ∙ sym (get_or-map (λ (s : Step). s.behind) steps place step 0 low)
        ∙ ap (λ (vs : List ℕ). get_or vs place 0) laid.is_end

    pub node_in : step.node < count_of xs
    node_in = rw node_is (forest_in l _ (mem_get_or (nodes (forest_of xs)) place 0 (omega (arith, as_many, forest_length l))))

    -- past it, where it lies beyond the bound: to its children, or past them
    module _ (plate : List ℤ) (bound from distance : ℕ) {many : ℕ} (past : Past xs plate bound from place many)
        (is_far : distance ≡ (found_at xs plate step.node).distance) (most : distance ≤ 1048560) (beyond : bound < distance) where
      stood : Passing (found_at xs plate) (reach_at xs) bound (after from (forest_of xs)) many (grow step.node stands.below stands.behind)
      stood =
          subst (λ (f : Forest). Passing (found_at xs plate) (reach_at xs) bound (after from (forest_of xs)) many f)
          (stands.stands ∙ ap (λ (v : ℕ). grow v stands.below stands.behind) (sym node_is)) past.passing

      further : ltb bound (found_at xs plate step.node).distance ≡ true
      further = lt-ltb bound (found_at xs plate step.node).distance (omega (arith, is_far))

      -- the same test as the definition's
      opened_by : (t : Bool) → leb (distance - bound) (reach_at xs step.node) ≡ t → opens (found_at xs plate) (reach_at xs) bound step.node ≡ t
      unfolding opens
      opened_by true q = le-leb (found_at xs plate step.node).distance (bound + reach_at xs step.node) (omega (arith, is_far, leb-true (distance - bound) (reach_at xs step.node) q))
      opened_by false q = lt-leb (found_at xs plate step.node).distance (bound + reach_at xs step.node) (omega (arith, is_far, leb-false (distance - bound) (reach_at xs step.node) q))

      past_at : {rest : Forest} (to : ℕ) → place < to → Passing (found_at xs plate) (reach_at xs) bound (after from (forest_of xs)) (suc many) rest
          → after to (forest_of xs) ≡ rest → Past xs plate bound from to (many + 1)
      past_at to on p e = record { passing = rw (add-one, e) p; onward = omega (arith, past.onward); all = λ h. absurd (omega arith) }

      by_test : (t : Bool) → leb (distance - bound) (reach_at xs step.node) ≡ t → let to = cond t (place + 1) step.behind in
          (place < to) × (to ≤ length steps) × Past xs plate bound from to (many + 1)
      by_test true q = (
        omega arith,
        omega arith,
        past_at (place + 1) (omega arith) (into stood further (opened_by true q)) (rw add-one stands.stepped),
      )
      by_test false q = (
        omega (arith, behind_is, stands.onward),
        omega (arith, behind_is, stands.fits, as_many, forest_length l),
        past_at step.behind (omega (arith, behind_is, stands.onward)) (over stood further (opened_by false q))
            (ap (λ (i : ℕ). after i (forest_of xs)) behind_is ∙ stands.skipped),
      )

      pub past_on : {to : ℕ} → to ≡ cond (leb (distance - bound) (reach_at xs step.node)) (place + 1) step.behind
          → (place < to) × (to ≤ length steps) × Past xs plate bound from to (many + 1)
      past_on e = rw e (by_test (leb (distance - bound) (reach_at xs step.node)) refl)

-- a record's distance, as it is measured
pub far_is : (xs : List ℕ) (plate : List ℤ) (node : ℕ) {metric at wells count d : ℕ} → metric ≡ metric_of xs → wells ≡ wells_of xs → count ≡ count_of xs
    → at ≡ profile_start count wells node → d ≡ distance metric (wells_at xs at wells) plate → d ≡ (found_at xs plate node).distance
unfolding found_at weighed profile_at
far_is xs plate node m w n s e = cc
