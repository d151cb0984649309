-- The walk within a radius measures what document 01's rule says. Assumes nothing.
use mathlib.Core.Path.{◌≡◌, refl, sym, ap, ap₂, ◌∙◌}
use mathlib.Core.Logic.{◌≢◌, ◌↔◌}
use mathlib.Core.Bool.{Bool, true, false, cond, ◌&&◌}
use mathlib.Core.List.Memᴰ
use mathlib.Core.List.{List, [], ◌∷◌, ◌++◌, Memᴰ}
use Prim.Native.Nat.{ℕ, zero, suc, ◌≤◌, ◌<◌}
use native.Mathlib.Omega.{arith}
use lib.IntN.{ℤ}
use lib.ListN.{length}
use borrow.Author.Tests.{eq-eqb, ne_eqb}
use Rattle.ranking.specs.Found.{Found}
use Rattle.ranking.specs.Sort.{itself}
use Rattle.ranking.specs.Order.{Distinct}
use Rattle.tree.specs.Tree.{Below, self, child}
use Rattle.image.specs.Fields.{count_of, root_of, parent_at}
use Rattle.image.specs.Library.{tree_of, Library}
use Rattle.image.specs.Strains.{each}
use Rattle.image.proofs.Trees.{library_way}
use Rattle.walk.specs.Forest.{Forest, nodes, children_from, siblings, below_of, forest_of}
use Rattle.walk.specs.Walk.{opens, measures}
use Rattle.walk.specs.Weighed.{found_at, reach_at}
use Rattle.walk.specs.Measured.{measured_in, is_measured, measured_from, measured_count}
use Rattle.walk.proofs.Children.{child_of}
use Rattle.walk.proofs.Forests.{forest_distinct, forest_all, forest_in}
use Rattle.walk.proofs.Counting.{counted, counted_all, picked, picked_append, picked_length, picked_mem, mem_picked, picked_distinct}

module _ (xs : List ℕ) (radius : ℕ) (plate : List ℤ) where
  root_in_lem : (generations : ℕ) → measured_in xs radius plate generations (root_of xs) ≡ true
  unfolding measured_in
  root_in_lem zero = eq-eqb (root_of xs) (root_of xs) refl
  root_in_lem (suc generations) = rw (eq-eqb (root_of xs) (root_of xs) refl)

  other_in : (generations i : ℕ) → i ≢ root_of xs → measured_in xs radius plate (suc generations) i
      ≡ (opens (found_at xs plate) (reach_at xs) radius (parent_at xs i) && measured_in xs radius plate generations (parent_at xs i))
  unfolding measured_in
  other_in generations i ne = rw (ne_eqb i (root_of xs) ne)

  -- looking further than the root changes nothing
  enough : (k generations i : ℕ) → k ≤ generations → Below (tree_of xs) (root_of xs) k i
      → measured_in xs radius plate generations i ≡ measured_in xs radius plate k i
  enough zero generations i h self = root_in_lem generations ∙ sym (root_in_lem zero)
  enough (suc k) zero i h b = absurd (omega arith)
  enough (suc k) (suc generations) i h (child o b) =
      rw (other_in generations i o.not_root, other_in k i o.not_root, enough k generations (parent_at xs i) (omega arith) b)

  enough_above : (k i : ℕ) → i ≢ root_of xs → k ≤ 21 → Below (tree_of xs) (root_of xs) k i
      → measured_in xs radius plate 20 (parent_at xs i) ≡ measured_in xs radius plate 21 (parent_at xs i)
  enough_above zero i ne h self = absurd (ne refl)
  enough_above (suc k) i ne h (child o b) =
      enough k 20 (parent_at xs i) (omega arith) b ∙ sym (enough k 21 (parent_at xs i) (omega arith) b)

  -- the rule as document 01 says it
  pub root_measured : is_measured xs radius plate (root_of xs) ≡ true
  unfolding is_measured
  root_measured = root_in_lem 21

pub other_measured : {xs : List ℕ} → Library xs → (radius : ℕ) (plate : List ℤ) (i : ℕ) → i < count_of xs → i ≢ root_of xs
    → is_measured xs radius plate i ≡ (opens (found_at xs plate) (reach_at xs) radius (parent_at xs i) && is_measured xs radius plate (parent_at xs i))
unfolding is_measured
other_measured {xs} l radius plate i h ne =
    let w = library_way l i h in
    other_in xs radius plate 20 i ne
    ∙ ap (λ (b : Bool). opens (found_at xs plate) (reach_at xs) radius (parent_at xs i) && b) (enough_above xs radius plate w.0 i ne w.2 w.1)

-- the walk measures what a test holds of, where the test holds of what hangs below a record only if that is opened
module _ (found : ℕ → Found) (reach : ℕ → ℕ) (radius : ℕ) (test : ℕ → Bool) (below : ℕ → Forest)
    (further : (c : ℕ) → picked test (nodes (below c)) ≡ cond (opens found reach radius c && test c) (measures found reach radius (below c)) []) where
  family : (c : ℕ) (b : Bool) → test c ≡ b
      → picked test (c ∷ nodes (below c)) ≡ cond b (c ∷ cond (opens found reach radius c) (measures found reach radius (below c)) []) []
  unfolding picked
  family c b e = rw e (go (opens found reach radius c) b (rw e at (further c)))
    where
      go : (t b : Bool) → picked test (nodes (below c)) ≡ cond (t && b) (measures found reach radius (below c)) []
          → cond b (c ∷ picked test (nodes (below c))) (picked test (nodes (below c))) ≡ cond b (c ∷ cond t (measures found reach radius (below c)) []) []
      go true true h = ap (λ (us : List ℕ). c ∷ us) h
      go false true h = ap (λ (us : List ℕ). c ∷ us) h
      go true false h = h
      go false false h = h

  -- siblings are all measured, or none of them is
  families : (b : Bool) (cs : List ℕ) → ((c : ℕ) → Memᴰ c cs → test c ≡ b)
      → picked test (nodes (siblings below cs)) ≡ cond b (measures found reach radius (siblings below cs)) []
  unfolding picked nodes measures siblings
  families true [] same = refl
  families false [] same = refl
  families true (c ∷ cs) same =
      picked_append test (c ∷ nodes (below c)) (nodes (siblings below cs))
      ∙ ap₂ {C = List ℕ} (λ us vs. us ++ vs) (family c true (same c (Memᴰ.head refl))) (families true cs (λ d m. same d (Memᴰ.tail m)))
  families false (c ∷ cs) same =
      picked_append test (c ∷ nodes (below c)) (nodes (siblings below cs))
      ∙ ap₂ {C = List ℕ} (λ us vs. us ++ vs) (family c false (same c (Memᴰ.head refl))) (families false cs (λ d m. same d (Memᴰ.tail m)))

-- the count over all records
counted_each : (xs : List ℕ) (radius : ℕ) (plate : List ℤ) (i many : ℕ)
    → counted (is_measured xs radius plate) (each itself i many) ≡ measured_from xs radius plate i many
unfolding counted each measured_from
counted_each xs radius plate i zero = refl
counted_each xs radius plate i (suc many) = rw (counted_each xs radius plate (suc i) many)

module _ {xs : List ℕ} (l : Library xs) (radius : ℕ) (plate : List ℤ) where
  abbrev test : ℕ → Bool
  test = is_measured xs radius plate

  abbrev opened : ℕ → Bool
  opened v = opens (found_at xs plate) (reach_at xs) radius v && test v

  abbrev measured_below : Forest → List ℕ
  measured_below forest = measures (found_at xs plate) (reach_at xs) radius forest

  -- what hangs below a record is measured as the walk does if the record is measured and opened, and not at all otherwise
  below_picked : (generations v : ℕ) → picked test (nodes (below_of generations xs v)) ≡ cond (opened v) (measured_below (below_of generations xs v)) []
  unfolding picked nodes measures below_of
  below_picked zero v = go (opened v)
    where
      go : (b : Bool) → ◌≡◌ {A = List ℕ} [] (cond b [] [])
      go true = refl
      go false = refl
  below_picked (suc generations) v =
      families (found_at xs plate) (reach_at xs) radius test (below_of generations xs) (below_picked generations) (opened v) (children_from xs v 0 (count_of xs))
      (λ c m. let h = child_of xs v m in rw h.is_parent at (other_measured l radius plate c h.other.node h.other.not_root))

  -- what the walk measures is what the rule holds of, in the order of the walk
  measures_picked : picked test (nodes (forest_of xs)) ≡ measures (found_at xs plate) (reach_at xs) radius (forest_of xs)
  unfolding siblings forest_of
  measures_picked =
      families (found_at xs plate) (reach_at xs) radius test (below_of 21 xs) (below_picked 21) true (root_of xs ∷ [])
      (λ c m. ap test (Memᴰ.eq_of_singleton m) ∙ root_measured xs radius plate)

  -- so it measures exactly the records that the rule holds of
  pub measured_exactly : (i : ℕ)
      → Memᴰ i (measures (found_at xs plate) (reach_at xs) radius (forest_of xs)) ↔ ((i < count_of xs) × (is_measured xs radius plate i ≡ true))
  measured_exactly i = (
    λ m. let w = picked_mem test (nodes (forest_of xs)) (rw (← measures_picked) at m) in (forest_in l i w.0, w.1),
    λ w. rw (← measures_picked) (mem_picked test (nodes (forest_of xs)) (forest_all l i w.0) w.1),
  )

  -- each once
  pub measures_once : Distinct itself (measures (found_at xs plate) (reach_at xs) radius (forest_of xs))
  measures_once = rw (← measures_picked) (picked_distinct test (forest_distinct l))

  -- and as many
  pub measures_counted : length (measures (found_at xs plate) (reach_at xs) radius (forest_of xs)) ≡ measured_count xs radius plate
  unfolding measured_count
  measures_counted =
      ap length (sym measures_picked)
      ∙ picked_length test (nodes (forest_of xs))
      ∙ counted_all (count_of xs) (forest_distinct l) (forest_all l) (forest_in l) test
      ∙ counted_each xs radius plate 0 (count_of xs)
