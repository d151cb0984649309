-- The tree of an accepted library, as it is walked: it holds every record once, and each record with its descendants below it. Assumes nothing.
use mathlib.Core.Path.{◌≡◌, refl}
use mathlib.Core.List.Memᴰ
use mathlib.Core.List.{List, ◌∷◌, append-nil, Memᴰ}
use Prim.Native.Nat.{ℕ, zero, suc, ◌+◌, ◌≤◌, ◌<◌}
use native.Mathlib.Omega.{arith}
use lib.IntN.{ℤ}
use lib.ListN.{length}
use Rattle.ranking.specs.Sort.{itself}
use Rattle.ranking.specs.Order.{Distinct}
use Rattle.tree.specs.Tree.{Below, self}
use Rattle.image.specs.Fields.{wells_of, count_of, root_of, profile_at, distance_at}
use Rattle.image.specs.Library.{tree_of, Library}
use Rattle.image.proofs.Trees.{profile_length, library_metric, library_reach, library_way}
use Rattle.walk.specs.Forest.{Forest, nodes, children_from, below_of, forest_of, Under}
use Rattle.walk.specs.Walk.{Reaching}
use Rattle.walk.specs.Weighed.{weighed, found_at, reach_at}
use Rattle.walk.proofs.Descent.{below_parent, below_child, below_other, below_node, not_below_itself, one_child}
use Rattle.walk.proofs.Children.{children_distinct, child_of, of_child}
use Rattle.walk.proofs.Siblings.{siblings_mem, mem_siblings, siblings_under, siblings_distinct}
use Rattle.walk.proofs.Counting.{length_all}

module _ (xs : List ℕ) where
  -- u hangs below v
  abbrev Descends : ℕ → ℕ → Type 0
  Descends v u = (k : ℕ) × Below (tree_of xs) v (suc k) u

  -- a record, or what hangs below it
  lies : {v u : ℕ} {us : List ℕ} → ((u : ℕ) → Memᴰ u us → Descends v u) → Memᴰ u (v ∷ us) → (k : ℕ) × Below (tree_of xs) v k u
  lies hangs (Memᴰ.head e) = (0, rw e self)
  lies {u = u} hangs (Memᴰ.tail m) = let w = hangs u m in (suc w.0, w.1)

  descends : (generations v u : ℕ) → Memᴰ u (nodes (below_of generations xs v)) → Descends v u
  unfolding nodes below_of
  descends zero v u m = absurd (Memᴰ.not-nil m)
  descends (suc generations) v u m =
      let w = siblings_mem (below_of generations xs) (children_from xs v 0 (count_of xs)) m in
      let s = lies (descends generations w.0) w.2 in
      (s.0, below_parent (child_of xs v w.1) s.1)

  -- so many generations hold what is not further down
  holds : (generations k v u : ℕ) → k ≤ generations → Below (tree_of xs) v k u → Memᴰ u (v ∷ nodes (below_of generations xs v))
  unfolding nodes below_of
  holds generations zero v u h self = Memᴰ.head refl
  holds zero (suc k) v u h b = absurd (omega arith)
  holds (suc generations) (suc k) v u h b =
      let w = below_child b in
      Memᴰ.tail (mem_siblings (below_of generations xs) (of_child xs w.1) (holds generations k w.0 u (omega arith) w.2))

  hangs_under : (generations v : ℕ) → Under Descends (below_of generations xs v)
  unfolding below_of
  hangs_under zero v = Under.empty
  hangs_under (suc generations) v =
      siblings_under (below_of generations xs) (children_from xs v 0 (count_of xs)) (descends generations) (hangs_under generations)

under_map : {P Q : ℕ → ℕ → Type 0} {forest : Forest} → ((v u : ℕ) → P v u → Q v u) → Under P forest → Under Q forest
under_map f Under.empty = Under.empty
under_map f (Under.over {v = v} hangs below behind) = Under.over (λ u m. f v u (hangs u m)) (under_map f below) (under_map f behind)

module _ {xs : List ℕ} (l : Library xs) where
  -- a record, and what hangs below it, each once
  once : (generations v : ℕ) → Distinct itself (v ∷ nodes (below_of generations xs v))
  unfolding nodes below_of
  once zero v = Distinct.next (λ y m. absurd (Memᴰ.not-nil m)) Distinct.none
  once (suc generations) v =
      Distinct.next (λ u m e. not_below_itself l.tree.cover (descends xs (suc generations) v v (Memᴰ.cast e m)).1)
      (siblings_distinct (below_of generations xs) (children_distinct xs v 0 (count_of xs)) (once generations)
      (λ c d u m n p q.
      one_child l.tree.cover (child_of xs v m) (child_of xs v n)
      (lies xs (descends xs generations c) p).1
      (lies xs (descends xs generations d) q).1))

  pub forest_distinct : Distinct itself (nodes (forest_of xs))
  unfolding nodes forest_of
  forest_distinct = rw append-nil (once 21 (root_of xs))

  pub forest_all : (i : ℕ) → i < count_of xs → Memᴰ i (nodes (forest_of xs))
  unfolding nodes forest_of
  forest_all i h = let w = library_way l i h in rw append-nil (holds xs 21 w.0 (root_of xs) i w.2 w.1)

  pub forest_in : (i : ℕ) → Memᴰ i (nodes (forest_of xs)) → i < count_of xs
  unfolding nodes forest_of
  forest_in i m = by (rw append-nil at m)
    where
      by : Memᴰ i (root_of xs ∷ nodes (below_of 21 xs (root_of xs))) → i < count_of xs
      by (Memᴰ.head e) = rw e l.layout.root
      by (Memᴰ.tail n) = (below_other (descends xs 21 (root_of xs) i n).1).node

  pub forest_length : length (nodes (forest_of xs)) ≡ count_of xs
  forest_length = length_all (count_of xs) forest_distinct forest_all forest_in

  -- what stands below a record hangs below it, one generation down or more
  pub forest_below : Under (λ v u. (k : ℕ) × Below (tree_of xs) v (suc k) u) (forest_of xs)
  unfolding forest_of
  forest_below = Under.over (descends xs 21 (root_of xs)) (hangs_under xs 21 (root_of xs)) Under.empty

  pub forest_reaching : (plate : List ℤ) → length plate ≡ wells_of xs → Reaching (found_at xs plate) (reach_at xs) (forest_of xs)
  unfolding found_at weighed reach_at distance_at
  forest_reaching plate fits = under_map (λ v u w. near v w.0 u w.1) forest_below
    where
      near : (v k u : ℕ) → Below (tree_of xs) v (suc k) u → (found_at xs plate v).distance ≤ (found_at xs plate u).distance + reach_at xs v
      near v k u b =
          omega (
            arith,
            (library_metric l).triangle (profile_at xs v) (profile_at xs u) plate (profile_length xs v) (profile_length xs u) fits,
            library_reach l v (suc k) u (below_node l.tree.cover b) b,
          )
