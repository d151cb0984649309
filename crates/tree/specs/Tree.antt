-- Definition 2.1 of source document 003, the compressed cover tree, for any distance. Assumes nothing.
use Rattle.std.specs.Prelude.{◌≢◌, ℕ, zero, suc, ◌<◌, ℤ, ◌≤ℤ◌, ◌<ℤ◌}
use Rattle.std.proofs.Math.IntN.{suc_ℤ}
use Rattle.profile.specs.Level.{◌>2^◌, ◌≤2^◌, lower}

-- records by number: which of them are nodes, the root's number, and each record's level, parent and profile
pub record Tree (X : Type 0) : Type 1 where
  pub Node : ℕ → Type 0
  pub root : ℕ
  pub level : ℕ → ℤ
  pub parent : ℕ → ℕ
  pub profile : ℕ → X

-- a node that is not the root
pub record Other {X : Type 0} (t : Tree X) (q : ℕ) : Type 0 where
  pub node : t.Node q
  pub not_root : q ≢ t.root

-- (2.1a) the root's level exceeds every other level by 1 at least
pub record RootCondition {X : Type 0} (t : Tree X) : Type 0 where
  pub above : (q : ℕ) → Other t q → suc_ℤ (t.level q) ≤ℤ t.level t.root

-- (2.1b) each other node q has one parent p, with level(q) < level(p) and distance(p, q) ≤ 2 ^ (level(q) + 1)
pub record CoverCondition {X : Type 0} (dist : X → X → ℕ) (t : Tree X) : Type 0 where
  pub is_node : (q : ℕ) → Other t q → t.Node (t.parent q)
  pub below : (q : ℕ) → Other t q → t.level q <ℤ t.level (t.parent q)
  pub near : (q : ℕ) → Other t q → dist (t.profile (t.parent q)) (t.profile q) ≤2^ suc_ℤ (t.level q)

-- the cover set of a whole number i: the nodes of level i or more
pub record CoverSet {X : Type 0} (t : Tree X) (i : ℤ) (q : ℕ) : Type 0 where
  pub node : t.Node q
  pub high : i ≤ℤ t.level q

-- (2.1c) for every whole i, any two nodes of its cover set are further apart than 2 ^ i
pub record SeparationCondition {X : Type 0} (dist : X → X → ℕ) (t : Tree X) : Type 0 where
  pub apart : (i : ℤ) (p q : ℕ) → CoverSet t i p → CoverSet t i q → p ≢ q → dist (t.profile p) (t.profile q) >2^ i

-- the definition. The root is a node, and the nodes are finite in number: below some n
pub record CoverTree {X : Type 0} (dist : X → X → ℕ) (n : ℕ) (t : Tree X) : Type 0 where
  pub finite : (q : ℕ) → t.Node q → q < n
  pub root_node : t.Node t.root
  pub root : RootCondition t
  pub cover : CoverCondition dist t
  pub separation : SeparationCondition dist t

-- document 01's separation: any two different nodes are further apart than 2 ^ m, m being the lower of their levels
pub record PairsApart {X : Type 0} (dist : X → X → ℕ) (t : Tree X) : Type 0 where
  pub apart : (p q : ℕ) → t.Node p → t.Node q → p ≢ q → dist (t.profile p) (t.profile q) >2^ lower (t.level p) (t.level q)

-- q lies so many generations below p: as many parents up from q is p
pub data Below {X : Type 0} (t : Tree X) (p : ℕ) : ℕ → ℕ → Type 0 where
  self : Below t p zero p
  child : {k q : ℕ} → Other t q → Below t p k (t.parent q) → Below t p (suc k) q
