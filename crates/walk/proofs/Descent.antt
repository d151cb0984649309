-- Descendants in any tree, from above: each hangs below one child only, and none below itself. Assumes nothing.
use mathlib.Core.Path.{◌≡◌, refl, sym}
use Prim.Native.Nat.{ℕ, zero, suc}
use native.Mathlib.Omega.{arith}
use Rattle.tree.specs.Tree.{Tree, Other, CoverCondition, Below, self, child}
use Rattle.tree.proofs.Root.{below_level}

-- c is a child of v
pub record Child {X : Type 0} (t : Tree X) (v c : ℕ) : Type 0 where
  pub other : Other t c
  pub is_parent : t.parent c ≡ v

module _ {X : Type 0} {t : Tree X} where
  -- what hangs below a child hangs below its parent
  pub below_parent : {v c k u : ℕ} → Child t v c → Below t c k u → Below t v (suc k) u
  below_parent h self = child {k = 0} h.other (rw h.is_parent self)
  below_parent h (child o b) = child o (below_parent h b)

  -- no generation below a node is the node
  below_none : {v u : ℕ} → Below t v zero u → v ≡ u
  below_none self = refl

  -- and what hangs below a node hangs below one of its children, or is that
  pub below_child : {v k u : ℕ} → Below t v (suc k) u → (c : ℕ) × Child t v c × Below t c k u
  below_child {k = zero} (child {q = u} o b) = (u, record { other = o; is_parent = sym (below_none b) }, self)
  below_child {k = suc k} (child o b) = let w = below_child b in (w.0, w.1, child o w.2)

  pub below_other : {v k u : ℕ} → Below t v (suc k) u → Other t u
  below_other (child o b) = o

module _ {X : Type 0} {dist : X → X → ℕ} {t : Tree X} (cover : CoverCondition dist t) where
  -- what something hangs below is a node
  pub below_node : {v k u : ℕ} → Below t v (suc k) u → t.Node v
  below_node b = let w = below_child b in rw w.1.is_parent at (cover.is_node w.0 w.1.other)

  -- levels fall on the way down
  pub not_below_itself : {v k : ℕ} → Below t v (suc k) v → ⊥
  not_below_itself {v} {k} b = omega (arith, below_level cover v (suc k) v b)

  pub one_child : {v c d i j u : ℕ} → Child t v c → Child t v d → Below t c i u → Below t d j u → c ≡ d
  one_child h l self self = refl
  one_child h l self (child o b) = absurd (not_below_itself (below_parent l (rw h.is_parent at b)))
  one_child h l (child o b) self = absurd (not_below_itself (below_parent h (rw l.is_parent at b)))
  one_child h l (child o b) (child p e) = one_child h l b e
