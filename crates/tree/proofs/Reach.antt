-- Reach: every descendant of a node of level L lies within 2 ^ (L + 1) - 1 of it. Assumes nothing.
use Prim.Native.Nat.{ℕ, ◌+◌, ◌≤◌, max}
use native.Mathlib.Omega.{arith}
use Rattle.profile.specs.Metric.{Metric}
use Rattle.profile.specs.Level.{cover_limit, reach}
use Rattle.profile.proofs.Levels.{at_most, cover_doubles}
use Rattle.tree.specs.Tree.{Tree, CoverCondition, Below, self, child}

module _ {X : Type 0} {Ok : X → Type 0} {dist : X → X → ℕ} (m : Metric X Ok dist) {t : Tree X} (c : CoverCondition dist t) (ok : (q : ℕ) → t.Node q → Ok (t.profile q)) where
  -- what is left of a node's cover limit below it. The 1 stands for levels below -1, where nothing but distance 0 is left
  abbrev left : ℕ → ℕ
  left q = max 1 (cover_limit (t.level q))

  reach_left : (p k q : ℕ) → t.Node p → Below t p k q → t.Node q × (dist (t.profile p) (t.profile q) + left q ≤ left p)
  reach_left p k q h self = (h, omega (arith, m.self (t.profile p)))
  reach_left p k q h (child {k = j} o b) =
      let s = reach_left p j (t.parent q) h b in (
        o.node,
        omega (
          arith,
          s.1,
          m.triangle (t.profile p) (t.profile (t.parent q)) (t.profile q) (ok p h) (ok (t.parent q) s.0) (ok q o.node),
          (at_most (dist (t.profile (t.parent q)) (t.profile q)) (t.level q)).0 (c.near q o),
          cover_doubles (c.below q o),
        ),
      )

  pub reach_covers : (p k q : ℕ) → t.Node p → Below t p k q → dist (t.profile p) (t.profile q) ≤ reach (t.level p)
  unfolding reach
  reach_covers p k q h b = omega (arith, (reach_left p k q h b).1)
