-- What the definition forces: a node's level, that none but a lone root is below -1, and that no two nodes have equal profiles. Assumes nothing.
use mathlib.Core.Path.{◌≡◌, sym, ◌∙◌, ap, subst}
use mathlib.Core.Logic.{◌≢◌}
use Prim.Native.Nat.{ℕ, ◌<◌}
use native.Mathlib.Decide.{ℕ_discrete}
use native.Mathlib.Omega.{arith}
use lib.IntN.{negsuc}
use lib.Signed.{◌≤ℤ◌, ◌<ℤ◌, ≤ℤ_refl, <ℤ_irrefl}
use Rattle.profile.specs.Level.{Fitting, lower, fitting_level}
use Rattle.profile.proofs.Levels.{more_than, byte_least, fitting_positive, fitting_of, fitting_exactly}
use Rattle.profile.proofs.Signs.{le_parts, lt_parts, parts_le, suc_parts}
use Rattle.tree.specs.Tree.{Tree, Other, CoverTree}
use Rattle.tree.proofs.Separation.{pairs_of_sets}

module _ {X : Type 0} {dist : X → X → ℕ} {n : ℕ} {t : Tree X} (v : CoverTree dist n t) where
  -- the distance to the parent is within the cover limit, and further than the separation at the node's own level
  pub level_fits : (q : ℕ) → Other t q → Fitting (dist (t.profile (t.parent q)) (t.profile q)) (t.level q)
  level_fits q o = record {
    above = v.separation.apart (t.level q) (t.parent q) q
        (record { node = v.cover.is_node q o; high = parts_le (t.level q) (t.level (t.parent q)) (omega (arith, lt_parts (v.cover.below q o))) })
        (record { node = o.node; high = ≤ℤ_refl (t.level q) })
        (λ e. <ℤ_irrefl (subst (λ (p : ℕ). t.level q <ℤ t.level p) e (v.cover.below q o)));
    within = v.cover.near q o;
  }

  -- so a node's level is the fitting level of the distance to its parent: only the root's is free
  pub level_forced : (q : ℕ) → Other t q → t.level q ≡ fitting_level (dist (t.profile (t.parent q)) (t.profile q))
  level_forced q o = (fitting_exactly (dist (t.profile (t.parent q)) (t.profile q)) (t.level q) (fitting_positive (level_fits q o))).0 (level_fits q o)

  -- distances are whole, so where there is another node, a level is -1 at least
  pub least_level : (p q : ℕ) → t.Node p → t.Node q → p ≢ q → negsuc 0 ≤ℤ t.level q
  least_level p q hp hq ne = go (ℕ_discrete q t.root)
    where
      other : (r : ℕ) → Other t r → negsuc 0 ≤ℤ t.level r
      other r o = let b = fitting_of (level_fits r o) in rw b.1 (byte_least b.0)

      go : Dec (q ≡ t.root) → negsuc 0 ≤ℤ t.level q
      go (yes e) =
          let o : Other t p = record { node = hp; not_root = λ i. ne (i ∙ sym e) } in
          rw e (parts_le (negsuc 0) (t.level t.root) (omega (arith, le_parts (other p o), le_parts (v.root.above p o), suc_parts (t.level p))))
      go (no nr) = other q (record { node = hq; not_root = nr })

  -- two nodes lie apart
  pub nodes_apart : (p q : ℕ) → t.Node p → t.Node q → p ≢ q → 0 < dist (t.profile p) (t.profile q)
  nodes_apart p q hp hq ne =
      omega (arith, (more_than (dist (t.profile p) (t.profile q)) (lower (t.level p) (t.level q))).0 ((pairs_of_sets v.separation).apart p q hp hq ne))

  -- and so no two have equal profiles
  pub profiles_differ : ((x : X) → dist x x ≡ 0) → (p q : ℕ) → t.Node p → t.Node q → p ≢ q → t.profile p ≢ t.profile q
  profiles_differ self p q hp hq ne e =
      absurd (omega (arith, nodes_apart p q hp hq ne, self (t.profile p), ap (dist (t.profile p)) e))
