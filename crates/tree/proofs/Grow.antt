-- Adding by document 01's rule keeps the definition. Assumes nothing.
use mathlib.Core.Path.{◌≡◌, refl, sym, ◌∙◌, ap, subst}
use mathlib.Core.Logic.{◌≢◌, ◌⊎◌, inl, inr, ⊎_elim}
use mathlib.Core.Bool.{Bool, true, false, cond}
use Prim.Native.Nat.{ℕ, ◌*◌, ◌≤◌, ◌<◌, min}
use native.Mathlib.Nat.{lt_of_not-le}
use native.Mathlib.Decide.{ℕ_discrete, dec_le}
use native.Mathlib.Omega.{arith}
use lib.Dec.{T}
use lib.IntN.{ℤ, suc_ℤ}
use lib.Signed.{le_z, ◌≤ℤ◌, ◌<ℤ◌}
use Rattle.profile.specs.Level.{◌≤2^◌, Fitting, lower, cover_limit}
use Rattle.profile.proofs.Levels.{more_than, at_most_level, cover_mono, cover_lower, fitting_is, fitting_above, over_fitting}
use Rattle.profile.proofs.Signs.{le_no, le_parts, parts_le, lt_parts, parts_lt, suc_parts}
use Rattle.tree.specs.Tree.{Tree, Other, CoverCondition, PairsApart, CoverTree}
use Rattle.tree.specs.Grow.{higher, CanTake, NearestTaker, Grown}
use Rattle.tree.proofs.Separation.{pairs_of_sets}
use Rattle.tree.proofs.Root.{cover_tree}

higher_le : (a b : ℤ) → (a ≤ℤ higher a b) × (b ≤ℤ higher a b)
unfolding higher
higher_le a b = go (le_z a b) refl
  where
    go : (t : Bool) → le_z a b ≡ t → (a ≤ℤ cond t b a) × (b ≤ℤ cond t b a)
    go true e = (record { le = subst T (sym e) tt }, parts_le b b (omega arith))
    go false e = (parts_le a a (omega arith), parts_le b a (omega (arith, le_no a b e)))

module _ {X : Type 0} {dist : X → X → ℕ} (symmetric : (x y : X) → dist x y ≡ dist y x) {n : ℕ} {t t' : Tree X} {x : X} {v k : ℕ}
    (tree : CoverTree dist n t) (g : Grown dist t t' x v k) (chosen : NearestTaker dist t x v) (away : 0 < dist (t.profile v) x) where
  fits : Fitting (dist (t.profile v) x) (t'.level k)
  fits = rw g.new_level (fitting_is (dist (t.profile v) x) away)

  other_of : (q : ℕ) → t.Node q → q ≢ t'.root → Other t q
  other_of q h ne = record { node = h; not_root = λ e. ne (e ∙ sym g.root) }

  -- no level falls
  level_up : (q : ℕ) → t.Node q → t.level q ≤ℤ t'.level q
  level_up q h = go (ℕ_discrete q t.root)
    where
      go : Dec (q ≡ t.root) → t.level q ≤ℤ t'.level q
      go (yes e) = rw (e, g.root_level) (higher_le _ _).0
      go (no ne) = rw (g.level q h ne) (parts_le (t.level q) (t.level q) (omega arith))

  -- the new node is below its parent
  new_below : t'.level k <ℤ t'.level v
  new_below = go chosen.taker.near
    where
      go : (v ≡ t.root) ⊎ (dist (t.profile v) x ≤2^ t.level v) → t'.level k <ℤ t'.level v
      go (inl e) =
          parts_lt (t'.level k) (t'.level v)
          (rw (e, g.root_level) (omega (arith, le_parts (higher_le (t.level t.root) (suc_ℤ (t'.level k))).1, suc_parts (t'.level k))))
      go (inr h) =
          let b : t'.level k <ℤ t.level v = rw g.new_level ((over_fitting (dist (t.profile v) x) (t.level v) away).0 h) in
          parts_lt (t'.level k) (t'.level v) (omega (arith, lt_parts b, le_parts (level_up v chosen.taker.node)))

  grown_cover : CoverCondition dist t'
  grown_cover = record {
    is_node = λ q o.
        ⊎_elim
        (λ (h : t.Node q). rw (g.parent q h) (g.olds (t.parent q) (tree.cover.is_node q (other_of q h o.not_root))))
        (λ (e : q ≡ k). rw (e, g.new_parent) (g.olds v chosen.taker.node))
        (g.nodes q o.node);
    below = λ q o.
        ⊎_elim
        (λ (h : t.Node q).
        let old = other_of q h o.not_root in
        rw (g.parent q h, g.level q h old.not_root)
        (parts_lt (t.level q) (t'.level (t.parent q)) (omega (arith, lt_parts (tree.cover.below q old), le_parts (level_up (t.parent q) (tree.cover.is_node q old))))))
        (λ (e : q ≡ k). rw (e, g.new_parent) new_below)
        (g.nodes q o.node);
    near = λ q o.
        ⊎_elim
        (λ (h : t.Node q).
        let old = other_of q h o.not_root in
        rw (g.parent q h, g.profile (t.parent q) (tree.cover.is_node q old), g.profile q h, g.level q h old.not_root) (tree.cover.near q old))
        (λ (e : q ≡ k). rw (e, g.new_parent, g.profile v chosen.taker.node, g.new_profile) fits.within)
        (g.nodes q o.node);
  }

  -- the root's cover limit is the largest
  root_over : (q : ℕ) → t.Node q → q ≢ t.root → cover_limit (t.level q) ≤ cover_limit (t.level t.root)
  root_over q h ne =
      cover_mono (parts_le (t.level q) (t.level t.root) (omega (arith, le_parts (tree.root.above q (record { node = h; not_root = ne })), suc_parts (t.level q))))

  -- two old nodes: one of them is not the root, and the lower of their cover limits is as it was
  old_apart : (p q : ℕ) → t.Node p → t.Node q → p ≢ q → min (cover_limit (t'.level p)) (cover_limit (t'.level q)) < 2 * dist (t.profile p) (t.profile q)
  old_apart p q hp hq ne = go (ℕ_discrete p t.root) (ℕ_discrete q t.root)
    where
      before : min (cover_limit (t.level p)) (cover_limit (t.level q)) < 2 * dist (t.profile p) (t.profile q)
      before =
          omega (
            arith,
            (more_than (dist (t.profile p) (t.profile q)) (lower (t.level p) (t.level q))).0 ((pairs_of_sets tree.separation).apart p q hp hq ne),
            cover_lower (t.level p) (t.level q),
          )

      at_root : {r : ℕ} → r ≡ t.root → cover_limit (t.level r) ≡ cover_limit (t.level t.root)
      at_root e = ap (λ (z : ℕ). cover_limit (t.level z)) e

      go : Dec (p ≡ t.root) → Dec (q ≡ t.root) → min (cover_limit (t'.level p)) (cover_limit (t'.level q)) < 2 * dist (t.profile p) (t.profile q)
      go (yes e) (yes f) = absurd (ne (e ∙ sym f))
      go (yes e) (no nq) = omega (arith, before, ap cover_limit (g.level q hq nq), root_over q hq nq, at_root e)
      go (no np) (yes f) = omega (arith, before, ap cover_limit (g.level p hp np), root_over p hp np, at_root f)
      go (no np) (no nq) = omega (arith, before, ap cover_limit (g.level p hp np), ap cover_limit (g.level q hq nq))

  -- an old node and the new one: what could take x lies no nearer than its parent, and what could not lies beyond its own level
  new_apart : (u : ℕ) → t.Node u → min (cover_limit (t'.level u)) (cover_limit (t'.level k)) < 2 * dist (t.profile u) x
  new_apart u h = go (ℕ_discrete u t.root) (dec_le (2 * dist (t.profile u) x) (cover_limit (t.level u)))
    where
      taker : CanTake dist t x u → min (cover_limit (t'.level u)) (cover_limit (t'.level k)) < 2 * dist (t.profile u) x
      taker c = omega (arith, chosen.nearest u c, fitting_above fits)

      go : Dec (u ≡ t.root) → Dec (2 * dist (t.profile u) x ≤ cover_limit (t.level u)) → min (cover_limit (t'.level u)) (cover_limit (t'.level k)) < 2 * dist (t.profile u) x
      go (yes e) _ = taker (record { node = h; near = inl e })
      go (no ne) (yes l) = taker (record { node = h; near = inr ((at_most_level (dist (t.profile u) x) (t.level u)).1 l) })
      go (no ne) (no f) = omega (arith, lt_of_not-le f, ap cover_limit (g.level u h ne))

  grown_apart : PairsApart dist t'
  grown_apart = record { apart = λ p q hp hq ne. (more_than _ _).1 (rw (cover_lower (t'.level p) (t'.level q)) (by p q ne (g.nodes p hp) (g.nodes q hq))) }
    where
      by : (p q : ℕ) → p ≢ q → t.Node p ⊎ (p ≡ k) → t.Node q ⊎ (q ≡ k)
          → min (cover_limit (t'.level p)) (cover_limit (t'.level q)) < 2 * dist (t'.profile p) (t'.profile q)
      by p q ne (inl hp) (inl hq) = rw (g.profile p hp, g.profile q hq) (old_apart p q hp hq ne)
      by p q ne (inl hp) (inr f) = rw (g.profile p hp, f, g.new_profile) (new_apart p hp)
      by p q ne (inr e) (inl hq) = rw (e, g.new_profile, g.profile q hq, symmetric x (t.profile q)) (omega (arith, new_apart q hq))
      by p q ne (inr e) (inr f) = absurd (ne (e ∙ sym f))

  -- a point put under a nearest node that can take it gives a tree again
  pub grown_tree : (n' : ℕ) → ((q : ℕ) → t'.Node q → q < n') → CoverTree dist n' t'
  grown_tree n' f = cover_tree f (rw g.root (g.olds t.root tree.root_node)) grown_cover grown_apart
