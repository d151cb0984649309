-- The way up: parents lead from every node to the root, and so the root's level exceeds every other. Assumes nothing.
use mathlib.Core.Path.{◌≡◌, refl, sym, subst}
use mathlib.Core.Logic.{⊎_elim}
use mathlib.Core.Bool.{Bool, true, false}
use Prim.Native.Nat.{ℕ, zero, suc, ◌+◌, ◌≤◌, ◌<◌}
use native.Mathlib.Nat.{eq-or-lt_of_le}
use native.Mathlib.Decide.{ℕ_discrete}
use native.Mathlib.Omega.{arith}
use lib.Dec.{T}
use lib.IntN.{ℤ, pos, suc_ℤ, ◌+ℤ◌}
use lib.Signed.{le_z, ◌≤ℤ◌, ≤ℤ_refl}
use Rattle.profile.proofs.Signs.{up, down, add_up, add_down, le_no, le_parts, parts_le, lt_parts, suc_parts}
use Rattle.tree.specs.Tree.{Tree, Other, RootCondition, CoverCondition, PairsApart, CoverTree, Below, self, child}
use Rattle.tree.proofs.Separation.{sets_of_pairs}

-- finitely many levels have one that none exceeds
highest : (n : ℕ) (level : ℕ → ℤ) → (high : ℤ) × ((q : ℕ) → q < n → level q ≤ℤ high)
highest zero level = (pos 0, λ q h. absurd (omega arith))
highest (suc n) level = go (highest n level)
  where
    go : (high : ℤ) × ((q : ℕ) → q < n → level q ≤ℤ high) → (high : ℤ) × ((q : ℕ) → q < suc n → level q ≤ℤ high)
    go s = by (le_z s.0 (level n)) refl
      where
        with_last : (high : ℤ) → s.0 ≤ℤ high → level n ≤ℤ high → (q : ℕ) → q < suc n → level q ≤ℤ high
        with_last high h k q l =
            ⊎_elim
            (λ (e : q ≡ n). subst (λ (x : ℕ). level x ≤ℤ high) (sym e) k)
            (λ (m : q < n). parts_le (level q) high (omega (arith, le_parts (s.1 q m), le_parts h)))
            (eq-or-lt_of_le (omega arith))

        by : (b : Bool) → le_z s.0 (level n) ≡ b → (high : ℤ) × ((q : ℕ) → q < suc n → level q ≤ℤ high)
        by true e = (level n, with_last (level n) (record { le = subst T (sym e) tt }) (≤ℤ_refl (level n)))
        by false e = (s.0, with_last s.0 (≤ℤ_refl s.0) (parts_le (level n) s.0 (omega (arith, le_no s.0 (level n) e))))

module _ {X : Type 0} {dist : X → X → ℕ} {t : Tree X} (c : CoverCondition dist t) where
  -- the level rises by 1 at least with each generation
  pub below_level : (p k q : ℕ) → Below t p k q → up (t.level q) + down (t.level p) + k ≤ up (t.level p) + down (t.level q)
  below_level p k q self = omega arith
  below_level p k q (child {k = j} o b) = omega (arith, below_level p j (t.parent q) b, lt_parts (c.below q o))

  -- so where levels run from low to low + span, a way up is of span generations at most, and of span + 1 records
  pub way_length : (low : ℤ) (span p k q : ℕ) → low ≤ℤ t.level q → t.level p ≤ℤ (low +ℤ pos span) → Below t p k q → k ≤ span
  way_length low span p k q h l b =
      omega (arith, below_level p k q b, le_parts h, le_parts l, add_up low (pos span), add_down low (pos span))

  -- a node is the root, or lies one generation below its parent
  step : (q : ℕ) → t.Node q → (Other t q → (k : ℕ) × Below t t.root k (t.parent q)) → (k : ℕ) × Below t t.root k q
  step q h above = by (ℕ_discrete q t.root)
    where
      by : Dec (q ≡ t.root) → (k : ℕ) × Below t t.root k q
      by (yes e) = (0, subst (Below t t.root 0) (sym e) self)
      by (no ne) =
          let o : Other t q = record { node = h; not_root = ne } in
          let s = above o in
          (suc s.0, child o s.1)

  -- by how far the level of q may rise
  way_up : (high : ℤ) → ((q : ℕ) → t.Node q → t.level q ≤ℤ high) → (room q : ℕ) → t.Node q
      → up high + down (t.level q) ≤ up (t.level q) + down high + room → (k : ℕ) × Below t t.root k q
  way_up high most zero q h r = step q h (λ o. absurd (omega (arith, lt_parts (c.below q o), le_parts (most (t.parent q) (c.is_node q o)))))
  way_up high most (suc room) q h r = step q h (λ o. way_up high most room (t.parent q) (c.is_node q o) (omega (arith, lt_parts (c.below q o))))

  module _ (n : ℕ) (finite : (q : ℕ) → t.Node q → q < n) where
    -- every node reaches the root along parents
    pub reaches_root : (q : ℕ) → t.Node q → (k : ℕ) × Below t t.root k q
    reaches_root q h =
        let s = highest n t.level in
        way_up s.0 (λ p m. s.1 p (finite p m)) (up s.0 + down (t.level q)) q h (omega arith)

    -- the root condition follows from the cover condition
    pub root_from_cover : RootCondition t
    root_from_cover = record { above = λ q o. by q o (reaches_root q o.node) }
      where
        by : (q : ℕ) → Other t q → (k : ℕ) × Below t t.root k q → suc_ℤ (t.level q) ≤ℤ t.level t.root
        by q o (zero, b) = absurd (o.not_root (own b))
          where
            own : {q : ℕ} → Below t t.root 0 q → q ≡ t.root
            own self = refl
        by q o (suc k, b) =
            parts_le (suc_ℤ (t.level q)) (t.level t.root) (omega (arith, below_level t.root (suc k) q b, suc_parts (t.level q)))

-- so the definition is what document 01 checks: cover, and separation said for pairs
pub cover_tree : {X : Type 0} {dist : X → X → ℕ} {n : ℕ} {t : Tree X} → ((q : ℕ) → t.Node q → q < n) → t.Node t.root
    → CoverCondition dist t → PairsApart dist t → CoverTree dist n t
cover_tree {n = n} f r c s = record { finite = f; root_node = r; root = root_from_cover c n f; cover = c; separation = sets_of_pairs s }

-- where levels run from low to low + span, every node reaches the root in a way of span + 1 records at most
pub record Span {X : Type 0} (t : Tree X) (low : ℤ) (span : ℕ) : Type 0 where
  pub least : (q : ℕ) → t.Node q → low ≤ℤ t.level q
  pub most : (q : ℕ) → t.Node q → t.level q ≤ℤ (low +ℤ pos span)

pub short_way : {X : Type 0} {dist : X → X → ℕ} {n : ℕ} {t : Tree X} {low : ℤ} {span : ℕ} → CoverTree dist n t → Span t low span
    → (q : ℕ) → t.Node q → (k : ℕ) × Below t t.root k q × (k ≤ span)
short_way {n = n} {t = t} {low = low} {span = span} v s q h =
    let w = reaches_root v.cover n v.finite q h in
    (w.0, w.1, way_length v.cover low span t.root w.0 q (s.least q h) (s.most t.root v.root_node) w.1)
