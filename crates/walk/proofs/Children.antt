-- The children of a record of a library, in file order. Assumes nothing.
use mathlib.Core.Path.{◌≡◌, refl, sym}
use mathlib.Core.Logic.{◌≢◌, ◌⊎◌, inl, inr}
use mathlib.Core.Bool.{Bool, true, false, cond}
use mathlib.Core.List.Memᴰ
use mathlib.Core.List.{List, ◌∷◌, Memᴰ}
use Prim.Native.Nat.{ℕ, zero, suc, ◌+◌, ◌≤◌, ◌<◌}
use native.Mathlib.Nat.{eq-or-lt_of_le}
use native.Mathlib.Omega.{arith}
use Rattle.ranking.specs.Sort.{itself}
use Rattle.ranking.specs.Order.{Distinct}
use Rattle.image.specs.Fields.{count_of, root_of, parent_at}
use Rattle.image.specs.Library.{tree_of}
use Rattle.image.proofs.Tests.{Tells, told_true, tells_and, tells_eq, tells_not}
use Rattle.walk.specs.Forest.{is_child, children_from}
use Rattle.walk.proofs.Descent.{Child}

module _ (xs : List ℕ) where
  tells_child : (v c : ℕ) → Tells (is_child xs v c) ((parent_at xs c ≡ v) × (c ≢ root_of xs))
  unfolding is_child
  tells_child v c = tells_and (tells_eq (parent_at xs c) v) (tells_not (tells_eq c (root_of xs)))

  -- what stands among the children is one of so many records from i on, and a child
  children_from_lem : (v i many : ℕ) {c : ℕ} → Memᴰ c (children_from xs v i many) → (i ≤ c) × (c < i + many) × (is_child xs v c ≡ true)
  unfolding children_from
  children_from_lem v i zero m = absurd (Memᴰ.not-nil m)
  children_from_lem v i (suc many) {c} m = go (children_from_lem v (suc i) many) (is_child xs v i) refl m
    where
      From : ℕ → ℕ → Type 0
      From j more = (j ≤ c) × (c < j + more) × (is_child xs v c ≡ true)

      later : From (suc i) many → From i (suc many)
      later w = (omega (arith, w.0), omega (arith, w.1), w.2)

      go : (Memᴰ c (children_from xs v (suc i) many) → From (suc i) many) → (b : Bool) → is_child xs v i ≡ b
          → Memᴰ c (cond b (i ∷ children_from xs v (suc i) many) (children_from xs v (suc i) many)) → From i (suc many)
      go rest true q (Memᴰ.head e) = (omega arith, omega arith, rw e q)
      go rest true q (Memᴰ.tail n) = later (rest n)
      go rest false q n = later (rest n)

  -- every such record stands there
  children_all : (v i many c : ℕ) → i ≤ c → c < i + many → is_child xs v c ≡ true → Memᴰ c (children_from xs v i many)
  unfolding children_from
  children_all v i zero c h l e = absurd (omega arith)
  children_all v i (suc many) c h l e = go (λ g. children_all v (suc i) many c g (omega arith) e) (is_child xs v i) refl (eq-or-lt_of_le h)
    where
      go : (i < c → Memᴰ c (children_from xs v (suc i) many)) → (b : Bool) → is_child xs v i ≡ b → (i ≡ c) ⊎ (i < c)
          → Memᴰ c (cond b (i ∷ children_from xs v (suc i) many) (children_from xs v (suc i) many))
      go rest true q (inl p) = Memᴰ.head (sym p)
      go rest true q (inr g) = Memᴰ.tail (rest g)
      go rest false q (inl p) = let z : ◌≡◌ {A = ℕ} 0 1 = cc in absurd (omega arith)
      go rest false q (inr g) = rest g

  pub children_distinct : (v i many : ℕ) → Distinct itself (children_from xs v i many)
  unfolding children_from
  children_distinct v i zero = Distinct.none
  children_distinct v i (suc many) = go (children_distinct v (suc i) many) (is_child xs v i)
    where
      before : (c : ℕ) → Memᴰ c (children_from xs v (suc i) many) → i ≢ c
      before c m e = omega (arith, (children_from_lem v (suc i) many m).0)

      go : Distinct itself (children_from xs v (suc i) many) → (b : Bool)
          → Distinct itself (cond b (i ∷ children_from xs v (suc i) many) (children_from xs v (suc i) many))
      go d true = Distinct.next before d
      go d false = d

  pub child_of : (v : ℕ) {c : ℕ} → Memᴰ c (children_from xs v 0 (count_of xs)) → Child (tree_of xs) v c
  child_of v {c} m =
      let w = children_from_lem v 0 (count_of xs) m in
      let s = (tells_child v c).yes w.2 in
      record { other = record { node = omega (arith, w.1); not_root = s.1 }; is_parent = s.0 }

  pub of_child : {v c : ℕ} → Child (tree_of xs) v c → Memᴰ c (children_from xs v 0 (count_of xs))
  of_child {v} {c} h =
      children_all v 0 (count_of xs) c (omega arith) (omega (arith, h.other.node)) (told_true (tells_child v c) (h.is_parent, h.other.not_root))
