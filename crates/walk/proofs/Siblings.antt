-- Siblings with what hangs below each: their records, and when no record stands there twice. Assumes nothing.
use mathlib.Core.Path.{◌≡◌, refl}
use mathlib.Core.Logic.{◌≢◌, ◌⊎◌, inl, inr}
use mathlib.Core.List.Memᴰ
use mathlib.Core.List.{List, [], ◌∷◌, ◌++◌, Memᴰ}
use Prim.Native.Nat.{ℕ}
use Rattle.ranking.specs.Sort.{itself}
use Rattle.ranking.specs.Order.{Distinct}
use Rattle.walk.specs.Forest.{Forest, nodes, siblings, Under}

-- two lists with no key twice, and none in both
distinct_append : {A : Type 0} {key : A → ℕ} {xs ys : List A} → Distinct key xs → Distinct key ys
    → ((a b : A) → Memᴰ a xs → Memᴰ b ys → key a ≢ key b) → Distinct key (xs ++ ys)
distinct_append Distinct.none e apart = e
distinct_append {A} {key} {ys = ys} (Distinct.next {x = x} {xs = xs} other d) e apart =
    Distinct.next (λ y m. by y (Memᴰ.append_cases xs m)) (distinct_append d e (λ a b m. apart a b (Memᴰ.tail m)))
  where
    by : (y : A) → Memᴰ y xs ⊎ Memᴰ y ys → key x ≢ key y
    by y (inl m) = other y m
    by y (inr m) = apart x y (Memᴰ.head refl) m

module _ (below : ℕ → Forest) where
  pub siblings_mem : (cs : List ℕ) {u : ℕ} → Memᴰ u (nodes (siblings below cs)) → (c : ℕ) × Memᴰ c cs × Memᴰ u (c ∷ nodes (below c))
  unfolding nodes siblings
  siblings_mem [] m = absurd (Memᴰ.not-nil m)
  siblings_mem (c ∷ cs) {u} m = by (siblings_mem cs) (Memᴰ.append_cases (c ∷ nodes (below c)) m)
    where
      Among : List ℕ → Type 0
      Among ds = (d : ℕ) × Memᴰ d ds × Memᴰ u (d ∷ nodes (below d))

      by : (Memᴰ u (nodes (siblings below cs)) → Among cs) → Memᴰ u (c ∷ nodes (below c)) ⊎ Memᴰ u (nodes (siblings below cs)) → Among (c ∷ cs)
      by later (inl n) = (c, Memᴰ.head refl, n)
      by later (inr n) = let w = later n in (w.0, Memᴰ.tail w.1, w.2)

  pub mem_siblings : {c u : ℕ} {cs : List ℕ} → Memᴰ c cs → Memᴰ u (c ∷ nodes (below c)) → Memᴰ u (nodes (siblings below cs))
  unfolding nodes siblings
  mem_siblings (Memᴰ.head {xs = cs} e) m = Memᴰ.append_left (nodes (siblings below cs)) (rw e at m)
  mem_siblings (Memᴰ.tail {x = d} n) m = Memᴰ.append_right (d ∷ nodes (below d)) (mem_siblings n m)

  pub siblings_under : {P : ℕ → ℕ → Type 0} (cs : List ℕ)
      → ((c u : ℕ) → Memᴰ u (nodes (below c)) → P c u) → ((c : ℕ) → Under P (below c)) → Under P (siblings below cs)
  unfolding siblings
  siblings_under [] hangs under = Under.empty
  siblings_under (c ∷ cs) hangs under = Under.over (hangs c) (under c) (siblings_under cs hangs under)

  -- no record twice below one sibling, and none below two
  pub siblings_distinct : {cs : List ℕ} → Distinct itself cs → ((c : ℕ) → Distinct itself (c ∷ nodes (below c)))
      → ((c d u : ℕ) → Memᴰ c cs → Memᴰ d cs → Memᴰ u (c ∷ nodes (below c)) → Memᴰ u (d ∷ nodes (below d)) → c ≡ d)
      → Distinct itself (nodes (siblings below cs))
  unfolding nodes siblings
  siblings_distinct Distinct.none each one = Distinct.none
  siblings_distinct (Distinct.next {x = c} {xs = cs} other d) each one =
      distinct_append (each c) (siblings_distinct d each (λ a b u m n. one a b u (Memᴰ.tail m) (Memᴰ.tail n)))
      (λ a b m n e.
      let w = siblings_mem cs n in
      other w.0 w.1 (one c w.0 a (Memᴰ.head refl) (Memᴰ.tail w.1) m (Memᴰ.cast e w.2)))
