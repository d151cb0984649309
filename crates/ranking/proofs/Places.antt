-- The members of a list are what stands at its places. Assumes nothing.
use mathlib.Core.Path.{◌≡◌, refl, sym, ap, ◌∙◌}
use mathlib.Core.List.{List, [], ◌∷◌, Memᴰ}
use Prim.Native.Nat.{ℕ, zero, suc, ◌<◌}
use native.Mathlib.Omega.{arith}
use lib.ListN.{length, get_or}
use Rattle.ranking.specs.Order.{Distinct}

module _ {A : Type 0} where
  pub mem_get_or : (xs : List A) (i : ℕ) (d : A) → i < length xs → Memᴰ (get_or xs i d) xs
  mem_get_or [] i d h = absurd (omega arith)
  mem_get_or (x ∷ xs) zero d h = Memᴰ.head refl
  mem_get_or (x ∷ xs) (suc i) d h = Memᴰ.tail (mem_get_or xs i d (omega arith))

  pub get_or_mem : {a : A} {xs : List A} (d : A) → Memᴰ a xs → (i : ℕ) × (i < length xs) × (get_or xs i d ≡ a)
  get_or_mem d (Memᴰ.head e) = (0, omega arith, sym e)
  get_or_mem d (Memᴰ.tail m) = let w = get_or_mem d m in (suc w.0, omega (arith, w.1), w.2)

  -- no two elements have one key where no two places have
  pub distinct_get_or : (key : A → ℕ) (xs : List A) (d : A)
      → ((i j : ℕ) → i < length xs → j < length xs → key (get_or xs i d) ≡ key (get_or xs j d) → i ≡ j)
      → Distinct key xs
  distinct_get_or key [] d one = Distinct.none
  distinct_get_or key (x ∷ xs) d one =
      Distinct.next (λ y m q. apart y (get_or_mem d m) q)
      (distinct_get_or key xs d (λ i j h l q. omega (arith, one (suc i) (suc j) (omega arith) (omega arith) q)))
    where
      apart : (y : A) → (i : ℕ) × (i < length xs) × (get_or xs i d ≡ y) → key x ≡ key y → ⊥
      apart y w q = absurd (omega (arith, one 0 (suc w.0) (omega arith) (omega (arith, w.1)) (q ∙ sym (ap key w.2))))

  pub get_or_distinct : {key : A → ℕ} {xs : List A} → Distinct key xs → (d : A) (i j : ℕ) → i < length xs → j < length xs
      → key (get_or xs i d) ≡ key (get_or xs j d) → i ≡ j
  get_or_distinct Distinct.none d i j h l q = absurd (omega arith)
  get_or_distinct (Distinct.next other r) d zero zero h l q = refl
  get_or_distinct (Distinct.next {xs = xs} other r) d zero (suc j) h l q = absurd (other (get_or xs j d) (mem_get_or xs j d (omega arith)) q)
  get_or_distinct (Distinct.next {xs = xs} other r) d (suc i) zero h l q = absurd (other (get_or xs i d) (mem_get_or xs i d (omega arith)) (sym q))
  get_or_distinct (Distinct.next other r) d (suc i) (suc j) h l q = ap suc (get_or_distinct r d i j (omega arith) (omega arith) q)
