-- The first k of a list in order, told by what they are: no other list is that. Assumes nothing.
use mathlib.Core.Path.{◌≡◌, refl, sym, ap, ap₂, ◌∙◌}
use mathlib.Core.List.Memᴰ
use mathlib.Core.List.{List, [], ◌∷◌, Memᴰ}
use Prim.Native.Nat.{ℕ, zero, suc, ◌<◌, min}
use native.Mathlib.Omega.{arith}
use lib.ListN.{length, take}
use Rattle.ranking.specs.Order.{Ascending, Distinct}

module _ {A : Type 0} {key : A → ℕ} where
  -- elements of a list in order, as many as there are, up to k, in order too, and each other element has a higher key: they are its first k
  pub first_only : (k : ℕ) {all fs : List A} → Ascending key all → Distinct key all → Ascending key fs → Distinct key fs → length fs ≡ min k (length all)
      → ((f : A) → Memᴰ f fs → Memᴰ f all)
      → ((a : A) → Memᴰ a all → (Memᴰ a fs → ⊥) → (f : A) → Memᴰ f fs → key f < key a)
      → fs ≡ take k all
  first_only zero {fs = []} up d up' d' many of others = refl
  first_only zero {fs = f ∷ fs} up d up' d' many of others = absurd (omega arith)
  first_only (suc k) {all = []} {fs = []} up d up' d' many of others = refl
  first_only (suc k) {all = []} {fs = f ∷ fs} up d up' d' many of others = absurd (Memᴰ.not-nil (of f (Memᴰ.head refl)))
  first_only (suc k) {all = a ∷ rest} {fs = []} up d up' d' many of others = absurd (omega arith)
  first_only (suc k) {all = a ∷ rest} {fs = f ∷ fs} (Ascending.next low up) (Distinct.next apart d) (Ascending.next low' up') (Distinct.next apart' d') many of others =
      let same : f ≡ a = first (of f (Memᴰ.head refl)) in
      ap₂ {C = List A} (λ z zs. z ∷ zs) same
      (first_only k up d up' d' (omega arith) (λ g m. behind same g m (of g (Memᴰ.tail m)))
      (λ b m out g n. others b (Memᴰ.tail m) (without same b m out) g (Memᴰ.tail n)))
    where
      -- were the first another, a would stand outside, and have a higher key
      outside : Memᴰ f rest → Memᴰ a (f ∷ fs) → ⊥
      outside m (Memᴰ.head e) = apart f m (ap key e)
      outside m (Memᴰ.tail n) = let l = low f m in let h = low' a n in apart f m (omega arith)

      first : Memᴰ f (a ∷ rest) → f ≡ a
      first (Memᴰ.head e) = e
      first (Memᴰ.tail m) = absurd (omega (arith, low f m, others a (Memᴰ.head refl) (outside m) f (Memᴰ.head refl)))

      -- the rest of them stand behind the first
      behind : f ≡ a → (g : A) → Memᴰ g fs → Memᴰ g (a ∷ rest) → Memᴰ g rest
      behind same g m (Memᴰ.head e) = absurd (apart' g m (ap key (same ∙ sym e)))
      behind same g m (Memᴰ.tail n) = n

      without : f ≡ a → (b : A) → Memᴰ b rest → (Memᴰ b fs → ⊥) → Memᴰ b (f ∷ fs) → ⊥
      without same b m out (Memᴰ.head e) = apart b m (sym (ap key (e ∙ same)))
      without same b m out (Memᴰ.tail n) = out n
