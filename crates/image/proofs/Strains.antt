-- The strains of a library, one by one. Assumes nothing.
use mathlib.Core.Path.{◌≡◌, refl, sym, ap, ◌∙◌}
use mathlib.Core.List.Memᴰ
use mathlib.Core.List.{List, Memᴰ}
use Prim.Native.Nat.{ℕ, zero, suc, ◌+◌, ◌<◌}
use native.Mathlib.Omega.{arith}
use lib.ListN.{length, get_or}
use Rattle.image.specs.Fields.{count_of}
use Rattle.image.specs.Strains.{Strain, each, strain_at, strains_of}

module _ {A : Type 0} (f : ℕ → A) where
  pub each_length : (i many : ℕ) → length (each f i many) ≡ many
  unfolding each
  each_length i zero = refl
  each_length i (suc many) = ap suc (each_length (suc i) many)

  pub each_at : (i many k : ℕ) (d : A) → k < many → get_or (each f i many) k d ≡ f (i + k)
  unfolding each
  each_at i zero k d h = absurd (omega arith)
  each_at i (suc many) zero d h = ap f (omega arith)
  each_at i (suc many) (suc k) d h = each_at (suc i) many k d (omega arith) ∙ ap f (omega arith)

  -- what stands in it is f at one of those numbers
  pub mem_each : {a : A} (i many : ℕ) → Memᴰ a (each f i many) → (k : ℕ) × (k < many) × (f (i + k) ≡ a)
  unfolding each
  mem_each i zero m = absurd (Memᴰ.not-nil m)
  mem_each i (suc many) (Memᴰ.head e) = (0, omega arith, ap f (omega arith) ∙ sym e)
  mem_each i (suc many) (Memᴰ.tail m) = let w = mem_each (suc i) many m in (suc w.0, omega (arith, w.1), ap f (omega arith) ∙ w.2)

pub strains_length : (xs : List ℕ) → length (strains_of xs) ≡ count_of xs
unfolding strains_of
strains_length xs = each_length (strain_at xs) 0 (count_of xs)

pub strain_is : (xs : List ℕ) (i : ℕ) (d : Strain) → i < count_of xs → get_or (strains_of xs) i d ≡ strain_at xs i
unfolding strains_of
strain_is xs i d h = each_at (strain_at xs) 0 (count_of xs) i d h ∙ ap (strain_at xs) (omega arith)

-- a strain of the library is that of a record
pub strain_record : (xs : List ℕ) {s : Strain} → Memᴰ s (strains_of xs) → (i : ℕ) × (i < count_of xs) × (strain_at xs i ≡ s)
unfolding strains_of
strain_record xs m = let w = mem_each (strain_at xs) 0 (count_of xs) m in (w.0, w.1, ap (strain_at xs) (omega arith) ∙ w.2)
