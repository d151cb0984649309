-- The strains that a library holds. Assumes nothing.
use Rattle.std.specs.Prelude.{List, [], ◌∷◌, ℕ, zero, suc, ℤ}
use Rattle.image.specs.Fields.{count_of, code_at, profile_at}

pub record Strain : Type 0 where
  pub code : ℕ
  pub profile : List ℤ

abbrev pub strain_of : ℕ → List ℤ → Strain
strain_of code profile = record { code = code; profile = profile }

-- f at so many numbers, from i on
unfoldable pub each {ℓ} : {A : Type ℓ} → (ℕ → A) → ℕ → ℕ → List A
each f i zero = []
each f i (suc many) = f i ∷ each f (suc i) many

-- the strain of record i
abbrev pub strain_at : List ℕ → ℕ → Strain
strain_at xs i = record { code = code_at xs i; profile = profile_at xs i }

-- all of them, in file order
unfoldable pub strains_of : List ℕ → List Strain
strains_of xs = each (strain_at xs) 0 (count_of xs)
