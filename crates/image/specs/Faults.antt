-- A call's refusals as a reader says them: what each number of the table means, and which number is given. Assumes nothing.
use Rattle.std.specs.Prelude.{List, [], ◌∷◌, ℕ}
use Rattle.image.specs.declared.refusal.Place.{Place}
use Rattle.image.specs.First.{First, FirstPair}

-- a line of the table: its number, and where it applies
pub data Line : Type 1 where
  line : ℕ → (Place → Type 0) → Line

-- P applies, and no place is told
pub data Whole (P : Type 0) : Place → Type 0 where
  whole : P → Whole P Place.None

-- P applies to a record, and the first such record is told
pub data AtRecord (n : ℕ) (P : ℕ → Type 0) : Place → Type 0 where
  record_is : {i : ℕ} → First n P i → AtRecord n P (Place.Record i)

-- P applies to a later record and an earlier one, and the first such pair is told
pub data AtPair (n : ℕ) (P : ℕ → ℕ → Type 0) : Place → Type 0 where
  pair_is : {earlier later : ℕ} → FirstPair n P earlier later → AtPair n P (Place.Pair earlier later)

-- the line of number m applies at p, and no line before it applies
pub data FirstFault : List Line → ℕ → Place → Type 1 where
  here : {m : ℕ} {Applies : Place → Type 0} {lines : List Line} {p : Place} → Applies p → FirstFault (line m Applies ∷ lines) m p
  past : {k m : ℕ} {Applies : Place → Type 0} {lines : List Line} {p : Place} → ((q : Place) → Applies q → ⊥) → FirstFault lines m p
      → FirstFault (line k Applies ∷ lines) m p

-- no line applies
pub data NoFault : List Line → Type 1 where
  none : NoFault []
  past : {k : ℕ} {Applies : Place → Type 0} {lines : List Line} → ((q : Place) → Applies q → ⊥) → NoFault lines → NoFault (line k Applies ∷ lines)
