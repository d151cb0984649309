-- Lists in ascending order of a key, and lists in which no two elements have one key. Assumes nothing.
use Rattle.std.specs.Prelude.{◌≢◌, ℕ, ◌≤◌}
use mathlib.Core.List.{List, [], ◌∷◌, Memᴰ}

-- no element has a higher key than a later one
pub data Ascending {A : Type 0} (key : A → ℕ) : List A → Type 0 where
  none : Ascending key []
  next : {x : A} {xs : List A} → ((y : A) → Memᴰ y xs → key x ≤ key y) → Ascending key xs → Ascending key (x ∷ xs)

-- no two elements have one key
pub data Distinct {A : Type 0} (key : A → ℕ) : List A → Type 0 where
  none : Distinct key []
  next : {x : A} {xs : List A} → ((y : A) → Memᴰ y xs → key x ≢ key y) → Distinct key xs → Distinct key (x ∷ xs)
