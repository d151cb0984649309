-- The first record at which something holds, and the first pair: as a search finds them, and as a reader says it. Assumes nothing.
use Rattle.std.specs.Prelude.{Option, Some, None, Bool, cond, ℕ, zero, suc, ◌<◌, ltb}

-- from i on, in at most so many tries; where none is found, the number behind the last try
unfoldable pub first_from : ℕ → ℕ → (ℕ → Bool) → ℕ
first_from zero i p = i
first_from (suc tries) i p = cond (p i) i (first_from tries (suc i) p)

-- the first number below n, or n
unfoldable pub first_below : ℕ → (ℕ → Bool) → ℕ
first_below n p = first_from n 0 p

-- the first number below n, if there is one
unfoldable pub first_some : ℕ → (ℕ → Bool) → Option ℕ
first_some n p = cond (ltb (first_below n p) n) (Some (first_below n p)) None

-- the first later number below n that has an earlier one with it, or n
unfoldable pub later_below : ℕ → (ℕ → ℕ → Bool) → ℕ
later_below n p = first_below n (λ later. ltb (first_below later (p later)) later)

-- i is the smallest number below n of which P holds
pub record First (n : ℕ) (P : ℕ → Type 0) (i : ℕ) : Type 0 where
  pub below : i < n
  pub holds : P i
  pub none : (k : ℕ) → k < i → P k → ⊥

-- `later` is the smallest number below n that has an earlier one with it, and `earlier` the smallest of those
pub record FirstPair (n : ℕ) (P : ℕ → ℕ → Type 0) (earlier later : ℕ) : Type 0 where
  pub is_later : First n (λ l. (e : ℕ) × (e < l) × P l e) later
  pub is_earlier : First later (P later) earlier
