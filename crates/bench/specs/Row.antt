-- A row of distances, looked at from the front. Assumes nothing.
use Rattle.std.specs.Prelude.{cond, ℕ, zero, suc, ltb}

-- of the `left` distances from the j-th on, the first below the limit; the limit where none is
unfoldable pub first_under : (ℕ → ℕ) → ℕ → ℕ → ℕ → ℕ
first_under distance limit j zero = limit
first_under distance limit j (suc left) = cond (ltb (distance j) limit) (distance j) (first_under distance limit (suc j) left)
