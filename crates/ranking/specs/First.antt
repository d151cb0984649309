-- The first k of a list in order of a key, and the running list that has kept them of all that was offered. Assumes nothing.
use mathlib.Core.List.{List, foldl}
use Rattle.std.specs.Prelude.{ℕ, take}
use Rattle.ranking.specs.Sort.{insert, sort_by}

module _ {A : Type 0} (key : A → ℕ) (k : ℕ) where
  unfoldable pub first_k : List A → List A
  first_k xs = take k (sort_by key xs)

  -- a running list, once x is offered to it
  unfoldable pub offered : A → List A → List A
  offered x kept = take k (insert key x kept)

  -- a running list, once all of xs are offered to it
  unfoldable pub offers : List A → List A → List A
  offers xs kept = foldl (λ ys x. offered x ys) kept xs
