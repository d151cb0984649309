-- Lists in ascending order of a key. Assumes nothing.
use Rattle.std.specs.Prelude.{cond, ℕ, ltb}
use mathlib.Core.List.{List, [], ◌∷◌, foldl}

-- a number as its own key
abbrev pub itself : ℕ → ℕ
itself x = x

module _ {A : Type 0} (key : A → ℕ) where
  -- x put before the first element with a higher key
  unfoldable pub insert : A → List A → List A
  insert x [] = x ∷ []
  insert x (y ∷ ys) = cond (ltb (key x) (key y)) (x ∷ y ∷ ys) (y ∷ insert x ys)

  -- the elements, put in one after the other
  unfoldable pub sort_by : List A → List A
  sort_by xs = foldl (λ ys x. insert x ys) [] xs
