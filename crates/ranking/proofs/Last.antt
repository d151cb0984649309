-- What holds of the empty list, and of a list with one more at its end, holds of every list. Assumes nothing.
use mathlib.Core.Path.{sym, subst}
use mathlib.Core.List.{List, [], ◌∷◌, ◌++◌, append-nil}
use lib.Seq.{append_snoc}

module _ {A : Type 0} (P : List A → Type 0) (more : (xs : List A) (x : A) → P xs → P (xs ++ x ∷ [])) where
  on : (done xs : List A) → P done → P (done ++ xs)
  on done [] p = subst P (sym (append-nil done)) p
  on done (x ∷ xs) p = subst P (append_snoc done x xs) (on (done ++ x ∷ []) xs (more done x p))

  pub by_last : P [] → (xs : List A) → P xs
  by_last p xs = on [] xs p
