-- That a library is accepted is one fact: two proofs of it are the same. Assumes nothing.
use Rattle.std.specs.Prelude.{◌≡◌, ◌⊎◌, List, ℕ, ℤ, pos, negsuc}
use mathlib.Core.Path.{ap}
use mathlib.Core.Logic.{inl, inr}
use native.Mathlib.Omega.{arith}
use Rattle.std.proofs.Math.Bridge.{le_prop}
use Rattle.std.proofs.Props.{props}
use Rattle.profile.specs.Level.{◌>2^◌, ◌≤2^◌}
use Rattle.image.specs.Library.{Library}

same_number : (n m : ℕ) → IsProp (n ≡ m)
same_number n m = Prim.hlevel props

one_metric : (n : ℕ) → (x y : (n ≡ 1) ⊎ (n ≡ 2)) → x ≡ y
one_metric n (inl a) (inl b) = ap inl (same_number n 1 a b)
one_metric n (inl a) (inr b) = absurd (omega (arith, a, b))
one_metric n (inr a) (inl b) = absurd (omega (arith, a, b))
one_metric n (inr a) (inr b) = ap inr (same_number n 2 a b)

near_once : (d : ℕ) (z : ℤ) → IsProp (d ≤2^ z)
unfolding ◌≤2^◌
near_once d (pos n) = le_prop
near_once d (negsuc n) = le_prop

far_once : (d : ℕ) (z : ℤ) → IsProp (d >2^ z)
unfolding ◌>2^◌
far_once d (pos n) = le_prop
far_once d (negsuc n) = le_prop

pub library_once : (xs : List ℕ) → IsProp (Library xs)
library_once xs = Prim.hlevel (props, one_metric, near_once, far_once)
