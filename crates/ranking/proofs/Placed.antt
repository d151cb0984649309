-- Lists in ascending order, as the library's sort and its search say it: by their places. Assumes nothing.
use mathlib.Core.Path.{◌≡◌}
use mathlib.Core.List.{List, [], ◌∷◌}
use Prim.Native.Nat.{ℕ, zero, suc, ◌≤◌, ◌<◌}
use native.Mathlib.Omega.{arith}
use lib.ListN.{length, get_or}
use Rattle.std.specs.List.Sorted.{IsNonDecreasingBy}
use Rattle.ranking.specs.Order.{Ascending}
use Rattle.ranking.proofs.Places.{mem_get_or, get_or_mem}

module _ {A : Type 0} {key : A → ℕ} where
  pub places_ascend : {xs : List A} → Ascending key xs → IsNonDecreasingBy key xs
  places_ascend Ascending.none i j d low h = absurd (omega arith)
  places_ascend (Ascending.next first rest) zero zero d low h = omega arith
  places_ascend (Ascending.next {xs = xs} first rest) zero (suc j) d low h = first (get_or xs j d) (mem_get_or xs j d (omega arith))
  places_ascend (Ascending.next first rest) (suc i) zero d low h = absurd (omega arith)
  places_ascend (Ascending.next first rest) (suc i) (suc j) d low h = places_ascend rest i j d (omega arith) (omega arith)

  pub ascending_places : (xs : List A) → IsNonDecreasingBy key xs → Ascending key xs
  ascending_places [] up = Ascending.none
  ascending_places (x ∷ xs) up =
      Ascending.next (λ y m. above y (get_or_mem x m))
      (ascending_places xs (λ i j d low h. up (suc i) (suc j) d (omega arith) (omega arith)))
    where
      above : (y : A) → (i : ℕ) × (i < length xs) × (get_or xs i x ≡ y) → key x ≤ key y
      above y p = rw p.2 at (up 0 (suc p.0) x (omega arith) (omega (arith, p.1)))
