-- By distance and then by code: the order of ranks, said of the strains found. Assumes nothing.
use mathlib.Core.Path.{refl}
use mathlib.Core.List.{List, Memᴰ}
use Prim.Native.Nat.{◌<◌}
use native.Mathlib.Omega.{arith}
use Rattle.ranking.specs.Order.{Ascending, Distinct}
use Rattle.ranking.specs.Found.{Found, rank}
use Rattle.ranking.proofs.Ranks.{rank_lower, lower_rank}
use Rattle.claims.specs.Demand2.{InOrder, none, next}

-- every code of a list has 32 bits
abbrev pub Coded : List Found → Type 0
Coded fs = (f : Found) → Memᴰ f fs → f.code < 4294967296

pub in_order : {fs : List Found} → Coded fs → Ascending rank fs → Distinct rank fs → InOrder fs
in_order fits Ascending.none Distinct.none = none
in_order fits (Ascending.next {x = f} {xs = fs} low up) (Distinct.next apart d) =
    next (λ g m. rank_lower f g (fits f (Memᴰ.head refl)) (fits g (Memᴰ.tail m)) (omega (arith, low g m, apart g m))) (in_order (λ g m. fits g (Memᴰ.tail m)) up d)

pub order_ascending : {fs : List Found} → Coded fs → InOrder fs → Ascending rank fs
order_ascending fits none = Ascending.none
order_ascending fits (next {f = f} {fs = fs} before o) =
    Ascending.next {x = f} (λ g m. let h : rank f < rank g = lower_rank f g (fits f (Memᴰ.head refl)) (fits g (Memᴰ.tail m)) (before g m) in omega arith) (order_ascending (λ g m. fits g (Memᴰ.tail m)) o)

pub order_distinct : {fs : List Found} → Coded fs → InOrder fs → Distinct rank fs
order_distinct fits none = Distinct.none
order_distinct fits (next {f = f} {fs = fs} before o) =
    Distinct.next {x = f} (λ g m e. let h : rank f < rank g = lower_rank f g (fits f (Memᴰ.head refl)) (fits g (Memᴰ.tail m)) (before g m) in absurd (omega (arith, e))) (order_distinct (λ g m. fits g (Memᴰ.tail m)) o)
