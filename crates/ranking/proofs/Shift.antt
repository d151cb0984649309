-- A number put in among the first of a list, which are in order, by moving up what is greater: the start, one turn, and the end. Assumes nothing.
use mathlib.Core.Path.{◌≡◌, refl, sym}
use mathlib.Core.Logic.{◌⊎◌, inl, inr}
use mathlib.Core.List.{List, [], ◌∷◌, ◌++◌}
use mathlib.Core.List.Memᴰ
use mathlib.Core.List.{Memᴰ}
use Prim.Native.Nat.{ℕ, zero, suc, ◌+◌, ◌-◌, ◌≤◌, ◌<◌}
use native.Mathlib.Numerals.{add-one}
use native.Mathlib.Omega.{arith}
use lib.ListN.{length, get_or, take, drop, set}
use lib.Seq.{take-suc, take-set-le, drop-set-lt, get_or-set_same, set_split, drop_at, append_snoc, length-take-le}
use Rattle.ranking.specs.Sort.{itself, insert}
use Rattle.ranking.specs.Order.{Ascending}
use Rattle.ranking.proofs.Insert.{insert_last, insert_within}
use Rattle.ranking.proofs.Order.{ascending_fewer, ascending_below}

-- x among the first i, and what stands behind place i
abbrev pub put_at : ℕ → ℕ → List ℕ → List ℕ
put_at x i ks = insert itself x (take i ks) ++ drop (i + 1) ks

-- the start: x is stored at place i
pub put_set : (x i : ℕ) (ks : List ℕ) → i < length ks → put_at (get_or (set ks i x) i 0) i (set ks i x) ≡ put_at x i ks
put_set x i ks room = rw (get_or-set_same ks i x 0 room, take-set-le i ks i x (omega arith), drop-set-lt (i + 1) ks i x (omega arith))

drop_set : (i y : ℕ) (ks : List ℕ) → i < length ks → drop i (set ks i y) ≡ y ∷ drop (suc i) ks
drop_set i y ks room = rw (set_split ks i y room) (drop_at (take i ks) (y ∷ drop (suc i) ks) i (length-take-le i ks (omega arith)))

-- one turn: the greater number before place i moves up, and x is to go in among fewer
pub shift_turn : (x i : ℕ) (ks : List ℕ) → 0 < i → i < length ks → x < get_or ks (i - 1) 0
    → put_at x (i - 1) (set ks i (get_or ks (i - 1) 0)) ≡ put_at x i ks
shift_turn x zero ks h room g = absurd (omega arith)
shift_turn x (suc j) ks h room g =
    let e : suc j - 1 ≡ j = omega arith in
    let y = get_or ks j 0 in
    let g' : x < y = rw e at g in
    rw (e, add-one, add-one, take-set-le j ks (suc j) y (omega arith), drop_set (suc j) y ks room, take-suc ks j 0 (omega arith))
    (rw (insert_within itself x y (take j ks) [] g') (sym (append_snoc (insert itself x (take j ks)) y (drop (suc (suc j)) ks))))

-- those are still in order
pub shift_ascending : (i y : ℕ) (ks : List ℕ) → Ascending itself (take i ks) → Ascending itself (take (i - 1) (set ks i y))
shift_ascending i y ks up = rw (take-set-le (i - 1) ks i y (omega arith)) (ascending_fewer (i - 1) i ks (omega arith) up)

-- where the last of a list in order is at most x, all are
below_last : (x z : ℕ) (ys : List ℕ) {y : ℕ} → Ascending itself (ys ++ z ∷ []) → z ≤ x → Memᴰ y ys ⊎ Memᴰ y (z ∷ []) → y ≤ x
below_last x z ys up h (inl m) = omega (arith, ascending_below ys (z ∷ []) up m (Memᴰ.head refl))
below_last x z ys up h (inr m) = omega (arith, Memᴰ.eq_of_singleton m)

pub none_above : (x i : ℕ) (ks : List ℕ) → i ≤ length ks → Ascending itself (take i ks) → (0 < i → get_or ks (i - 1) 0 ≤ x)
    → (y : ℕ) → Memᴰ y (take i ks) → y ≤ x
none_above x zero ks room up low y m = absurd (Memᴰ.not-nil m)
none_above x (suc j) ks room up low y m =
    let e : suc j - 1 ≡ j = omega arith in
    let s = take-suc ks j 0 (omega arith) in
    below_last x (get_or ks j 0) (take j ks) (rw s at up) (rw e at (low (omega arith))) (Memᴰ.append_cases (take j ks) (rw s at m))

-- the end: nothing before place i is greater, so that is the place
pub shift_end : (x i : ℕ) (ks : List ℕ) → i < length ks → Ascending itself (take i ks) → (0 < i → get_or ks (i - 1) 0 ≤ x)
    → set ks i x ≡ put_at x i ks
shift_end x i ks room up low =
    rw (set_split ks i x room, insert_last itself x (take i ks) (none_above x i ks (omega arith) up low), add-one)
    (sym (append_snoc (take i ks) x (drop (suc i) ks)))
