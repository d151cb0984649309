-- The search for the record that takes a new strain. Assumes nothing.
use mathlib.Core.Path.{◌≡◌, refl, sym, ◌∙◌, ap, subst}
use mathlib.Core.Logic.{⊎_elim}
use mathlib.Core.Bool.{Bool, true, false, cond, ◌||◌, ◌&&◌}
use mathlib.Core.List.{List}
use Prim.Native.Nat.{ℕ, zero, suc, ◌+◌, ◌≤◌, ◌<◌}
use native.Mathlib.Nat.{eq-or-lt_of_le}
use native.Mathlib.Numerals.{add-one}
use native.Mathlib.Omega.{arith}
use lib.IntN.{ℤ}
use Rattle.std.proofs.Common.{Ordering, Less, Equal, Greater}
use Rattle.std.specs.Ordering.{is_lt, ordering_then, nat_cmp}
use Rattle.image.specs.Fields.{root_of}
use Rattle.content.specs.Content.{Kept, nth, record_at, records_of, first_of}
use Rattle.content.specs.Adding.{distance_to, near_enough, nearer, taker_below, parent_for}
use Rattle.content.proofs.Records.{records_length, record_is}
use Rattle.adding.specs.Filled.{Filled}
use Rattle.adding.specs.Near.{Beyond}
use Rattle.adding.specs.Steps.{Seated}
use Rattle.adding.specs.declared.seat.Seat.{Seat}

-- of two pairs of numbers, the test which is the lesser
tested : (lt eq lt' eq' : Bool) → is_lt (ordering_then (cond lt Less (cond eq Equal Greater)) (cond lt' Less (cond eq' Equal Greater))) ≡ (lt || (eq && lt'))
tested true eq lt' eq' = refl
tested false true true eq' = refl
tested false true false true = refl
tested false true false false = refl
tested false false lt' eq' = refl

-- the order of seats: by distance, and then by code
abbrev pub by_key : Seat → Seat → Ordering
by_key a b = ordering_then (nat_cmp a.distance b.distance) (nat_cmp a.code b.code)

module _ (metric : ℕ) (x : List ℤ) (at : ℕ → Kept) where
  -- it is that of their records
  pub nearer_is : {a b : Seat} {u v : ℕ} → Seated metric x at a u → Seated metric x at b v → is_lt (by_key a b) ≡ nearer metric x (at u) (at v)
  unfolding nearer
  nearer_is p q = rw (p.distance, p.code, q.distance, q.code) (tested _ _ _ _)

  -- either of two seats is of its record
  either : {a b : Seat} {u v : ℕ} (t : Bool) → Seated metric x at a u → Seated metric x at b v → Seated metric x at (cond t a b) (cond t u v)
  either true p q = p
  either false p q = q

module _ (metric : ℕ) (x : List ℤ) (root : ℕ) (at : ℕ → Kept) where
  -- record i is near enough: the better of it and the best so far
  pub better_of : (i : ℕ) (a b : Seat) {r : Seat} → near_enough metric x (at i) ≡ true → Seated metric x at a i → Seated metric x at b (taker_below metric x root at i)
      → r ≡ cond (is_lt (by_key a b)) a b
      → Seated metric x at r (taker_below metric x root at (i + 1))
  unfolding taker_below
  better_of i a b n p q e = rw (e, add-one i, n, ← nearer_is metric x at p q) (either metric x at (is_lt (by_key a b)) p q)

  -- record i is not: the best so far is kept
  kept : (i : ℕ) {best : Seat} → Seated metric x at best (taker_below metric x root at i) → near_enough metric x (at i) ≡ false
      → Seated metric x at best (taker_below metric x root at (i + 1))
  unfolding taker_below
  kept i s e = rw (add-one i, e) s

  -- records beyond are passed over
  pub skipped : (from n : ℕ) {best : Seat} → from ≤ n → Beyond metric x at from n → Seated metric x at best (taker_below metric x root at from)
      → Seated metric x at best (taker_below metric x root at n)
  skipped from zero {best} h b s = subst (λ (k : ℕ). Seated metric x at best (taker_below metric x root at k)) (omega arith) s
  skipped from (suc n) {best} h b s =
      ⊎_elim (λ (e : from ≡ suc n). subst (λ (k : ℕ). Seated metric x at best (taker_below metric x root at k)) e s)
      (λ (l : from < suc n).
      subst
      (λ (k : ℕ). Seated metric x at best (taker_below metric x root at k))
      (add-one n)
      (kept n (skipped from n (omega arith) (record { none = λ k g u. b.none k g (omega arith) }) s) (b.none n (omega arith) (omega arith))))
      (eq-or-lt_of_le h)

  pub first_seat : {seat : Seat} (v : ℕ) → v ≡ root → Seated metric x at seat v → Seated metric x at seat (taker_below metric x root at 0)
  unfolding taker_below
  first_seat {seat} v e s = subst (Seated metric x at seat) e s

-- two records numbered in two ways, and a record more: what is best of them is one record, if it was so before
by_step : (metric : ℕ) (x : List ℤ) (at at' : ℕ → Kept) (n best best' : ℕ) → at n ≡ at' n → (best ≡ best') × (at best ≡ at' best') → (b b' : Bool)
    → near_enough metric x (at n) && nearer metric x (at n) (at best) ≡ b → near_enough metric x (at' n) && nearer metric x (at' n) (at' best') ≡ b'
    → (cond b n best ≡ cond b' n best') × (at (cond b n best) ≡ at' (cond b' n best'))
by_step metric x at at' n best best' here rest b b' e e' = subst (λ (z : Bool). (cond b n best ≡ cond z n best') × (at (cond b n best) ≡ at' (cond z n best'))) tests (both b)
  where
    tests : b ≡ b'
    tests = sym e ∙ (λ j. near_enough metric x (here j) && nearer metric x (here j) (rest.1 j)) ∙ e'

    both : (z : Bool) → (cond z n best ≡ cond z n best') × (at (cond z n best) ≡ at' (cond z n best'))
    both true = (refl, here)
    both false = rest

-- what is best depends on the records alone
taker_by : (metric : ℕ) (x : List ℤ) (root : ℕ) (at at' : ℕ → Kept) (n : ℕ) → at root ≡ at' root → ((i : ℕ) → i < n → at i ≡ at' i)
    → (taker_below metric x root at n ≡ taker_below metric x root at' n) × (at (taker_below metric x root at n) ≡ at' (taker_below metric x root at' n))
unfolding taker_below
taker_by metric x root at at' zero e h = (refl, e)
taker_by metric x root at at' (suc n) e h =
    by_step metric x at at' n _ _ (h n (omega arith)) (taker_by metric x root at at' n e (λ i k. h i (omega arith))) _ _ refl refl

module _ {xs : List ℕ} {metric wells count filled : ℕ} (f : Filled xs metric wells count filled) (x : List ℤ) where
  pub best_is : {seat : Seat} → Seated metric x (record_at xs) seat (taker_below metric x (root_of xs) (record_at xs) filled)
      → Seated metric x (nth (first_of xs filled).records) seat (parent_for (first_of xs filled) x)
  unfolding parent_for
  best_is s = record {
    parent = s.parent ∙ number;
    distance = s.distance ∙ ap (distance_to metric x) same;
    code = s.code ∙ ap (λ (r : Kept). r.strain.code) same;
  }
    where
      records : ℕ → Kept
      records = nth (records_of xs filled)

      by : (taker_below metric x (root_of xs) (record_at xs) filled ≡ taker_below metric x (root_of xs) records filled) × (record_at xs (taker_below metric x (root_of xs) (record_at xs) filled) ≡ records (taker_below metric x (root_of xs) records filled))
      by = taker_by metric x (root_of xs) (record_at xs) records filled (sym (record_is xs filled (root_of xs) f.root_in)) (λ i h. sym (record_is xs filled i h))

      told : taker_below metric x (root_of xs) records filled ≡ parent_for (first_of xs filled) x
      told = λ j. taker_below (f.is_metric j) x (root_of xs) records (sym (records_length xs filled) j)

      number : taker_below metric x (root_of xs) (record_at xs) filled ≡ parent_for (first_of xs filled) x
      number = by.0 ∙ told

      same : record_at xs (taker_below metric x (root_of xs) (record_at xs) filled) ≡ records (parent_for (first_of xs filled) x)
      same = by.1 ∙ ap records told
