-- What the code's searches give: `find` over the numbers below n, and loops that go up. Assumes nothing.
use Rattle.std.proofs.Common.{◌≡◌, refl, sym, ◌∙◌, ap, Bool, true, false, cond, ℕ, ◌+◌, ◌≤◌, ◌<◌, arith, Option, Some, None, Bor, MatchOption}
use native.Mathlib.Nat.{le_refl}
use denote.Param.Members.{Mut}
use lib.Dec.{ltb}
use borrow.Author.Count.{below_more}
use borrow.Author.Tests.{lt-ltb, le-ltb, ltb-false}
use Rattle.std.proofs.iter.Yields.{nat_range_steps}
use Rattle.std.proofs.lemmas.Iterator.{first_from_Range}
use Rattle.std.specs.Fn.{CalledAt}
use Rattle.std.specs.Iterator.{FindsItem}
use Rattle.std.specs.Option.{option_map}
use Rattle.std.specs.declared.ops.Range.{Range}
use Rattle.image.specs.declared.refusal.Place.{Place}
use Rattle.image.specs.First.{first_below, first_some, later_below}
use Rattle.image.specs.Verdict.{at_first, at_pair}
use Rattle.image.proofs.First.{found, none_found, first_none}
use Rattle.image.proofs.Tests.{cond_none, cond_some}

pub some_found : {n i : ℕ} {p : ℕ → Bool} → i < n → p i ≡ true → ((k : ℕ) → k < i → p k ≡ false) → Some i ≡ first_some n p
unfolding first_some
some_found {n} {i} {p} l hit before = rw (← found l before hit, lt-ltb i n l) refl

pub none_some : (n : ℕ) (p : ℕ → Bool) → ((k : ℕ) → k < n → p k ≡ false) → first_some n p ≡ None
unfolding first_some
none_some n p none = rw (← none_found {p = p} (le_refl n) none, le-ltb n n (le_refl n)) refl

some_none : (n : ℕ) (p : ℕ → Bool) → first_some n p ≡ None → (k : ℕ) → k < n → p k ≡ false
unfolding first_some
some_none n p e = first_none n p (ltb-false _ _ (cond_none _ _ e))

-- ---- `find`, by a closure that computes p

pub find_gives : {F : Type 0} {g : Mut F (Bor ℕ × Unit {0}) Bool} {n : ℕ} (p : ℕ → Bool) (u : Range ℕ) (f : F) (r : Option ℕ)
    → FindsItem nat_range_steps g (record { start = 0; end = n }) f r u → ((x : ℕ) (b : Bool) (q : F) → CalledAt g f x b q → (q ≡ f) × (b ≡ p x))
    → r ≡ first_some n p
find_gives {n = n} p u f r ran closure =
    by r (first_from_Range _ u f r (λ k. p k ≡ true) (λ k. p k ≡ false) ran
    (λ x q k. sym (closure x true q k).1) (λ x q k. ((closure x false q k).0, sym (closure x false q k).1)))
  where
    by : (r : Option ℕ)
        → MatchOption r ((k : ℕ) → 0 ≤ k → k < n → p k ≡ false) (λ i. (0 ≤ i) × (i < n) × (p i ≡ true) × ((k : ℕ) → 0 ≤ k → k < i → p k ≡ false))
        → r ≡ first_some n p
    by None none = sym (none_some n p (λ k h. none k (omega arith) h))
    by (Some i) first = some_found first.1 first.2 (λ k h. first.3 k (omega arith) h)

-- and the place of the record that it gives
pub record_gives : {F : Type 0} {g : Mut F (Bor ℕ × Unit {0}) Bool} {n c : ℕ} {p : ℕ → Bool} {place : Option Place} (u : Range ℕ) (f : F) (r : Option ℕ)
    → FindsItem nat_range_steps g (record { start = 0; end = n }) f r u → ((x : ℕ) (b : Bool) (q : F) → CalledAt g f x b q → (q ≡ f) × (b ≡ p x))
    → place ≡ option_map Place.Record r → n ≡ c → place ≡ at_first c p
unfolding first_some at_first
record_gives {n = n} {c = c} {p = p} u f r ran closure is s =
    is ∙ ap (option_map Place.Record) (find_gives p u f r ran closure) ∙ by (ltb (first_below n p) n) ∙ rw s refl
  where
    by : (b : Bool) → option_map Place.Record (cond b (Some (first_below n p)) None) ≡ cond b (Some (Place.Record (first_below n p))) None
    by true = refl
    by false = refl

pub record_none : (n : ℕ) (p : ℕ → Bool) → ((k : ℕ) → k < n → p k ≡ false) → at_first n p ≡ None
unfolding at_first
record_none n p none = rw (← none_found {p = p} (le_refl n) none, le-ltb n n (le_refl n)) refl

-- ---- a loop that goes up: none is found before i, and what i adds

pub first_zero : (p : ℕ → Bool) → first_some 0 p ≡ None
first_zero p = none_some 0 p (λ k h. absurd (omega arith))

pub first_more : (i : ℕ) (p : ℕ → Bool) → first_some i p ≡ None → p i ≡ false → first_some (i + 1) p ≡ None
first_more i p none e = none_some (i + 1) p (below_more _ _ (some_none i p none) e)

pub first_hit : (n i : ℕ) (p : ℕ → Bool) → first_some i p ≡ None → i < n → p i ≡ true → Some i ≡ first_some n p
first_hit n i p none l e = some_found l e (some_none i p none)

-- ---- the same of later numbers, each looked up among the earlier ones

pub pair_none : (n : ℕ) (p : ℕ → ℕ → Bool) → ((later : ℕ) → later < n → first_some later (p later) ≡ None) → at_pair n p ≡ None
unfolding at_pair later_below first_some
pair_none n p none =
    rw (← none_found {p = λ later. ltb (first_below later (p later)) later} (le_refl n) (λ k h. cond_none _ _ (none k h)), le-ltb n n (le_refl n)) refl

no_pair : (n : ℕ) (p : ℕ → ℕ → Bool) → at_pair n p ≡ None → (later : ℕ) → later < n → first_some later (p later) ≡ None
unfolding at_pair later_below first_some
no_pair n p e later h = rw (first_none n (λ later. ltb (first_below later (p later)) later) (ltb-false _ _ (cond_none _ _ e)) later h) refl

pub pair_zero : (p : ℕ → ℕ → Bool) → at_pair 0 p ≡ None
pair_zero p = pair_none 0 p (λ k h. absurd (omega arith))

pub pair_more : (i : ℕ) (p : ℕ → ℕ → Bool) → at_pair i p ≡ None → first_some i (p i) ≡ None → at_pair (i + 1) p ≡ None
pair_more i p none e = pair_none (i + 1) p (below_more _ _ (no_pair i p none) e)

pub pair_hit : (n later earlier : ℕ) (p : ℕ → ℕ → Bool) → at_pair later p ≡ None → later < n → first_some later (p later) ≡ Some earlier
    → Some (Place.Pair earlier later) ≡ at_pair n p
unfolding at_pair later_below first_some
pair_hit n later earlier p none l e =
    let s = cond_some _ _ _ e in
    let is = found {p = λ later. ltb (first_below later (p later)) later} l (λ k h. cond_none _ _ (no_pair later p none k h)) s.0 in
    rw (← is, lt-ltb later n l, s.1) refl

pub ruleset searches = (first_zero, first_more, first_hit, pair_zero, pair_more, pair_hit)
