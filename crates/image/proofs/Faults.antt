-- The rules of a call find what the lines of the table say, so its verdict is the table's. Assumes nothing.
use mathlib.Core.Path.{◌≡◌, refl, sym, subst}
use mathlib.Core.Bool.{Bool, cond}
use mathlib.Core.List.{List, [], ◌∷◌, ◌++◌}
use Rattle.std.specs.Prelude.{Option, Some, None}
use Prim.Native.Nat.{ℕ}
use native.Mathlib.Omega.{arith}
use lib.Dec.{ltb}
use borrow.Author.Tests.{lt-ltb, ltb-true}
use Rattle.image.specs.declared.refusal.Place.{Place}
use Rattle.image.specs.First.{first_below, later_below}
use Rattle.image.specs.Verdict.{accepted, refused, Rule, rule, when, at_first, at_pair, judge}
use Rattle.image.specs.Faults.{Line, line, Whole, whole, AtRecord, record_is, AtPair, pair_is, FirstFault, here, NoFault}
use Rattle.image.proofs.Tests.{Tells, told_true, cond_some}
use Rattle.image.proofs.First.{first_of_lem, first_only, pair_of, pair_only}

-- a rule finds a place exactly where its line applies
pub record Finds (f : Option Place) (Applies : Place → Type 0) : Type 0 where
  pub sound : (p : Place) → f ≡ Some p → Applies p
  pub complete : (p : Place) → Applies p → f ≡ Some p

pub finds_whole : {b : Bool} {P : Type 0} → Tells b P → Finds (when b) (Whole P)
unfolding when
finds_whole {b} {P} t = record {
  sound = λ p e. let s = cond_some b Place.None p e in subst (Whole P) s.1 (whole (t.yes s.0));
  complete = λ p a. by p a;
}
  where
    by : (p : Place) → Whole P p → cond b (Some Place.None) None ≡ Some p
    by p (whole h) = rw (told_true t h) refl

pub finds_first : {p : ℕ → Bool} {P : ℕ → Type 0} → ((i : ℕ) → Tells (p i) (P i)) → (n : ℕ) → Finds (at_first n p) (AtRecord n P)
unfolding at_first
finds_first {p} {P} t n = record {
  sound = λ q e. let s = cond_some _ _ q e in subst (AtRecord n P) s.1 (record_is (first_of_lem t n (ltb-true _ _ s.0)));
  complete = by;
}
  where
    by : (q : Place) → AtRecord n P q → cond (ltb (first_below n p) n) (Some (Place.Record (first_below n p))) None ≡ Some q
    by q (record_is {i = i} f) = rw (first_only t n i f, lt-ltb i n f.below) refl

pub finds_pair : {p : ℕ → ℕ → Bool} {P : ℕ → ℕ → Type 0} → ((l e : ℕ) → Tells (p l e) (P l e)) → (n : ℕ) → Finds (at_pair n p) (AtPair n P)
unfolding at_pair
finds_pair {p} {P} t n = record {
  sound = λ q e. let s = cond_some _ _ q e in subst (AtPair n P) s.1 (pair_is (pair_of t n (ltb-true _ _ s.0)));
  complete = by;
}
  where
    by : (q : Place) → AtPair n P q
        → cond (ltb (later_below n p) n) (Some (Place.Pair (first_below (later_below n p) (p (later_below n p))) (later_below n p))) None ≡ Some q
    by q (pair_is {earlier = e} {later = l} f) =
        let s = pair_only t n e l f in
        rw (s.0, lt-ltb l n f.is_later.below, s.1) refl

-- each rule finds what its line says, under the same number
pub data Match : List Rule → List Line → Type 1 where
  end : Match [] []
  next : {m : ℕ} {f : Option Place} {Applies : Place → Type 0} {rules : List Rule} {lines : List Line}
      → Finds f Applies → Match rules lines → Match (rule m f ∷ rules) (line m Applies ∷ lines)

-- rules behind rules find what lines behind lines say
pub match_append : {rules more : List Rule} {lines rest : List Line} → Match rules lines → Match more rest → Match (rules ++ more) (lines ++ rest)
match_append end n = n
match_append (next f m) n = next f (match_append m n)

nothing_some : {q : Place} → None ≡ Some q → ⊥
nothing_some e = let z : ◌≡◌ {A = ℕ} 0 1 = cc in absurd (omega arith)

taken : {m : ℕ} {p : Place} → accepted ≡ refused m p → ⊥
taken e = let z : ◌≡◌ {A = ℕ} 0 1 = cc in absurd (omega arith)

-- the verdict is a refusal exactly where the table gives it
pub verdict_first : {rules : List Rule} {lines : List Line} → Match rules lines → (m : ℕ) (p : Place) → judge rules ≡ refused m p → FirstFault lines m p
unfolding judge
verdict_first end m p e = absurd (taken e)
verdict_first (next {f = None} s t) m p e = FirstFault.past (λ q a. nothing_some (s.complete q a)) (verdict_first t m p e)
verdict_first (next {m = k} {f = Some q} {Applies = Applies} {lines = lines} s t) m p e =
    let i : k ≡ m = cc in let j : q ≡ p = cc in
    subst (λ (x : ℕ). FirstFault (line k Applies ∷ lines) x p) i (here (subst Applies j (s.sound q refl)))

pub first_verdict : {rules : List Rule} {lines : List Line} {m : ℕ} {p : Place} → Match rules lines → FirstFault lines m p → judge rules ≡ refused m p
unfolding judge
first_verdict {m = m} {p = p} end x4 = elim x4 [ ]
first_verdict (next {f = f} s t) (here {p = p} a) = rw (s.complete p a) refl
first_verdict (next {f = None} s t) (FirstFault.past n b) = first_verdict t b
first_verdict (next {f = Some q} s t) (FirstFault.past n b) = absurd (n q (s.sound q refl))

pub verdict_none : {rules : List Rule} {lines : List Line} → Match rules lines → judge rules ≡ accepted → NoFault lines
unfolding judge
verdict_none end e = NoFault.none
verdict_none (next {f = None} s t) e = NoFault.past (λ q a. nothing_some (s.complete q a)) (verdict_none t e)
verdict_none (next {f = Some q} s t) e = absurd (taken (sym e))

pub none_verdict : {rules : List Rule} {lines : List Line} → Match rules lines → NoFault lines → judge rules ≡ accepted
unfolding judge
none_verdict end NoFault.none = refl
none_verdict (next {f = None} s t) (NoFault.past n b) = none_verdict t b
none_verdict (next {f = Some q} s t) (NoFault.past n b) = absurd (n q (s.sound q refl))
