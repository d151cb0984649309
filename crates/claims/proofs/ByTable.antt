-- An answer that goes by the verdict of a call's rules goes by the call's table. Assumes nothing.
use mathlib.Core.Path.{◌≡◌, refl, ◌∙◌, ap₂}
use mathlib.Core.List.{List}
use Prim.Native.Nat.{ℕ}
use native.Mathlib.Omega.{arith}
use Rattle.image.specs.declared.refusal.Place.{Place}
use Rattle.image.specs.Verdict.{Verdict, accepted, refused, Rule, judge}
use Rattle.image.specs.Faults.{Line}
use Rattle.image.specs.Answer.{Answer, given, denied, outcome}
use Rattle.image.proofs.Faults.{Match, verdict_first, first_verdict, verdict_none, none_verdict}
use Rattle.search.specs.Answer as search
use Rattle.claims.specs.Demand1.{VerdictBy, AnswerBy}

-- ---- an answer by a verdict

-- the verdict accepts and the answer tells something, or both refuse alike and nothing is changed
pub data GoesBy {Told : Type 0} (v : Verdict) (a : Answer Told) (Unchanged : Type 0) : Type 0 where
  gives : (t : Told) → v ≡ accepted → a ≡ given t → GoesBy v a Unchanged
  denies : (m : ℕ) (p : Place) → v ≡ refused m p → a ≡ denied m p → Unchanged → GoesBy v a Unchanged

-- the same answer, met elsewhere
pub goes_on : {Told : Type 0} {v : Verdict} {a a' : Answer Told} {Unchanged Unchanged' : Type 0} → a' ≡ a → (Unchanged → Unchanged') → GoesBy v a Unchanged
    → GoesBy v a' Unchanged'
goes_on e f (gives t g h) = gives t g (e ∙ h)
goes_on e f (denies m p g h u) = denies m p g (e ∙ h) (f u)

-- of a call that writes to the front of one slice
pub one_slice : (v : Verdict) (new buffer : List ℕ) → GoesBy v (outcome v new buffer).answer ((outcome v new buffer).buffer ≡ buffer)
unfolding outcome
one_slice accepted new buffer = gives _ refl refl
one_slice (refused m p) new buffer = denies m p refl refl refl

-- of a search
pub two_slices : {Told : Type 0} (v : Verdict) (good : search.Outcome Told) (codes distances : List ℕ) (t : Told) → good.answer ≡ given t
    → GoesBy v (search.outcome v good codes distances).answer
    (((search.outcome v good codes distances).codes ≡ codes) × ((search.outcome v good codes distances).distances ≡ distances))
unfolding search.outcome
two_slices accepted good codes distances t e = gives t refl e
two_slices (refused m p) good codes distances t e = denies m p refl refl (refl, refl)

-- ---- by the table

clash : {Told : Type 0} {t : Told} {m : ℕ} {p : Place} {a : Answer Told} → a ≡ given t → a ≡ denied m p → ⊥
clash g d = let z : ◌≡◌ {A = ℕ} 0 1 = cc in absurd (omega arith)

opposed : {v : Verdict} {m : ℕ} {p : Place} → v ≡ accepted → v ≡ refused m p → ⊥
opposed a r = let z : ◌≡◌ {A = ℕ} 0 1 = cc in absurd (omega arith)

same_refusal : {Told : Type 0} {k m : ℕ} {q p : Place} {a : Answer Told} → a ≡ denied k q → a ≡ denied m p → refused k q ≡ refused m p
same_refusal {k = k} {m = m} {q = q} {p = p} d e = let i : k ≡ m = cc in let j : q ≡ p = cc in ap₂ refused i j

same_denial : {Told : Type 0} {k m : ℕ} {q p : Place} {v : Verdict} → v ≡ refused k q → v ≡ refused m p → ◌≡◌ {A = Answer Told} (denied k q) (denied m p)
same_denial {k = k} {m = m} {q = q} {p = p} d e = let i : k ≡ m = cc in let j : q ≡ p = cc in ap₂ denied i j

module _ {rules : List Rule} {lines : List Line} (table : Match rules lines) where
  pub verdict_by : VerdictBy lines (judge rules)
  verdict_by = record {
    fault = λ m p. (verdict_first table m p, first_verdict table);
    none = (verdict_none table, none_verdict table);
    unchanged = λ m p e. tt;
  }

  pub answer_by : {Told : Type 0} {a : Answer Told} {Unchanged : Type 0} → GoesBy (judge rules) a Unchanged → AnswerBy lines a Unchanged
  answer_by {Told} {a} (gives t v e) = record {
    fault = λ m p. (λ d. absurd (clash e d), λ f. absurd (opposed v (first_verdict table f)));
    none = (λ g. verdict_none table v, λ n. (t, e));
    unchanged = λ m p d. absurd (clash e d);
  }
  answer_by {Told} {a} (denies k q v e u) = record {
    fault = λ m p. (λ d. verdict_first table m p (v ∙ same_refusal e d), λ f. e ∙ same_denial v (first_verdict table f));
    none = (λ g. absurd (clash g.1 e), λ n. absurd (opposed (none_verdict table n) v));
    unchanged = λ m p d. u;
  }

  -- an answer and a slice that are the outcome's
  pub front_by : (new buffer : List ℕ) {a : Answer ℕ} {b : List ℕ} → a ≡ (outcome (judge rules) new buffer).answer → b ≡ (outcome (judge rules) new buffer).buffer
      → AnswerBy lines a (b ≡ buffer)
  front_by new buffer e f = answer_by (goes_on e (λ u. f ∙ u) (one_slice (judge rules) new buffer))

  -- an answer and two slices that are a search's outcome
  pub both_by : {Told : Type 0} (good : search.Outcome Told) (codes distances : List ℕ) {t : Told} {a : Answer Told} {c d : List ℕ} → good.answer ≡ given t
      → a ≡ (search.outcome (judge rules) good codes distances).answer → c ≡ (search.outcome (judge rules) good codes distances).codes
      → d ≡ (search.outcome (judge rules) good codes distances).distances → AnswerBy lines a ((c ≡ codes) × (d ≡ distances))
  both_by good codes distances {t = t} g e f h =
      answer_by (goes_on e (λ u. (f ∙ u.0, h ∙ u.1)) (two_slices (judge rules) good codes distances t g))
