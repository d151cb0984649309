-- What a call that writes to the front of one slice hands back, from its verdict. Assumes nothing.
use mathlib.Core.Path.{◌≡◌, refl, sym, ◌∙◌, ap}
use mathlib.Core.List.{List, ◌++◌}
use Prim.Native.Nat.{ℕ}
use native.Mathlib.Omega.{arith}
use lib.ListN.{length, take, drop}
use lib.Seq.{take_at, drop_at}
use Rattle.image.specs.declared.refusal.Place.{Place}
use Rattle.image.specs.declared.refusal.Refusal.{Refusal}
use Rattle.image.specs.Refusals.{number_of, place_of}
use Rattle.image.specs.Verdict.{Verdict, accepted, refused}
use Rattle.image.specs.Answer.{Answer, given, denied, Outcome, outcome}

-- refused, all is as it was
pub when_refused : (v : Verdict) (r : Refusal) (new buffer : List ℕ) → v ≡ refused (number_of r) (place_of r)
    → record { answer = denied (number_of r) (place_of r); buffer = buffer } ≡ outcome v new buffer
unfolding outcome
when_refused v r new buffer e = rw e refl

-- else what is new stands in front, and the rest is as it was
pub when_given : (v : Verdict) (n : ℕ) (new buffer now : List ℕ) → v ≡ accepted → length new ≡ n → now ≡ new ++ drop (length new) buffer
    → record { answer = given n; buffer = now } ≡ outcome v new buffer
unfolding outcome
when_given v n new buffer now e l h = rw (e, h, ← l) refl

-- rules that were passed before
pub after_rules : (v v' : Verdict) (new buffer : List ℕ) {o : Outcome} → o ≡ outcome v new buffer → v' ≡ v → o ≡ outcome v' new buffer
after_rules v v' new buffer h e = rw e h

-- ---- what an answer tells of the verdict

-- what is new stands in front of the buffer, and nothing was refused
pub record Gave (v : Verdict) (new buffer : List ℕ) (n : ℕ) : Type 0 where
  pub verdict : v ≡ accepted
  pub long : n ≡ length new
  pub front : take n (outcome v new buffer).buffer ≡ new
  pub behind : drop n (outcome v new buffer).buffer ≡ drop n buffer

value_of : Answer ℕ → ℕ
value_of (given n) = n
value_of (denied m p) = m

pub gave : (v : Verdict) (new buffer : List ℕ) (n : ℕ) → (outcome v new buffer).answer ≡ given n → Gave v new buffer n
unfolding outcome value_of
gave accepted new buffer n e =
    let l : length new ≡ n = ap value_of e in
    record {
      verdict = refl;
      long = sym l;
      front = take_at new (drop (length new) buffer) n l;
      behind = drop_at new (drop (length new) buffer) n l ∙ ap (λ (k : ℕ). drop k buffer) l;
    }
gave (refused m p) new buffer n e = let z : ◌≡◌ {A = ℕ} 0 1 = cc in absurd (omega arith)

-- a refusal is the verdict's
pub denies : (v : Verdict) (new buffer : List ℕ) (m : ℕ) (p : Place) → (outcome v new buffer).answer ≡ denied m p → v ≡ refused m p
unfolding outcome
denies accepted new buffer m p e = let z : ◌≡◌ {A = ℕ} 0 1 = cc in absurd (omega arith)
denies (refused k q) new buffer m p e = cc
