-- The check's contract leaves one answer. Assumes nothing.
use mathlib.Core.Path.{◌≡◌, refl, ap}
use Prim.Native.Nat.{ℕ}
use native.Mathlib.Omega.{arith}
use Rattle.std.specs.Prelude.{Ok, Err}
use Rattle.image.specs.Answer.{verdict_of}
use Rattle.image.proofs.Answers.{told_by}
use Rattle.checker.specs.Check.{Checked}

pub one_answer : (r s : Checked) → verdict_of r ≡ verdict_of s → r ≡ s
one_answer (Ok t) (Ok u) e = refl
one_answer (Ok t) (Err s) e = let z : ◌≡◌ {A = ℕ} 0 1 = cc in absurd (omega arith)
one_answer (Err r) (Ok t) e = let z : ◌≡◌ {A = ℕ} 0 1 = cc in absurd (omega arith)
one_answer (Err r) (Err s) e = ap Err (told_by r s (cc) (cc))
