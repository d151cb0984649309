-- Checks that document 01 has shut out: whatever else a program of such a kind does, it does not meet the contract. Assumes nothing.
use Rattle.std.specs.Prelude.{Ok}
use mathlib.Core.Path.{◌≡◌, sym, ◌∙◌, ap}
use mathlib.Core.Logic.{◌≢◌}
use Prim.Native.Nat.{ℕ}
use native.Mathlib.Omega.{arith}
use Rattle.image.specs.declared.refusal.Place.{Place}
use Rattle.image.specs.Verdict.{accepted, refused}
use Rattle.image.specs.Answer.{verdict_of}
use Rattle.checker.proofs.Answers.{one_answer}
use Rattle.claims.specs.Example.{example_with, example}
use Rattle.claims.specs.Programs.{CheckAsked, CheckProgram, MeetsCheck}
use Rattle.claims.proofs.Example.{example_accepted, lower_refused}
use Rattle.claims.proofs.Inputs.{example_bytes, uncovered_bytes}

module _ (program : CheckProgram) (meets : MeetsCheck program) where
  pub no_check_refuses_all : ((a : CheckAsked) → program a ≢ Ok tt) → ⊥
  no_check_refuses_all bad =
      let a : CheckAsked = record { image = example; is_image = example_bytes } in
      bad a (one_answer (program a) (Ok tt) (meets a ∙ example_accepted))

  pub no_check_accepts_all : ((a : CheckAsked) → program a ≡ Ok tt) → ⊥
  no_check_accepts_all bad =
      let a : CheckAsked = record { image = example_with 1; is_image = uncovered_bytes } in
      let e : accepted ≡ refused 12 (Place.Record 1) = sym (ap verdict_of (bad a)) ∙ meets a ∙ lower_refused in
      let z : ◌≡◌ {A = ℕ} 0 1 = cc in
      omega arith
