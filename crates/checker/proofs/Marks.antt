-- A code whose slot has no mark is the code of no earlier record. Assumes nothing.
use mathlib.Core.Path.{◌≡◌, ◌∙◌}
use mathlib.Core.Bool.{Bool, true, false}
use mathlib.Core.List.{List}
use Prim.Native.Nat.{ℕ, ◌+◌, ◌%◌, ◌<◌}
use native.Mathlib.Omega.{arith}
use lib.ListN.{length, get_or, set, length-set, length-replicate, replicate}
use borrow.Author.Tests.{ne_eqb}
use borrow.Author.Count.{below_more}
use Rattle.std.proofs.lemmas.Grind.{common_steps}
use Rattle.std.specs.Prelude.{None}
use Rattle.image.specs.Fields.{code_at}
use Rattle.image.specs.First.{first_some}
use Rattle.image.proofs.Searches.{none_some}
use Rattle.checker.specs.Tests.{same_code}

-- there is a mark for each slot, and the slot of every record before `later` is marked
pub record Marked (xs : List ℕ) (marks : List Bool) (later : ℕ) : Type 0 where
  pub all : length marks ≡ 2048
  pub marked : (k : ℕ) → k < later → get_or marks (code_at xs k % 2048) false ≡ true

pub no_marks : (xs : List ℕ) → Marked xs (replicate 2048 false) 0
no_marks xs = record { all = length-replicate {A = Bool} 2048 false; marked = λ k h. absurd (omega arith) }

pub unmarked : (xs : List ℕ) (marks : List Bool) (later : ℕ) → Marked xs marks later → get_or marks (code_at xs later % 2048) false ≡ false
    → first_some later (same_code xs later) ≡ None
unfolding same_code
unmarked xs marks later m z =
    none_some later _ (λ k h. ne_eqb (code_at xs later) (code_at xs k) (λ e. let t = m.marked k h in cc))

pub mark_more : (xs : List ℕ) (marks : List Bool) (later : ℕ) → Marked xs marks later → Marked xs (set marks (code_at xs later % 2048) true) (later + 1)
mark_more xs marks later m =
    let slot : ℕ = code_at xs later % 2048 in
    record {
      all = length-set marks slot true ∙ m.all;
      marked = below_more _ _ (λ k h. let e = m.marked k h in grind (arith, common_steps)) (grind (arith, common_steps, m.all));
    }

pub ruleset marks = (no_marks, unmarked, mark_more)
