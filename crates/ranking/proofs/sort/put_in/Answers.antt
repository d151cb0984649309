-- `sort::put_in` meets its contract: each greater number moves up, and the number is written where none is left. Assumes nothing.
use mathlib.Core.Path.{◌∙◌}
use native.Mathlib.Omega.{arith}
use lib.ListN.{length-set}
use lib.Seq.{lt-length-set}
use borrow.Author.Rules.{rules}
use Rattle.ranking.proofs.Shift.{shift_turn, shift_ascending, shift_end}
use Rattle.ranking.proofs.sort.put_in.Goals as goal
use Rattle.ranking.proofs.sort.put_in.Goals.{then-loop-i-test+else-key-keys, else-loop-i-test}

pub loop-i-preserved : goal.loop-i-preserved
loop-i-preserved c =
    let l = c.loop-i in (
      lt-length-set l.keys l.i _ (omega arith),
      length-set l.keys l.i _ ∙ l.invariant.1,
      shift_ascending l.i _ l.keys l.invariant.2,
      shift_turn _ l.i l.keys (search rules) l.invariant.0 (search rules) ∙ l.invariant.3,
    )

pub returns : goal.returns
returns c =
    let l = c.loop-i in
    shift_end _ l.i l.keys l.invariant.0 l.invariant.2
    (elim c.loop-i-test.branch [ else-loop-i-test w ↦ λ h. absurd (omega arith) | then-loop-i-test+else-key-keys w ↦ λ h. omega (arith, w.if-key-keys.false) ])
    ∙ l.invariant.3
