-- `place` meets its contract, case by case. Assumes nothing.
use mathlib.Core.Path.{sym, ◌∙◌, ap, ap₂}
use Prim.Native.Nat.{◌+◌}
use native.Mathlib.Omega.{arith}
use Rattle.host.specs.Word.{place_word}
use Rattle.host.proofs.word.place.Goals as goal

pub returns-in-None : goal.returns-in-None
returns-in-None c = (sym (ap place_word c.in-None.is), omega arith)

pub returns-in-Record : goal.returns-in-Record
returns-in-Record c = (ap (λ n. 256 + n) c.first.ensures.0 ∙ sym (ap place_word c.in-Record.is), omega arith)

pub returns-in-Pair : goal.returns-in-Pair
returns-in-Pair c = (ap₂ (λ m n. 512 + m + n) c.first-in-Pair.ensures.0 c.second.ensures.0 ∙ sym (ap place_word c.in-Pair.is), omega arith)
