-- `refusal` meets its contract. Assumes nothing.
use native.Mathlib.Omega.{arith}
use Rattle.host.proofs.word.refusal.Goals as goal

pub overflow_add-result : goal.overflow_add-result
overflow_add-result c = omega arith

pub returns : goal.returns
returns c = cc
