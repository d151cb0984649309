-- How the answers of a row follow. Assumes nothing.
use native.Mathlib.Omega.{arith}
use Rattle.bench.proofs.Rows.{row_end, row_found, row_on}
use Rattle.bench.proofs.RowTask.run.Goals as goal

pub returns-then-d-limit : goal.returns-then-d-limit
returns-then-d-limit g c = row_found _ c.loop-j.invariant.1 (omega arith) c.distance-d.ensures.exact c.if-d-limit.true

pub loop-j-preserved : goal.loop-j-preserved
loop-j-preserved g c = (omega arith, row_on _ c.loop-j.invariant.1 (omega arith) c.distance-d.ensures.exact c.if-d-limit.false)

pub returns : goal.returns
returns g c = row_end _ c.loop-j.invariant.1 (omega arith)
