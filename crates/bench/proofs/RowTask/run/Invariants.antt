-- A row meets its contract: what the rest of it gives is what the whole gives. Assumes nothing.
use mathlib.Core.Path.{◌≡◌}
use Prim.Native.Nat.{◌-◌, ◌≤◌}
use Rattle.profile.specs.Metric.{metric_number}
use Rattle.bench.specs.Row.{first_under}
use Rattle.bench.proofs.Rows.{row}
use Rattle.bench.proofs.RowTask.run.Given as goal

abbrev pub invariant-loop-j : goal.invariant-loop-j
invariant-loop-j g l =
    let distances = row (metric_number l.metric) l.image l.from l.wells (g.P.Profile.wells l.other) in
    (l.j ≤ l.count) × (first_under distances l.limit l.j (l.count - l.j) ≡ first_under distances l.limit 0 l.count)
