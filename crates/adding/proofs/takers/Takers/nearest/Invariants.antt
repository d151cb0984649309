-- `Takers::nearest` meets its contract: what is found so far is the best of the root and the records before `from`. Assumes nothing.
use Prim.Native.Nat.{◌-◌, ◌≤◌}
use Rattle.profile.specs.Metric.{metric_number}
use Rattle.image.specs.Fields.{root_of}
use Rattle.content.specs.Content.{record_at}
use Rattle.content.specs.Adding.{taker_below}
use Rattle.adding.specs.Steps.{Seated}
use Rattle.adding.proofs.takers.Takers.nearest.Given as goal

abbrev pub invariant-loop-i : goal.invariant-loop-i
invariant-loop-i l =
    let at = record_at l.self.records.image.now in let metric = metric_number l.self.records.shape.metric in
    record {
      inside : l.from ≤ l.self.filled;
      best : Seated metric l.self.profile.now at l.best (taker_below metric l.self.profile.now (root_of l.self.records.image.now) at l.from);
    }

abbrev pub decreases-loop-i : goal.decreases-loop-i
decreases-loop-i l = l.self.filled - l.from
