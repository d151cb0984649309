-- `next_near` meets its contract: none before the loop's record is near enough. Assumes nothing.
use Rattle.profile.specs.Metric.{metric_number}
use Rattle.content.specs.Content.{record_at}
use Rattle.adding.specs.Near.{Beyond}
use Rattle.adding.proofs.takers.LookingTask.run.Given as goal

abbrev pub invariant-loop-i : goal.invariant-loop-i
invariant-loop-i l = Beyond (metric_number l.metric) l.takers.profile.now (record_at l.takers.records.image.now) l.from l.i
