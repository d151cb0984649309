-- `inside::gather` meets its contract: what was met, and what is left, is all that lies within the radius. Assumes nothing.
use mathlib.Core.Path.{◌≡◌}
use Prim.Native.Nat.{◌-◌}
use Rattle.search.proofs.Gathers.{GatheringAt}
use Rattle.search.proofs.inside.gather.Given as goal

abbrev pub invariant-loop-met : goal.invariant-loop-met
invariant-loop-met l = record {
  walk : l.passage.walk ≡ l.walk;
  plate : l.passage.plate.now ≡ l.plate;
  gathered : GatheringAt l.walk.library.records.image.now l.plate l.radius l.initial.ranks l.ranks l.passage.place l.strains l.passage.measured;
}

abbrev pub decreases-loop-met : goal.decreases-loop-met
decreases-loop-met l = l.walk.library.records.shape.count - l.passage.place
