-- `nearest::nearest` meets its contract: what the loop has kept leads to the nearest strains. Assumes nothing.
use mathlib.Core.Path.{◌≡◌}
use Prim.Native.Nat.{◌-◌}
use Rattle.search.proofs.Seeking.{Seeking}
use Rattle.search.proofs.nearest.nearest.Given as goal

abbrev pub invariant-loop-met : goal.invariant-loop-met
invariant-loop-met l = record {
  walk : l.passage.walk ≡ l.walk;
  plate : l.passage.plate.now ≡ l.plate;
  seeking : Seeking l.walk.library.records.image.now l.plate l.fn.asked.many l.best l.passage.place;
}

abbrev pub decreases-loop-met : goal.decreases-loop-met
decreases-loop-met l = l.walk.library.records.shape.count - l.passage.place
