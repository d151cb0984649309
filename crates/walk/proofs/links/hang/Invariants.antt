-- `links::hang` meets its contract: in the loop, the records from i on are linked. Assumes nothing.
use Rattle.walk.specs.Links.{Linked}
use Rattle.walk.proofs.links.hang.Given as goal

abbrev pub invariant-loop-i : goal.invariant-loop-i
invariant-loop-i l = Linked l.library.records.image.now l.links l.i
