-- `Noded::first_near` meets its contract: no record before the loop's lies too near. Assumes nothing.
use Rattle.std.proofs.Common.{◌≡◌, None}
use Rattle.image.specs.First.{first_some}
use Rattle.checker.specs.Tests.{too_near}
use Rattle.checker.proofs.noded.Noded.first_near.Given as goal

abbrev pub invariant-loop-earlier : goal.invariant-loop-earlier
invariant-loop-earlier l = first_some l.earlier (too_near l.self.headed.records.image.now l.later) ≡ None
