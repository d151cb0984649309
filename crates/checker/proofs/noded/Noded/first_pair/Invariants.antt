-- `Noded::first_pair` meets its contract: no record before the loop's has an earlier one too near. Assumes nothing.
use Rattle.std.proofs.Common.{◌≡◌, None}
use Rattle.image.specs.Verdict.{at_pair}
use Rattle.checker.specs.Tests.{too_near}
use Rattle.checker.proofs.noded.Noded.first_pair.Given as goal

abbrev pub invariant-loop-later : goal.invariant-loop-later
invariant-loop-later l = at_pair l.later (too_near l.self.headed.records.image.now) ≡ None
