-- `Headed::equal_codes` meets its contract: no record before the loop's has an earlier one with its code, and the slot of each is marked.
-- Assumes nothing.
use Rattle.std.proofs.Common.{◌≡◌, None}
use Rattle.image.specs.Verdict.{at_pair}
use Rattle.checker.specs.Tests.{same_code}
use Rattle.checker.proofs.Marks.{Marked}
use Rattle.checker.proofs.headed.Headed.equal_codes.Given as goal

abbrev pub invariant-loop-later : goal.invariant-loop-later
invariant-loop-later l = (at_pair l.later (same_code l.self.records.image.now) ≡ None) × Marked l.self.records.image.now l.marked l.later
