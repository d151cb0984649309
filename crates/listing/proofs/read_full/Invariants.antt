-- `read_full` meets its contract: in the loop, no more was read than there is room for. Assumes nothing.
use Rattle.std.proofs.Common.{◌≤◌, ◌-◌, length}
use Rattle.listing.proofs.read_full.Given as goal

abbrev pub invariant-loop-at : goal.invariant-loop-at
invariant-loop-at g l = l.at ≤ length l.room

abbrev pub decreases-loop-at : goal.decreases-loop-at
decreases-loop-at g l = length l.room - l.at
