-- `sort::put_in` meets its contract: in the loop, the number among the first i, with what stands behind place i, is the whole.
-- Assumes nothing.
use mathlib.Core.Path.{◌≡◌}
use Prim.Native.Nat.{◌<◌}
use lib.ListN.{length, take}
use Rattle.ranking.specs.Sort.{itself}
use Rattle.ranking.specs.Order.{Ascending}
use Rattle.ranking.proofs.Shift.{put_at}
use Rattle.ranking.proofs.sort.put_in.Given as goal

abbrev pub invariant-loop-i : goal.invariant-loop-i
invariant-loop-i l = (l.i < length l.keys) × (length l.keys ≡ length l.initial.keys) × Ascending itself (take l.i l.keys) × (put_at l.key l.i l.keys ≡ put_at l.key l.at l.initial.keys)

abbrev pub decreases-loop-i : goal.decreases-loop-i
decreases-loop-i l = l.i
