-- `wells::read` meets its contract: in the loop, the first i wells are read. Assumes nothing.
use mathlib.Core.Path.{◌≡◌}
use Prim.Native.Nat.{ℕ, ◌+◌, ◌*◌, ◌<◌}
use lib.IntN.{pos}
use lib.ListN.{get_or}
use Rattle.profile.specs.Bytes.{well_at}
use Rattle.order.proofs.wells.read.Given as goal

abbrev pub invariant-loop-i : goal.invariant-loop-i
invariant-loop-i l = (k : ℕ) → k < l.i → get_or l.front k (pos 0) ≡ well_at l.image (l.at + 2 * k)
