-- `codes::put_keys` meets its contract: in the loop, the first i are keys. Assumes nothing.
use mathlib.Core.Path.{◌≡◌}
use Prim.Native.Nat.{ℕ, ◌<◌}
use lib.ListN.{get_or}
use Rattle.order.specs.Key.{key_at}
use Rattle.order.proofs.codes.put_keys.Given as goal

abbrev pub invariant-loop-i : goal.invariant-loop-i
invariant-loop-i l = (k : ℕ) → k < l.i → get_or l.front k 0 ≡ key_at l.records.image.now k
