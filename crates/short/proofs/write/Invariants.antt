-- `write` meets its contract: the places so far are written, by turns. Assumes nothing.
use mathlib.Core.Path.{◌≡◌}
use Prim.Native.Nat.{◌-◌, ◌≤◌}
use lib.ListN.{length, take}
use lib.Seq.{sets}
use Rattle.short.specs.Short.{by_turns}
use Rattle.short.proofs.write.Given as goal

abbrev pub invariant-loop-i : goal.invariant-loop-i
invariant-loop-i l = (l.i ≤ length l.codes) × (length l.out ≡ length l.initial.out) × (l.out ≡ sets l.initial.out 0 (by_turns (take l.i l.codes) (take l.i l.distances)))

abbrev pub decreases-loop-i : goal.decreases-loop-i
decreases-loop-i l = length l.codes - l.i
