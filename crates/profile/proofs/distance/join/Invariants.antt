-- `distance::join` meets its contract. What is joined so far, joined with the differences of the wells left, is the whole. Assumes nothing.
use mathlib.Core.Path.{◌≡◌}
use Prim.Native.Nat.{◌*◌, ◌≤◌}
use lib.ListN.{drop}
use Rattle.profile.specs.Distance.{joined}
use Rattle.profile.proofs.distance.join.Given as goal

abbrev pub invariant-loop-i : goal.invariant-loop-i
invariant-loop-i g l =
    let j = g.J.Joined in let xs = g.A.Profile.wells l.a in let ys = g.B.Profile.wells l.b in
    (l.i ≤ l.wells) × (j.so_far l.so_far ≤ 65535 * l.i) × (j.op (j.so_far l.so_far) (joined j.op (drop l.i xs) (drop l.i ys)) ≡ joined j.op xs ys)
