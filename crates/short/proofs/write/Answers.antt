use mathlib.Core.Path.{refl, ◌∙◌, ap, ap₂}
use Prim.Native.Nat.{◌+◌}
use native.Mathlib.Omega.{arith}
use lib.ListN.{length, take}
use lib.Seq.{sets, length-sets, take_all}
use Rattle.short.specs.Short.{by_turns}
use Rattle.short.proofs.Turns.{turns_put}
use Rattle.short.proofs.write.Goals as goal

pub loop-i-init : goal.loop-i-init
unfolding by_turns
loop-i-init c = (omega arith, refl, refl)

pub put_u32-requires : goal.put_u32-requires
unfolding by_turns
put_u32-requires c = omega arith

pub bounds-distances-i : goal.bounds-distances-i
unfolding by_turns
bounds-distances-i c = omega arith

pub put_u32-requires-in-loop-i : goal.put_u32-requires-in-loop-i
unfolding by_turns
put_u32-requires-in-loop-i c = omega (arith, c.put_u32.auto.image)

pub loop-i-preserved : goal.loop-i-preserved
loop-i-preserved c =
    let a = c.args in
    let e = turns_put a.out.now a.codes.now a.distances.now c.loop-i.i c.requires.0 (omega arith) c.loop-i.invariant.2
    c.put_u32.ensures c.put_u32-in-loop-i.ensures in
    (omega arith, ap length e ∙ length-sets a.out.now 0 (by_turns (take (c.loop-i.i + 1) a.codes.now) (take (c.loop-i.i + 1) a.distances.now)), e)

-- all places are written
pub returns : goal.returns
returns c =
    let a = c.args in
    c.loop-i.invariant.2 ∙ ap₂ (λ m n. sets a.out.now 0 (by_turns m n)) (take_all c.loop-i.i a.codes.now (omega arith)) (take_all c.loop-i.i a.distances.now (omega arith))
