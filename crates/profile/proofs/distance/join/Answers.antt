use mathlib.Core.Path.{◌≡◌}
use Prim.Native.Nat.{◌+◌}
use native.Mathlib.Omega.{arith}
use borrow.Author.Rules.{rules}
use lib.IntN.{pos}
use lib.ListN.{drop}
use mir.Syntax.{w16}
use mir.Val.{SFits}
use mir.ValLaws.{to_z-of_z}
use Rattle.profile.specs.Distance.{gap, joined}
use Rattle.profile.proofs.Distances.{joined_step, joined_end}
use Rattle.profile.proofs.distance.join.Goals as goal

pub loop-i-preserved : goal.loop-i-preserved
unfolding gap
loop-i-preserved g c =
    let j = g.J.Joined in let law = g.met.J.Joined.laws in
    let a = g.A.Profile.wells c.args.a in let b = g.B.Profile.wells c.args.b in let i = c.loop-i.i in
    let d = c.difference.result in
    let hx : SFits w16 c.well.result = search rules in
    let hy : SFits w16 c.well-in-loop-i.result = search rules in
    let is_gap : d ≡ gap c.well.result c.well-in-loop-i.result = simp to_z-of_z at c.difference.ensures in
    let so_far = j.so_far c.loop-i.so_far in let rest = joined j.op (drop (i + 1) a) (drop (i + 1) b) in
    let met = joined_step j.op i a b (pos 0) (omega arith) (omega arith) in (
      omega arith,
      omega (arith, law.within so_far d),
      cc (is_gap, c.well.ensures, c.well-in-loop-i.ensures, c.and-so_far.ensures, met, law.assoc so_far d rest, c.loop-i.invariant.2),
    )

pub returns-clause-exact : goal.returns-clause-exact
returns-clause-exact g c =
    let j = g.J.Joined in let a = g.A.Profile.wells c.args.a in let b = g.B.Profile.wells c.args.b in let i = c.loop-i.i in
    cc (joined_end j.op i a (drop i b) (omega arith), g.met.J.Joined.laws.last (j.so_far c.loop-i.so_far), c.loop-i.invariant.2)
