use mathlib.Core.Path.{◌≡◌, ap, ◌∙◌}
use Prim.Native.Nat.{suc, ◌-◌, ◌<◌}
use native.Mathlib.Omega.{arith}
use lib.ListN.{length, set, length-set}
use Rattle.image.specs.Fields.{count_of}
use Rattle.walk.specs.Links.{first_in, Linked}
use Rattle.walk.proofs.Chains.{linked_root, linked_by, hung_first, hung_next}
use Rattle.walk.proofs.links.hang.Goals as goal
use Rattle.walk.proofs.links.hang.Goals.{In-loop-i}

-- the records behind the one at hand are linked
behind : (c : In-loop-i) → Linked c.args.library.now.records.image.now c.loop-i.links (suc (c.loop-i.i - 1))
behind c = let e : c.loop-i.i ≡ suc (c.loop-i.i - 1) = omega arith in rw e at c.loop-i.invariant

pub loop-i-preserved-then-i-library : goal.loop-i-preserved-then-i-library
loop-i-preserved-then-i-library c =
    let l = c.args.library.now in let links = c.loop-i.links in let i = c.loop-i.i - 1 in let parent = c.parent-parent.result in
    let few = l.library.layout.count.1 in
    let low : i < count_of l.records.image.now = omega (arith, l.is_count) in
    let within : parent < 1024 = omega (arith, c.parent-parent.ensures.exact, l.library.layout.parent i low) in
    let short : parent < length links = omega (arith, c.loop-i.invariant.long) in
    linked_by i low (behind (goal.at.loop-i-preserved-then-i-library c).In-loop-i) parent c.parent-parent.ensures.exact (λ e. omega (arith, l.is_root)) (omega arith) within
    (length-set _ parent _ ∙ length-set links i _) (hung_first links i parent _ _ short ∙ ap (set (first_in links) parent) c.to.ensures) (hung_next links i parent _ _ short)

pub loop-i-preserved : goal.loop-i-preserved
loop-i-preserved c = let l = c.args.library.now in linked_root _ (omega (arith, l.is_count)) (behind (goal.at.loop-i-preserved c).In-loop-i) (omega (arith, l.is_root))
