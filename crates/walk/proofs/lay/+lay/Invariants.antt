-- `lay::lay` meets its contract: in the loop, the children before the one at hand are laid out. Assumes nothing.
use Prim.Native.Nat.{◌-◌}
use Rattle.walk.specs.Links.{next_in, linked_below}
use Rattle.walk.proofs.Lays.{Going}
use Rattle.walk.proofs.lay.+lay.Given as goal

abbrev pub decreases-lay : goal.decreases-lay
decreases-lay l = l.generations

abbrev pub invariant-loop-child : goal.invariant-loop-child
invariant-loop-child l =
    Going (next_in l.links) (linked_below l.links (l.generations - 1)) (linked_below l.links l.generations l.node) l.initial.steps l.initial.behind l.steps l.behind l.link.0

abbrev pub decreases-loop-child : goal.decreases-loop-child
decreases-loop-child l = 1024 - l.behind
