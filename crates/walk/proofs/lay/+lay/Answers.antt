use Prim.Native.Nat.{ℕ, ◌+◌, ◌-◌, ◌<◌}
use native.Mathlib.Omega.{arith}
use Rattle.std.proofs.lemmas.List.{get_or-map}
use lib.ListN.{length}
use Rattle.walk.specs.Links.{linked_below, linked_tree, Placed}
use Rattle.walk.specs.declared.links.Links.{Links}
use Rattle.walk.proofs.Lays.{placed_over, placed_long, going_end, going_less, going_on, room_below, room_first, room_none, room_child}
use Rattle.walk.proofs.lay.+lay.Goals as goal
use Rattle.walk.proofs.lay.+lay.Goals.{then-generations-gt0+in_default, else-generations-gt0, Joined-generations-gt0, After-lay-behind}

-- what hangs below the record is laid out, whichever way control came
laid : (t : ℕ) (c : Joined-generations-gt0 t) →
    let a = c.args in
    Placed a.steps.now (a.at + 1) (linked_below a.links.now a.generations a.node) c.if-generations-gt0.steps c.if-generations-gt0.behind
laid t c =
    elim c.if-generations-gt0.branch [
      | then-generations-gt0+in_default w ↦ rw (w.steps-is, w.behind-is) (going_end (room_below c.requires) w.loop-child.invariant w.in_default.ensures)
      | else-generations-gt0 w ↦ rw (w.steps-is, w.behind-is) (room_none c.requires w.if-generations-gt0.false)
    ]

-- the child at hand is
child : (t : ℕ) (c : After-lay-behind t) → let l = c.loop-child in
    Placed l.steps l.behind (linked_tree c.args.links.now (c.args.generations - 1) l.link.0) c.lay-behind.new.steps c.lay-behind.result
child t c = rw c.in-Some.ensures.0 at c.lay-behind.ensures

pub loop-child-init : goal.loop-child-init
loop-child-init t c =
    let a = c.args in let low : a.node < length a.links.now = omega arith in
    rw (← get_or-map (λ (l : Links). l.child.0) a.links.now a.node _ 0 low) (room_first c.requires c.if-generations-gt0.true)

pub lay-behind-requires : goal.lay-behind-requires
lay-behind-requires t c =
    let h = c.in-Some.ensures in
    (omega (arith, c.decreases, c.if-generations-gt0.true), rw h.0 (room_child c.requires c.loop-child.invariant (rw h.0 at h.1)))

pub loop-child-smaller : goal.loop-child-smaller
loop-child-smaller t c = going_less (room_below c.requires) c.loop-child.invariant (rw c.in-Some.ensures.0 at c.in-Some.ensures.1) (child t (goal.at.loop-child-smaller t c).After-lay-behind)

pub loop-child-preserved : goal.loop-child-preserved
loop-child-preserved t c =
    let h = c.in-Some.ensures in let low : c.in-Some.child < length c.args.links.now = omega arith in
    rw (← get_or-map (λ (l : Links). l.sibling.0) c.args.links.now c.in-Some.child _ 0 low, h.0)
    (going_on (room_below c.requires) c.loop-child.invariant (rw h.0 at h.1) (child t (goal.at.loop-child-preserved t c).After-lay-behind))

pub overflow_cast-steps-2 : goal.overflow_cast-steps-2
overflow_cast-steps-2 t c = omega (arith, (laid t c).is_behind, room_below c.requires)

pub bounds-steps-at : goal.bounds-steps-at
bounds-steps-at t c = omega (arith, placed_long (laid t c), c.requires.steps_long, room_below c.requires)

pub returns : goal.returns
returns t c = placed_over (laid t c)
