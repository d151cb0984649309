use mathlib.Core.Path.{ap, ◌∙◌}
use Prim.Native.Nat.{ℕ, ◌+◌, ◌<◌, ◌≤◌}
use native.Mathlib.Omega.{arith}
use borrow.Author.Rules.{rules}
use lib.ListN.{length}
use Rattle.walk.specs.Meeting.{Past}
use Rattle.walk.specs.Weighed.{found_at}
use Rattle.walk.proofs.Steps.{past_none, past_on}
use Rattle.walk.proofs.passage.Passage.stop.Goals as goal
use Rattle.walk.proofs.passage.Passage.stop.Goals.{After-onward-place}

-- the walk goes on past the record
on : (c : After-onward-place) → let p = c.args.self.now in
    (c.loop-step.place < c.onward-place.result) × (c.onward-place.result ≤ length p.walk.steps.now)
    × Past p.walk.library.records.image.now p.plate.now c.args.bound p.place c.onward-place.result (c.loop-step.invariant.many + 1)
on c =
    let p = c.args.self.now in let h = c.in-Some.ensures.lookup in let d = c.far-distance.ensures in
    past_on p.walk.library.library p.walk.laid_out c.loop-step.place c.in-Some.step.now h.3.0 h.1 p.plate.now c.args.bound p.place c.far-distance.result
    c.loop-step.invariant.past (d.exact ∙ ap (λ (v : ℕ). (found_at p.walk.library.records.image.now p.plate.now v).distance) c.from.ensures) d.bound
    (search rules) c.onward-place.ensures

pub loop-step-init : goal.loop-step-init
loop-step-init c =
    let p = c.args.self.now in
    record { within = search rules; few = p.few; many = 0; is_measured = search rules; past = past_none p.walk.library.library p.walk.laid_out _ _ _ }

pub loop-step-smaller : goal.loop-step-smaller
loop-step-smaller c = let w = on (goal.at.loop-step-smaller c).After-onward-place in omega (arith, w.0, w.1)

pub loop-step-preserved : goal.loop-step-preserved
loop-step-preserved c =
    let w = on (goal.at.loop-step-preserved c).After-onward-place in let i = c.loop-step.invariant in
    record { within = w.1; few = omega (arith, w.0, i.few); many = i.many + 1; is_measured = omega (arith, i.is_measured); past = w.2 }
