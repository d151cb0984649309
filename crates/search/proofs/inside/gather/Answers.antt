use mathlib.Core.Path.{ap, ◌∙◌}
use native.Mathlib.Omega.{arith}
use Rattle.walk.specs.Meeting.{MeetsOne}
use Rattle.search.proofs.Reached.{met_in}
use Rattle.search.proofs.Gathers.{gather_none, gather_more, gather_end}
use Rattle.search.proofs.inside.gather.Goals as goal
use Rattle.search.proofs.inside.gather.Goals.{In-Some}

-- a record is met
one : (c : In-Some) → let next = c.next_within.new.self in
    MeetsOne c.args.walk.now.library.records.image.now c.args.plate.now c.args.radius c.loop-met.passage.place c.loop-met.passage.measured next.place
    next.measured c.in-Some.met
one c = rw (c.loop-met.invariant.walk, c.loop-met.invariant.plate) at c.in-Some.ensures.meets

pub loop-met-init : goal.loop-met-init
loop-met-init c =
    let start = c.passage-passage.ensures in
    record { walk = start.walk; plate = start.plate; gathered = rw (start.start.0, start.start.1) (gather_none _ _ _ _) }

pub code-code-requires : goal.code-code-requires
code-code-requires c = omega (arith, met_in c.args.walk.now.library.library (one (goal.at.code-code-requires c).In-Some), c.args.walk.now.library.is_count)

pub loop-met-preserved : goal.loop-met-preserved
loop-met-preserved c =
    let library = c.args.walk.now.library in
    record {
      walk = c.next_within.ensures.walk ∙ c.loop-met.invariant.walk;
      plate = ap (λ p. p.now) c.next_within.ensures.plate ∙ c.loop-met.invariant.plate;
      gathered = gather_more library.library (c.requires.fits ∙ library.is_wells) (omega (arith, c.requires.room, library.is_count))
          c.loop-met.invariant.gathered (one (goal.at.loop-met-preserved c).In-Some) c.code-code.ensures c.rank.ensures;
    }

pub returns : goal.returns
returns c =
    let library = c.args.walk.now.library in
    gather_end library.library (c.requires.fits ∙ library.is_wells) (omega (arith, c.requires.room, library.is_count)) c.loop-met.invariant.gathered
    (rw (c.loop-met.invariant.walk, c.loop-met.invariant.plate) at c.in_default.ensures.meets)
