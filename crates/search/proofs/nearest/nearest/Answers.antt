use mathlib.Core.Path.{◌≡◌, sym, ap, ◌∙◌}
use native.Mathlib.Omega.{arith}
use Rattle.ranking.specs.Sort.{itself}
use Rattle.ranking.specs.First.{offered}
use Rattle.ranking.specs.Best.{best_of}
use Rattle.ranking.specs.declared.best.Best.{Best}
use Rattle.walk.specs.Meeting.{MeetsOne}
use Rattle.search.proofs.Reached.{met_in}
use Rattle.search.proofs.Seeking.{Seeking, seeks_none, seeks_on, sought}
use Rattle.search.proofs.nearest.nearest.Goals as goal
use Rattle.search.proofs.nearest.nearest.Goals.{In-Some, After-enters}

-- a record is met
one : (c : In-Some) → let next = c.next_within.new.self in
    MeetsOne c.args.walk.now.library.records.image.now c.args.plate.now c.bound.result c.loop-met.passage.place c.loop-met.passage.measured next.place
    next.measured c.in-Some.met
one c = rw (c.loop-met.invariant.walk, c.loop-met.invariant.plate) at c.in-Some.ensures.meets

-- once its rank was offered, or would not enter, the search goes on behind it
on : (c : After-enters) {best' : Best} → let best = c.loop-met.best in best' ≡ best_of best.asked (offered itself best.asked c.rank-rank.result best.kept)
    → Seeking c.args.walk.now.library.records.image.now c.args.plate.now c.args.asked.many best' c.next_within.new.self.place
on c e =
    let library = c.args.walk.now.library in
    seeks_on (record { low = library.records.bytes }) library.library c.args.asked.some c.loop-met.invariant.seeking c.bound.ensures
    (rw (c.loop-met.invariant.walk, c.loop-met.invariant.plate) at c.in-Some.ensures.meets) c.code-code.ensures c.rank-rank.ensures e

pub loop-met-init : goal.loop-met-init
loop-met-init c =
    let start = c.passage-passage.ensures in
    record { walk = start.walk; plate = start.plate; seeking = rw start.start.0 (seeks_none _ _ _ c.none-best.ensures) }

pub code-code-requires : goal.code-code-requires
code-code-requires c = omega (arith, met_in c.args.walk.now.library.library (one (goal.at.code-code-requires c).In-Some), c.args.walk.now.library.is_count)

pub loop-met-preserved-then-enters : goal.loop-met-preserved-then-enters
loop-met-preserved-then-enters c = record {
  walk = c.next_within.ensures.walk ∙ c.loop-met.invariant.walk;
  plate = ap (λ p. p.now) c.next_within.ensures.plate ∙ c.loop-met.invariant.plate;
  seeking = on (goal.at.loop-met-preserved-then-enters c).After-enters c.offer-best.ensures;
}

pub loop-met-preserved : goal.loop-met-preserved
loop-met-preserved c = record {
  walk = c.next_within.ensures.walk ∙ c.loop-met.invariant.walk;
  plate = ap (λ p. p.now) c.next_within.ensures.plate ∙ c.loop-met.invariant.plate;
  seeking = on (goal.at.loop-met-preserved c).After-enters (ap (best_of c.loop-met.best.asked) (sym (c.enters.ensures.stays c.if-enters.false)));
}

pub returns : goal.returns
returns c =
    let library = c.args.walk.now.library in
    sought (record { low = library.records.bytes }) library.library c.args.asked.some c.loop-met.invariant.seeking c.bound.ensures
    (c.requires ∙ library.is_wells) (rw (c.loop-met.invariant.walk, c.loop-met.invariant.plate) at c.in_default.ensures.meets)
