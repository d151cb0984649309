use mathlib.Core.Path.{◌∙◌, ap}
use Prim.Native.Nat.{◌*◌}
use native.Mathlib.Omega.{arith}
use Rattle.search.proofs.Serves.{Taken, left_all, left_more, left_none, serving_none, serving_more, serving_all, turn_room}
use Rattle.search.proofs.serve.serve.Goals as goal
use Rattle.search.proofs.serve.serve.Goals.{In-Some}

-- the iterator hands out the next plate
taken : (c : In-Some) → let rest = c.next.new.self.iter in
    Taken c.args.library.now.records.image.now c.args.plates.now c.loop-j.j-iterator.count c.in-Some.plate.now rest.rest.now rest.size
taken c = let chunk = c.in-Some.ensures.steps.0 in left_more c.args.library.now.library c.loop-j.invariant.left chunk.1.0 chunk.1.1 chunk.0

pub loop-j-init : goal.loop-j-init
loop-j-init c =
    let it = c.into_iter-j-iterator.ensures.into_iter_gives in
    let from = ap (λ i. i.iter) it ∙ c.enumerate-j-items.ensures.source in
    let none = ap (λ i. i.count) it ∙ c.enumerate-j-items.ensures.count in
    let chunks = c.chunks_exact.ensures in
    rw none (record {
      left = left_all (ap (λ i. i.rest.now) from ∙ chunks.rest) (ap (λ i. i.size) from ∙ chunks.size ∙ c.args.library.now.is_wells);
      codes = serving_none _ _ _ _ _;
      distances = serving_none _ _ _ _ _;
    })

pub overflow_mul-j : goal.overflow_mul-j
overflow_mul-j c = rw c.in-Some.ensures.steps.1 (omega (arith, turn_room _ (taken (goal.at.overflow_mul-j c).In-Some).there c.requires.codes_room))

pub serve_plate-requires-clause-codes_room : goal.serve_plate-requires-clause-codes_room
serve_plate-requires-clause-codes_room c =
    let there = (taken (goal.at.serve_plate-requires-clause-codes_room c).In-Some).there in
    rw c.in-Some.ensures.steps.1 (omega (arith, turn_room _ there c.requires.codes_room, c.loop-j.auto.codes))

pub serve_plate-requires-clause-distances_room : goal.serve_plate-requires-clause-distances_room
serve_plate-requires-clause-distances_room c =
    let there = (taken (goal.at.serve_plate-requires-clause-distances_room c).In-Some).there in
    rw c.in-Some.ensures.steps.1 (omega (arith, turn_room _ there c.requires.distances_room, c.loop-j.auto.distances))

pub loop-j-preserved : goal.loop-j-preserved
loop-j-preserved c =
    let s = c.loop-j.invariant in
    let t = taken (goal.at.loop-j-preserved c).In-Some in
    let at = ap (λ i. i * c.args.asked.many) c.in-Some.ensures.steps.1 in
    rw c.in-Some.ensures.steps.2 (record {
      left = t.left;
      codes = serving_more _ _ _ _ _ s.codes at t.is_plate (rw c.of-walk.ensures at c.serve_plate.ensures.is_codes);
      distances = serving_more _ _ _ _ _ s.distances at t.is_plate (rw c.of-walk.ensures at c.serve_plate.ensures.is_distances);
    })

pub returns : goal.returns
returns c =
    let all = left_none c.args.library.now.library c.loop-j.invariant.left c.in-None.ensures.steps.0.1.0 in
    record {
      codes = serving_all _ _ _ _ _ c.loop-j.invariant.codes all c.requires.codes_room;
      distances = serving_all _ _ _ _ _ c.loop-j.invariant.distances all c.requires.distances_room;
    }
