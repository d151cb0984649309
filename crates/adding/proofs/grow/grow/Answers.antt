-- `grow::grow` meets its contract: the library is laid out anew for one record more, and the strain is hung into it. Assumes nothing.
use mathlib.Core.Path.{◌∙◌, ap}
use native.Mathlib.Omega.{arith}
use Rattle.profile.specs.Metric.{metric_number}
use Rattle.image.specs.Fields.{wells_of, metric_of, count_of}
use Rattle.adding.proofs.Grows.{Relaid, grow_filled, grow_seated, grow_done}
use Rattle.adding.proofs.grow.grow.Goals as goal
use Rattle.adding.proofs.grow.grow.Goals.{After-put}

relaid : (c : After-put) → let shape = c.of-library.result.records.shape in Relaid c.args.buffer.now c.args.stated (metric_number shape.metric) shape.wells shape.count c.put.new.image
relaid c =
    let l = c.of-library.result in let image = c.of-library.ensures in
    let is_wells = l.is_wells ∙ ap wells_of image in
    record {
      library = c.requires.library;
      is_metric = l.is_metric ∙ ap metric_of image;
      is_wells = is_wells;
      is_count = l.is_count ∙ ap count_of image;
      room = omega (arith, c.requires.room, is_wells, c.requires.seat_for.wells);
      moved = c.widen.new.buffer;
      widened = c.widen.ensures;
      headed = rw (l.is_root, image) at c.put.ensures;
    }

pub hang-requires-clause-filled : goal.hang-requires-clause-filled
hang-requires-clause-filled c = let r = relaid (goal.at.hang-requires-clause-filled c).After-put in grow_filled r (omega (arith, r.is_count, c.requires.not_full))

pub hang-requires-clause-seated : goal.hang-requires-clause-seated
hang-requires-clause-seated c = grow_seated (relaid (goal.at.hang-requires-clause-seated c).After-put) c.requires.seat_for.seated

pub returns : goal.returns
returns c =
    let r = relaid (goal.at.returns c).After-put in
    let all = grow_done r c.hang.new.image _ c.hang.ensures (record { low = λ j. (c.type_inv.buffer j).fits }) in
    record { exact = all.0; long = all.1 ∙ omega (arith, r.is_wells, c.requires.seat_for.wells) }
