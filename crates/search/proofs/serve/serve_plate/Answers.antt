-- `serve::serve_plate` meets its contract: the running list's places are the plate's. Assumes nothing.
use mathlib.Core.Path.{ap, ◌∙◌}
use native.Mathlib.Omega.{arith}
use lib.Seq.{sets}
use Rattle.ranking.specs.Found.{distance_of, code_of}
use Rattle.content.specs.Bytes.{Bytes}
use Rattle.search.proofs.Puts.{put_from}
use Rattle.search.proofs.Serves.{ranks_long, code_places, distance_places}
use Rattle.search.proofs.serve.serve_plate.Goals as goal

pub returns : goal.returns
returns c =
    let library = c.args.walk.now.library in
    let bytes : Bytes library.records.image.now = record { low = library.records.bytes } in
    let long = ranks_long bytes library.library _ _ c.nearest-best.ensures c.places.ensures in
    record {
      is_codes = put_from code_of _ _ c.args.codes.now (omega (arith, long, c.requires.codes_room)) c.put.ensures.codes
          ∙ ap (sets _ _) (code_places bytes library.library _ _ c.nearest-best.ensures c.places.ensures);
      is_distances = put_from distance_of _ _ c.args.distances.now (omega (arith, long, c.requires.distances_room)) c.put.ensures.distances
          ∙ ap (sets _ _) (distance_places bytes library.library _ _ c.nearest-best.ensures c.places.ensures);
    }
