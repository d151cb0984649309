-- `inside::sorted` meets its contract: what was gathered, in order and written, is what the definition lists. Assumes nothing.
use native.Mathlib.Omega.{arith}
use Rattle.search.proofs.Walked.{gathered_lists}
use Rattle.search.proofs.inside.sorted.Goals as goal

pub returns : goal.returns
returns c =
    let library = c.args.walk.now.library in
    gathered_lists _ (record { low = library.records.bytes }) library.library _ c.gather-tally.ensures (omega arith) c.sort.ensures c.put.ensures.codes
    c.put.ensures.distances
