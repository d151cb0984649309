-- `serve::serve` meets its contract: each turn fills the places of one plate more. Assumes nothing.
use Rattle.search.specs.Calls.{code_in, distance_in}
use Rattle.search.proofs.Serves.{Left, Serving}
use Rattle.search.proofs.serve.serve.Given as goal

abbrev pub invariant-loop-j : goal.invariant-loop-j
invariant-loop-j l = record {
  left : Left l.library.records.image.now l.plates l.j-iterator.count l.j-iterator.iter.rest.now l.j-iterator.iter.size;
  codes : Serving l.library.records.image.now l.plates l.asked.many code_in l.initial.codes l.j-iterator.count l.codes;
  distances : Serving l.library.records.image.now l.plates l.asked.many distance_in l.initial.distances l.j-iterator.count l.distances;
}
