-- `put::put` meets its contract: after i turns the parts of the first i ranks stand in front of both slices. Assumes nothing.
use mathlib.Core.Path.{◌≡◌}
use mathlib.Core.List.{◌++◌, map}
use lib.ListN.{take, drop}
use Rattle.ranking.specs.Found.{distance_of, code_of}
use Rattle.search.proofs.put.put.Given as goal

abbrev pub invariant-loop-i : goal.invariant-loop-i
invariant-loop-i l = record {
  codes : l.codes ≡ map code_of (take l.i l.ranks) ++ drop l.i l.initial.codes;
  distances : l.distances ≡ map distance_of (take l.i l.ranks) ++ drop l.i l.initial.distances;
}
