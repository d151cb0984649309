-- What a step of the walk met is a record of the library. Assumes nothing.
use Prim.Native.Nat.{ℕ, ◌<◌}
use native.Mathlib.Omega.{arith}
use mathlib.Core.List.{List}
use lib.IntN.{ℤ}
use Rattle.ranking.proofs.Places.{mem_get_or}
use Rattle.image.specs.Fields.{count_of}
use Rattle.image.specs.Library.{Library}
use Rattle.walk.specs.Forest.{nodes, forest_of}
use Rattle.walk.specs.Meeting.{MeetsOne}
use Rattle.walk.specs.declared.passage.Met.{Met}
use Rattle.walk.proofs.Forests.{forest_in, forest_length}

pub met_in : {xs : List ℕ} {plate : List ℤ} {bound from measured to measured' : ℕ} {met : Met} → Library xs
    → MeetsOne xs plate bound from measured to measured' met → met.node < count_of xs
met_in {xs} l m = rw m.is_node (forest_in l _ (mem_get_or (nodes (forest_of xs)) m.place 0 (omega (arith, forest_length l, m.low))))
