-- `filing::fill` meets its contract: in the loop, the first i strains in order of code are filed. Assumes nothing.
use Rattle.content.specs.Bytes.{Bytes}
use Rattle.adding.specs.Steps.{Filing}
use Rattle.adding.proofs.filing.fill.Given as goal

abbrev pub invariant-loop-i : goal.invariant-loop-i
invariant-loop-i l = record { filing : Filing l.library.records.image.now l.fn.buffer l.buffer l.i; bytes : Bytes l.buffer }
