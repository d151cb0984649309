-- Demand 2, proved. Assumes nothing.
use Rattle.claims.specs.Demand2.{Demand2}
use Rattle.claims.proofs.Acceptance.{acceptance}
use Rattle.claims.proofs.Searching.{searching}
use Rattle.claims.proofs.Adding.{adding}

pub demand_2 : Demand2
demand_2 = record { acceptance = acceptance; searching = searching; adding = adding }
