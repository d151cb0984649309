-- `filing::copy_out` meets its contract: as many wells are lent as a profile has, and all of them are read. Assumes nothing.
use native.Mathlib.Omega.{arith}
use Prim.Native.Nat.{◌≤◌}
use lib.ListN.{length}
use lib.Seq.{length-take-le}
use Rattle.adding.proofs.ByCode.{copied}
use Rattle.adding.proofs.filing.copy_out.Goals as goal

pub returns-clause-exact : goal.returns-clause-exact
returns-clause-exact c =
    let l = c.args.library.now in
    let few : l.records.shape.wells ≤ length c.args.profile.now = omega (arith, l.records.shape.wells_high, c.told-profile) in
    copied l c.args.i _ c.strain-code.ensures.code c.strain-code.ensures.profile (omega (arith, length-take-le _ _ few))
