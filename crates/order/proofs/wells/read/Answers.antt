use mathlib.Core.Path.{ap}
use mathlib.Core.List.{◌++◌}
use native.Mathlib.Omega.{arith}
use lib.ListN.{drop}
use lib.Seq.{length-take-le}
use Rattle.order.proofs.Profiles.{wells_read}
use Rattle.order.proofs.wells.read.Goals as goal

pub returns : goal.returns
returns c =
    let many = length-take-le _ _ c.requires.profile_room in
    ap (λ ws. ws ++ drop c.args.wells c.args.profile.now)
    (wells_read _ _ _ _ (omega (arith, many)) (λ k h. c.loop-i.invariant k (omega (arith, many))))
