use mathlib.Core.Path.{ap}
use mathlib.Core.List.{◌++◌}
use native.Mathlib.Omega.{arith}
use lib.ListN.{drop}
use lib.Seq.{length-take-le}
use Rattle.order.proofs.Keys.{keys_filled}
use Rattle.order.proofs.codes.put_keys.Goals as goal

pub returns : goal.returns
returns c =
    let many = length-take-le _ _ c.requires in
    ap (λ ks. ks ++ drop c.args.records.now.shape.count c.args.keys.now)
    (keys_filled _ _ _ (omega (arith, many)) (λ k h. c.loop-i.invariant k (omega (arith, many))))
