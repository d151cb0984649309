-- `Best::none` meets its contract, by computation. Assumes nothing.
use mathlib.Core.Path.{refl}
use native.Mathlib.Omega.{arith}
use Rattle.ranking.specs.Order.{Ascending}
use Rattle.ranking.proofs.best.Best.none.Goals as goal

pub invariant_of-result : goal.invariant_of-result
invariant_of-result c = record {
  form = refl;
  some = c.args.asked.some;
  most = c.args.asked.most;
  room = omega arith;
  ascending = Ascending.none;
  zeros = refl;
}
