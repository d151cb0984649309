-- `sort::sort` meets its contract: the library's sort gives the numbers in ascending order, and that is the list, sorted. Assumes nothing.
use native.Mathlib.Omega.{arith}
use Rattle.ranking.proofs.Permuted.{sorted_front}
use Rattle.ranking.proofs.sort.sort.Goals as goal

pub returns : goal.returns
returns c = sorted_front _ _ (omega arith) c.sort_unstable.ensures.permutation c.sort_unstable.ensures.sorted
