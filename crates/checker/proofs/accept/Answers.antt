-- `accept` meets its contract: past every rule the image is a library, and its header says what was read. Assumes nothing.
use Rattle.checker.proofs.Accepted.{past_all}
use Rattle.checker.proofs.accept.Goals as goal

pub invariant_of-result : goal.invariant_of-result
invariant_of-result c =
    let headed = c.in_ok-headed.headed in
    record {
      library = past_all _ _ c.in_ok-headed.ensures.same (cc) c.in_ok-headed.ensures.verdict;
      is_metric = headed.is_metric;
      is_wells = headed.is_wells;
      is_count = headed.is_count;
      is_root = headed.is_root;
    }
