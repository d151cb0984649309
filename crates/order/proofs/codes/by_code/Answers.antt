-- `codes::by_code` meets its contract: the keys in ascending order are in order of code. Assumes nothing.
use Rattle.order.proofs.Keys.{keys_ordered}
use Rattle.order.proofs.codes.by_code.Goals as goal

pub returns : goal.returns
returns c = let l = c.args.library.now in keys_ordered _ l.library _ l.is_count c.requires c.put_keys.ensures c.sort.ensures
