-- `Noded::bad_level` meets its contract: `find` gives the first record, and its place is told. Assumes nothing.
use Rattle.std.proofs.Common.{rules}
use Rattle.image.proofs.Searches.{record_gives}
use Rattle.checker.proofs.noded.Noded.bad_level.Goals as goal

pub returns : goal.returns
returns c = record_gives _ _ _ c.find.ensures.ran (λ x b q k. search rules) (search rules) c.args.self.now.headed.is_count
