-- `Headed::first_same` meets its contract: `find` gives the first earlier record. Assumes nothing.
use Rattle.std.proofs.Common.{rules}
use borrow.Author.Tests.{tests}
use Rattle.image.proofs.Searches.{find_gives}
use Rattle.checker.specs.Tests.{same_code}
use Rattle.checker.proofs.headed.Headed.first_same.Goals as goal

pub returns : goal.returns
unfolding same_code
returns c = find_gives _ _ _ _ c.find.ensures.ran (λ x b q k. search (rules, tests))
