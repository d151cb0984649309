-- `offer::first_taken` meets its contract. Assumes nothing.
use borrow.Author.Rules.{rules}
use borrow.Author.Tests.{tests}
use Rattle.image.proofs.Searches.{record_gives}
use Rattle.build.specs.Rules.{code_taken}
use Rattle.build.proofs.offer.first_taken.Goals as goal

pub returns : goal.returns
unfolding code_taken
returns c = record_gives _ _ _ c.find.ensures.ran (λ x b q k. search (rules, tests)) (search rules) c.args.library.now.is_count
