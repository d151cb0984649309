-- `kw_list` meets its contract. Assumes nothing.
use borrow.Author.Rules.{rules}
use Rattle.host.specs.Word.{long}
use Rattle.host.proofs.Answers.{worded, wrote}
use Rattle.host.proofs.kw_list.Goals as goal

pub returns : goal.returns
returns c =
    let r = c.list.result in
    wrote long r _ _ c.list.ensures (worded long (λ x y p. search rules) r _ c.map.ensures.cases c.answer.ensures.given c.answer.ensures.denied)
