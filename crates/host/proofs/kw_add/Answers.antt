-- `kw_add` meets its contract. Assumes nothing.
use borrow.Author.Rules.{rules}
use Rattle.host.specs.Word.{first}
use Rattle.host.proofs.Answers.{worded, wrote}
use Rattle.host.proofs.kw_add.Goals as goal

pub returns : goal.returns
returns c =
    let r = c.add.result in
    wrote first r _ _ c.add.ensures (worded first (λ x y p. search rules) r _ c.map.ensures.cases c.answer.ensures.given c.answer.ensures.denied)
