-- `kw_sitting` meets its contract. Assumes nothing.
use borrow.Author.Rules.{rules}
use Rattle.image.specs.Answer.{answer_of}
use Rattle.host.specs.Word.{first}
use Rattle.host.proofs.Answers.{worded, searched}
use Rattle.host.proofs.kw_sitting.Goals as goal

pub returns : goal.returns
returns c =
    let r = c.sitting.result in
    searched first (answer_of r) _ _ _ c.sitting.ensures (worded first (λ x y p. search rules) r _ c.map.ensures.cases c.answer.ensures.given c.answer.ensures.denied)
