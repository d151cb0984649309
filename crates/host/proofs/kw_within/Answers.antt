-- `kw_within` meets its contract. Assumes nothing.
use borrow.Author.Rules.{rules}
use Rattle.image.specs.Answer.{answer_of}
use Rattle.host.specs.Word.{counts}
use Rattle.host.proofs.Answers.{worded, searched}
use Rattle.host.proofs.kw_within.Goals as goal

pub returns : goal.returns
returns c =
    let r = c.within.result in
    searched counts (answer_of r) _ _ _ c.within.ensures (worded counts (λ x y p. search rules) r _ c.map.ensures.cases c.answer.ensures.given c.answer.ensures.denied)
