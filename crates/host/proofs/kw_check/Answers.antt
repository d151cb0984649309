-- `kw_check` meets its contract. Assumes nothing.
use mathlib.Core.Path.{◌∙◌, ap}
use borrow.Author.Rules.{rules}
use Rattle.host.specs.Word.{verdict_word}
use Rattle.host.proofs.Answers.{worded, verdict_told}
use Rattle.host.proofs.kw_check.Goals as goal

pub returns : goal.returns
returns c =
    let r = c.check.result in
    worded (λ t. 0) (λ x y p. search rules) r _ c.map.ensures.cases c.answer.ensures.given c.answer.ensures.denied ∙ verdict_told r ∙ ap verdict_word c.check.ensures
