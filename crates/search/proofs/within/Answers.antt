-- `within` meets its contract: the check, and then the search within a radius over an accepted library. Assumes nothing.
use mathlib.Core.Path.{sym, ap, ◌∙◌}
use Rattle.std.proofs.lemmas.Result.{err_from_is_err_and}
use Rattle.image.specs.Answer.{verdict_of}
use Rattle.search.specs.Rules.{within_rules}
use Rattle.search.specs.Calls.{within_of}
use Rattle.search.proofs.Outcomes.{when_refused, after_rules, image_refused, image_accepted}
use Rattle.search.proofs.within.Goals as goal

pub returns-in_err-library : goal.returns-in_err-library
unfolding within_of within_rules
returns-in_err-library c =
    let p = err_from_is_err_and c.from_residual.result c.from_residual.ensures.1 in
    rw (p.1, p.2) (when_refused _ _ _ _ _ (image_refused _ _ _ (sym (ap verdict_of c.in_err-library.was) ∙ c.accept.ensures.verdict)))

pub returns : goal.returns
unfolding within_of within_rules
returns c =
    let same = c.in_ok-library.ensures.library in
    after_rules _ _ _ _ _ (rw same at c.around.ensures) (image_accepted (rw same at c.in_ok-library.library.library) _)
