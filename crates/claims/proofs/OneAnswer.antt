-- Each contract leaves one answer and one content of all that was lent. Assumes nothing.
use mathlib.Core.Path.{sym, ◌∙◌}
use Rattle.image.proofs.Answers as outcomes
use Rattle.checker.proofs.Answers as checker
use Rattle.search.proofs.Answers as search
use Rattle.text.proofs.Answers as text
use Rattle.short.proofs.Answers as short
use Rattle.host.proofs.Answers as host
use Rattle.claims.specs.OneAnswer.{OneAnswer}

pub one_answer : OneAnswer
one_answer = record {
  check = λ image p q. checker.one_answer _ _ (p ∙ sym q);
  start = λ wells metric code profile buffer p q. outcomes.one_answer _ _ _ _ _ p q;
  add = λ buffer stated code profile p q. outcomes.one_answer _ _ _ _ _ p q;
  file = λ image buffer p q. outcomes.one_answer _ _ _ _ _ p q;
  sitting = search.one_answer;
  within = search.one_answer_within;
  short = short.one_answer;
  list = λ image room p q. outcomes.one_answer _ _ _ _ _ p q;
  print = text.one_answer;
  kw_check = host.one_word;
  kw_start = λ wells metric code profile buffer. host.one_wrote;
  kw_add = λ buffer stated code profile. host.one_wrote;
  kw_file = λ image buffer. host.one_wrote;
  kw_list = λ image buffer. host.one_wrote;
  kw_sitting = λ image plates k codes distances. host.one_searched;
  kw_within = λ image plate radius codes distances. host.one_searched;
}
