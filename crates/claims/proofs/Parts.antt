-- The parts of what a call hands back. Assumes nothing.
use mathlib.Core.Path.{◌≡◌, ap}
use Rattle.image.specs.Answer.{Outcome}
use Rattle.search.specs.Answer as search

module _ {o p : Outcome} (e : o ≡ p) where
  pub answer_is : o.answer ≡ p.answer
  answer_is = ap (λ q. q.answer) e

  pub buffer_is : o.buffer ≡ p.buffer
  buffer_is = ap (λ q. q.buffer) e

module _ {Told : Type 0} {o p : search.Outcome Told} (e : o ≡ p) where
  pub told_is : o.answer ≡ p.answer
  told_is = ap (λ q. q.answer) e

  pub codes_are : o.codes ≡ p.codes
  codes_are = ap (λ q. q.codes) e

  pub distances_are : o.distances ≡ p.distances
  distances_are = ap (λ q. q.distances) e
