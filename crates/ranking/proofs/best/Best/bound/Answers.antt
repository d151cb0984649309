-- `Best::bound` meets its contract. Assumes nothing.
use mathlib.Core.Path.{◌∙◌}
use Rattle.ranking.proofs.Running.{bound_is}
use Rattle.ranking.proofs.best.Best.bound.Goals as goal

pub returns : goal.returns
returns c = rw (← c.self.view_is) (c.bound.ensures ∙ bound_is c.self.invariant c.self.told)
