-- `Best::enters` meets its contract. Assumes nothing.
use mathlib.Core.Path.{sym, ◌∙◌}
use Rattle.ranking.proofs.Running.{enters_is, offer_leaves}
use Rattle.ranking.proofs.best.Best.enters.Goals as goal

pub returns-clause-stays : goal.returns-clause-stays
returns-clause-stays c =
    λ e. rw (← c.self.view_is) (sym (offer_leaves c.self.invariant c.self.told c.args.rank (sym (enters_is c.self.invariant c.self.told c.args.rank) ∙ sym c.enters.ensures ∙ e)))
