-- `Best::let_in` meets its contract: the rank goes in behind the list, or for its last, or not at all. Assumes nothing.
use mathlib.Core.Path.{ap, sym, ◌∙◌}
use Rattle.ranking.specs.Best.{best_of}
use Rattle.ranking.proofs.Running.{front_ascending, offer_holds, offer_takes}
use Rattle.ranking.proofs.best.Best.let_in.Goals as goal

pub put_in-requires-clause-ascending : goal.put_in-requires-clause-ascending
put_in-requires-clause-ascending c = front_ascending c.self.invariant c.self.told c.args.rank c.min-held.ensures

pub invariant_of-self : goal.invariant_of-self
invariant_of-self c = offer_holds c.self.invariant c.self.told c.args.rank c.min-held.ensures c.put_in.ensures

pub returns-then-enters : goal.returns-then-enters
returns-then-enters c =
    let entered = rw (← c.self.view_is) at (sym c.enters.ensures.tells ∙ c.if-enters.true) in
    rw (← c.self.view_is)
    (ap (best_of c.self.inside.asked)
    (offer_takes c.self.invariant c.self.told c.args.rank c.min-held.ensures c.put_in.ensures entered))

pub returns-else-enters : goal.returns-else-enters
returns-else-enters c =
    ap (best_of c.args.self.now.asked) (sym (c.enters.ensures.stays c.if-enters.false))
