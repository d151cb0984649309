-- `Best::places` meets its contract. Assumes nothing.
use Rattle.ranking.proofs.Running.{places_are}
use Rattle.ranking.proofs.best.Best.places.Goals as goal

pub returns : goal.returns
returns c = rw (← c.self.view_is) (places_are c.self.invariant c.self.told)
