-- `begin::begin` meets its contract: the header, then the root. Assumes nothing.
use borrow.Author.Rules.{rules}
use Rattle.adding.proofs.Begins.{begun}
use Rattle.adding.proofs.begin.begin.Goals as goal

pub returns : goal.returns
returns c =
    let r = c.requires in
    begun c.args.buffer.now c.put.new.image c.put-2.new.image _ _ _ c.args.strain.code c.args.strain.profile.now r.fits c.put-2.ensures.values r.some r.room (search rules)
    c.put.ensures c.put-2.ensures.exact
