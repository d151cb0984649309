-- `filing::lay_next` meets its contract: the next strain in order of code is added. Assumes nothing.
use Rattle.adding.proofs.ByCode.{ordered_in}
use Rattle.adding.proofs.Files.{filing_filled, filing_away, filing_next}
use Rattle.adding.proofs.filing.lay_next.Goals as goal

pub copy_out-strain-requires : goal.copy_out-strain-requires
copy_out-strain-requires c = ordered_in c.args.library.now _ c.requires.inside c.requires.next

pub invariant_of-takers-2 : goal.invariant_of-takers-2
invariant_of-takers-2 c =
    let r = c.requires in
    record { are_filled = filing_filled c.args.library.now r.filing r.behind r.inside; fits = c.copy_out-strain.ensures.fits }

pub hang-requires-clause-away : goal.hang-requires-clause-away
hang-requires-clause-away c =
    let r = c.requires in filing_away c.args.library.now r.filing r.behind r.inside c.copy_out-strain.ensures.exact r.next c.nearest-seat.ensures

pub returns : goal.returns
returns c =
    let r = c.requires in filing_next c.args.library.now r.filing r.behind r.inside c.copy_out-strain.ensures.exact r.next c.hang.ensures
