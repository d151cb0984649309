use mathlib.Core.Path.{◌≡◌}
use Prim.Native.Nat.{◌+◌, ◌≤◌}
use native.Mathlib.Omega.{arith}
use lib.ListN.{length, length-append}
use Rattle.image.specs.Fields.{count_of}
use Rattle.image.specs.declared.accepted.Accepted.{Accepted}
use Rattle.text.specs.Listing.{header_line, record_lines, listing}
use Rattle.text.proofs.Writes.{joined, writing}
use Rattle.text.proofs.Fits.{listing_fits}
use Rattle.text.proofs.Parts.{lines_more, lines_room}
use Rattle.text.proofs.lines.put.Goals as goal

-- the header and the lines fit
parts_fit : (a : Accepted) → length (header_line a.records.image.now) + length (record_lines a.records.image.now 0 (count_of a.records.image.now)) ≤ 147456
unfolding listing
parts_fit a = simp length-append at (listing_fits (record { low = a.records.bytes }) a.library)

pub put_header-requires : goal.put_header-requires
put_header-requires c = omega (arith, parts_fit c.args.library.now)

pub put_record-requires : goal.put_record-requires
put_record-requires c =
    let a = c.args.library.now in
    record { counted = omega arith; room = omega (arith, a.is_count, parts_fit a, lines_room a.records.image.now c.loop-i.i (count_of a.records.image.now) (omega (arith, a.is_count))) }

pub loop-i-preserved : goal.loop-i-preserved
loop-i-preserved c = rw lines_more (joined c.loop-i.invariant c.put_record.ensures)

pub returns : goal.returns
unfolding listing
returns c =
    let e : c.loop-i.i ≡ count_of c.args.library.now.records.image.now = omega (arith, c.args.library.now.is_count) in
    let parts = joined c.put_header.ensures (rw e at c.loop-i.invariant) in
    grind (arith, writing, parts)
