-- `lines::put` meets its contract: behind the header, the lines before record i are written. Assumes nothing.
use Rattle.text.specs.Cursor.{Appends}
use Rattle.text.specs.Listing.{record_lines}
use Rattle.text.proofs.lines.put.Given as goal

abbrev pub invariant-loop-i : goal.invariant-loop-i
invariant-loop-i l = Appends l.initial.out (record_lines l.library.records.image.now 0 l.i) l.out
