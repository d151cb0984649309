-- `line::put_values` meets its contract: the values before well i are written. Assumes nothing.
use Rattle.profile.specs.Bytes.{wells_at}
use Rattle.text.specs.Cursor.{Appends}
use Rattle.text.specs.Listing.{values_text}
use Rattle.text.proofs.line.put_values.Given as goal

abbrev pub invariant-loop-i : goal.invariant-loop-i
invariant-loop-i l = Appends l.initial.out (values_text (wells_at l.profile.image.now l.profile.at l.i)) l.out
