-- `line::put_header` meets its contract: the four fields, then the line feed. Assumes nothing.
use native.Mathlib.Omega.{arith}
use Rattle.text.specs.Listing.{header_line}
use Rattle.text.proofs.Writes.{joined, writing}
use Rattle.text.proofs.line.put_header.Goals as goal

pub returns : goal.returns
unfolding header_line
returns c =
    let parts = joined (joined (joined (joined c.put_field.ensures c.put_field-2.ensures) c.put_field-3.ensures) c.put_field-4.ensures) c.put_byte.ensures in
    grind (arith, writing, parts)
