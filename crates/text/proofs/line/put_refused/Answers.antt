-- `line::put_refused` meets its contract: the word and the number, then the line feed. Assumes nothing.
use native.Mathlib.Omega.{arith}
use Rattle.text.specs.Listing.{refused_line}
use Rattle.text.proofs.Writes.{joined, writing}
use Rattle.text.proofs.line.put_refused.Goals as goal

pub returns : goal.returns
unfolding refused_line
returns c =
    let parts = joined c.put_field.ensures c.put_byte.ensures in
    grind (arith, writing, parts)
