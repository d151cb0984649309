-- `line::put_node` meets its contract: three numbers, and a space between. Assumes nothing.
use borrow.Author.Rules.{rules}
use mir.Syntax.{w32}
use mir.ValLaws.{to_z-of_z}
use Rattle.text.specs.Listing.{node_text}
use Rattle.text.proofs.Writes.{joined}
use Rattle.text.proofs.line.put_node.Goals as goal

pub returns : goal.returns
unfolding node_text
returns c =
    let parts = joined (joined c.put_number.ensures (joined c.put_byte.ensures c.put_number-2.ensures)) (joined c.put_byte-2.ensures c.put_signed.ensures) in
    rw (to_z-of_z w32 c.level.result (search rules), c.level.ensures, c.code.ensures, c.code-2.ensures, c.parent.ensures.exact) at parts
