-- `number::put_u16` meets its contract. Assumes nothing.
use Rattle.std.proofs.Common.{◌≡◌, ◌/◌, ◌%◌, ◌∙◌, arith}
use Rattle.content.specs.Bytes.{bytes16}
use Rattle.writer.proofs.Stores.{part_run}
use Rattle.writer.proofs.number.put_u16.Goals as goal

pub returns : goal.returns
returns c =
    let a = c.args in
    let high : a.n / 256 % 256 ≡ a.n / 256 = omega arith in
    part_run a.image.now a.at _ (bytes16 a.n) (c.copy_from_slice.ensures.after ∙ cc) (omega arith) (omega arith)
