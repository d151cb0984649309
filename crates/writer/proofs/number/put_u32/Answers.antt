-- `number::put_u32` meets its contract: the four bytes are the two halves' bytes. Assumes nothing.
use Rattle.std.proofs.Common.{◌≡◌, ℕ, ◌/◌, ◌%◌, ◌<◌, ◌∙◌, arith}
use Rattle.std.specs.Int.{w32, to_le_bytes}
use Rattle.content.specs.Bytes.{bytes32}
use Rattle.writer.proofs.Stores.{part_run}
use Rattle.writer.proofs.number.put_u32.Goals as goal

halves : (n : ℕ) → n < 4294967296 → to_le_bytes w32 n ≡ bytes32 n
halves n h =
    let a : n % 65536 % 256 ≡ n % 256 = omega arith in
    let b : n % 65536 / 256 ≡ n / 256 % 256 = omega arith in
    let d : n / 65536 / 256 ≡ n / 16777216 % 256 = omega arith in
    cc

pub returns : goal.returns
returns c =
    let a = c.args in
    part_run a.image.now a.at _ (bytes32 a.n) (c.copy_from_slice.ensures.after ∙ c.to_le_bytes.ensures ∙ halves a.n (omega arith)) (omega arith) (omega arith)
