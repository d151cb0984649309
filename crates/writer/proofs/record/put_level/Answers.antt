-- `record::put_level` meets its contract: the level plus 1 is its byte. Assumes nothing.
use Rattle.std.proofs.Common.{◌≡◌, ℤ, pos, negsuc, ◌+◌, ◌*◌, ◌+ℤ◌, ◌≤ℤ◌, set, ap, arith}
use Rattle.std.proofs.lemmas.Int.{ints}
use Rattle.content.specs.Bytes.{level_byte_of}
use Rattle.writer.proofs.record.put_level.Goals as goal

byte_is : (z : ℤ) → negsuc 0 ≤ℤ z → pos (level_byte_of z) ≡ z +ℤ pos 1
unfolding level_byte_of
byte_is (pos n) h = omega (arith, ints)
byte_is (negsuc n) h = omega (arith, ints)

pub returns : goal.returns
returns c = let a = c.args in ap (set a.image.now (22 + 8 * a.i)) (omega (arith, ints, byte_is a.level c.requires.1))
