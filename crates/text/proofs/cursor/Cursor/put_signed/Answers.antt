-- `Cursor::put_signed` meets its contract: a minus where the number is below zero, and then its amount. Assumes nothing.
use mathlib.Core.Path.{ap, refl}
use native.Mathlib.Omega.{arith}
use lib.ListN.{length}
use Rattle.text.proofs.Signs.{minus_is, plain_is}
use Rattle.text.proofs.Writes.{joined_at}
use Rattle.text.proofs.cursor.Cursor.put_signed.Goals as goal
use Rattle.text.proofs.cursor.Cursor.put_signed.Goals.{then-n-lt0, else-n-lt0}

pub put_byte-requires : goal.put_byte-requires
put_byte-requires c = omega (arith, c.requires, ap length (minus_is c.args.n c.ranges.n c.if-n-lt0.true))

pub put_number-requires : goal.put_number-requires
put_number-requires c = elim c.if-n-lt0.branch [ then-n-lt0 w ↦ rw (w.self-is, c.unsigned_abs.ensures.value) (omega (arith, c.requires, ap length (minus_is c.args.n c.ranges.n w.if-n-lt0.true), w.put_byte.ensures.written.ends, w.put_byte.ensures.len)) | else-n-lt0 w ↦ rw (w.self-is, c.unsigned_abs.ensures.value) (omega (arith, c.requires, ap length (plain_is c.args.n c.ranges.n w.if-n-lt0.false))) ]

pub returns : goal.returns
returns c = elim c.if-n-lt0.branch [ then-n-lt0 w ↦ rw (minus_is c.args.n c.ranges.n w.if-n-lt0.true) (joined_at w.put_byte.ensures (rw (w.self-is, c.unsigned_abs.ensures.value) at c.put_number.ensures) refl (omega arith)) | else-n-lt0 w ↦ rw (plain_is c.args.n c.ranges.n w.if-n-lt0.false) (rw (w.self-is, c.unsigned_abs.ensures.value) at c.put_number.ensures) ]
