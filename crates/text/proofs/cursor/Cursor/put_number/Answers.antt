-- `Cursor::put_number` meets its contract: one digit is its byte. Assumes nothing.
use native.Mathlib.Omega.{arith}
use Rattle.text.specs.Decimal.{decimal}
use Rattle.text.proofs.Decimals.{digits_one}
use Rattle.text.proofs.cursor.Cursor.put_number.Goals as goal

pub put_byte-requires : goal.put_byte-requires
unfolding decimal
put_byte-requires c = rw (digits_one 9 c.args.n (omega arith)) at c.requires

pub returns-then-n-lt10 : goal.returns-then-n-lt10
unfolding decimal
returns-then-n-lt10 c = rw (digits_one 9 c.args.n (omega arith)) c.put_byte.ensures
