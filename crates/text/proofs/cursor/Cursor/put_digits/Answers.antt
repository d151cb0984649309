-- `Cursor::put_digits` meets its contract: the digits end where as many as there are end. Assumes nothing.
use mathlib.Core.Path.{◌≡◌, refl, ap, ◌∙◌}
use Prim.Native.Nat.{◌+◌}
use native.Mathlib.Omega.{arith}
use lib.ListN.{length}
use Rattle.std.specs.Fmt as std
use Rattle.text.specs.Decimal.{decimal}
use Rattle.text.proofs.Decimals.{decimal_same}
use Rattle.text.proofs.Writes.{stands_at}
use Rattle.text.proofs.cursor.Cursor.put_digits.Goals as goal
use Rattle.text.proofs.cursor.Cursor.put_digits.Goals.{After-from}

-- what the library writes is document 01's number
same : (c : After-from) → std.decimal c.from.result ≡ decimal c.args.n
same c = ap std.decimal c.from.ensures ∙ decimal_same c.args.n (omega arith)

pub write_digits-requires : goal.write_digits-requires
write_digits-requires c = let e = ap length (same (goal.at.write_digits-requires c).After-from) in (omega (arith, e, c.digits.ensures, c.requires), omega (arith, e, c.digits.ensures, c.requires))

pub returns : goal.returns
returns c =
    let e = same (goal.at.returns c).After-from in
    let self = c.args.self.now in
    let starts : c.write_digits.result ≡ self.end = omega (arith, ap length e, c.digits.ensures, c.write_digits.ensures.start) in
    let behind : self.end + c.digits.result ≡ self.end + length (decimal c.args.n) = omega (arith, c.digits.ensures) in
    let stands = stands_at self.room.now (decimal c.args.n) self.end starts c.requires c.write_digits.ensures.before (rw (e, behind) at c.write_digits.ensures.written) in
    record { written = record { ends = behind; stands = stands }; len = c.write_digits.auto.buf; same_reference = refl }
