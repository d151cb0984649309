use native.Mathlib.Omega.{arith}
use Rattle.content.proofs.Filing.{file_length}
use Rattle.adding.proofs.Files.{filing_some, filing_done}
use Rattle.adding.proofs.filing.fill.Goals as goal

pub returns-clause-exact : goal.returns-clause-exact
returns-clause-exact c =
    let v = c.loop-i in let l = c.args.library.now in
    filing_done l v.invariant.filing (omega (arith, v.auto.i-end (filing_some l), c.loop-i-test.false)) v.invariant.bytes

pub returns-clause-long : goal.returns-clause-long
returns-clause-long c = let l = c.args.library.now in file_length l.records.image.now (record { low = l.records.bytes }) l.library
