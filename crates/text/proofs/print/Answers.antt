-- `print` meets its contract: a library's listing, or the refusal's line on the page that the refused call left as it was. Assumes nothing.
use mathlib.Core.Path.{◌≡◌, sym, ap}
use native.Mathlib.Omega.{arith}
use lib.ListN.{length}
use Rattle.image.specs.Refusals.{number_of}
use Rattle.text.specs.Written.{Written}
use Rattle.text.specs.Listing.{refused_line}
use Rattle.text.specs.Calls.{printed}
use Rattle.text.proofs.Calls.{printed_listed, printed_refused}
use Rattle.text.proofs.Fits.{refused_fits}
use Rattle.text.proofs.Writes.{written_front}
use Rattle.text.proofs.print.Goals as goal
use Rattle.text.proofs.print.Goals.{In-Err}

-- where the list is refused
refused : (c : In-Err) → (printed c.args.image.now ≡ refused_line (number_of c.in-Err.refusal)) × (c.list.new.room ≡ c.args.page.now)
refused c = printed_refused _ _ _ (omega arith) c.in-Err.refusal c.in-Err.ensures

pub put_refused-requires : goal.put_refused-requires
put_refused-requires c = omega (arith, refused_fits (number_of c.in-Err.refusal))

pub returns-in-Ok : goal.returns-in-Ok
returns-in-Ok c = printed_listed _ _ _ (omega arith) _ c.in-Ok.ensures

pub returns-in-Err : goal.returns-in-Err
returns-in-Err c =
    let xs = c.args.image.now in
    let page = c.args.page.now in
    let told = refused (goal.at.returns-in-Err c).In-Err in
    let line : refused_line (number_of c.in-Err.refusal) ≡ printed xs = sym told.0 in
    let w : Written page 0 (printed xs) c.put_refused.result c.put_refused.new.room = rw (line, told.1) at c.put_refused.ensures in
    let e : c.put_refused.result ≡ length (printed xs) = omega (arith, w.ends) in
    (e, rw e (written_front w (omega (arith, refused_fits (number_of c.in-Err.refusal), ap length line))))
