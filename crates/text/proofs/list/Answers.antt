-- `list` meets its contract: the check, rule 16, then the lines. Assumes nothing.
use mathlib.Core.Path.{sym, ◌∙◌, ap}
use Prim.Native.Nat.{◌<◌, ◌≤◌}
use native.Mathlib.Omega.{arith}
use lib.ListN.{length}
use Rattle.image.specs.declared.refusal.Place.{Place}
use Rattle.image.specs.declared.refusal.Refusal.TheVariants.{Room}
use Rattle.std.proofs.lemmas.Result.{err_from_is_err_and}
use Rattle.image.specs.Answer.{verdict_of}
use Rattle.image.proofs.Outcomes.{when_refused, when_given}
use Rattle.content.specs.Bytes.{Bytes}
use Rattle.text.specs.Calls.{list_of}
use Rattle.text.proofs.Calls.{list_image, list_room, list_passes}
use Rattle.text.proofs.Fits.{listing_fits}
use Rattle.text.proofs.Writes.{written_front}
use Rattle.text.proofs.list.Goals as goal

pub returns-in_err-library : goal.returns-in_err-library
unfolding list_of
returns-in_err-library c =
    let p = err_from_is_err_and c.from_residual.result c.from_residual.ensures.1 in
    rw (p.1, p.2) (when_refused _ _ _ _ (list_image _ _ _ _ (sym (ap verdict_of c.in_err-library.was) ∙ c.accept.ensures.verdict)))

pub returns-then-room-lt147456 : goal.returns-then-room-lt147456
unfolding list_of
returns-then-room-lt147456 c =
    let few : length c.args.room.now < 147456 = omega arith in
    when_refused _ (Room Place.None) _ _ (list_room _ _ (sym (ap verdict_of c.in_ok-library.was) ∙ c.accept.ensures.verdict) few)

pub returns : goal.returns
unfolding list_of
returns c =
    let room : 147456 ≤ length c.args.room.now = omega arith in
    let same = c.in_ok-library.ensures.library in
    let b : Bytes c.args.image.now = record { low = λ j. (c.type_inv.image j).fits } in
    let fits = listing_fits b (rw same at c.in_ok-library.library.library) in
    let written = rw same at c.put.ensures in
    when_given _ _ _ _ _ (list_passes _ _ (sym (ap verdict_of c.in_ok-library.was) ∙ c.accept.ensures.verdict) room) (omega (arith, written.ends)) (written_front written (omega (arith, fits)))
