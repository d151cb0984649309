use mathlib.Core.Path.{◌≡◌, ◌∙◌}
use Prim.Native.Nat.{◌+◌, ◌*◌}
use native.Mathlib.Omega.{arith}
use borrow.Author.Rules.{rules}
use Rattle.profile.specs.Bytes.{well_at}
use Rattle.profile.proofs.Reading.{wells_length, wells_well}
use Rattle.text.proofs.Signs.{widened}
use mir.Syntax.{w32}
use mir.Val.{to_z, of_z}
use Rattle.text.proofs.Parts.{values_more, values_room}
use Rattle.text.proofs.Writes.{joined}
use Rattle.text.proofs.line.put_values.Goals as goal
use Rattle.text.proofs.line.put_values.Goals.{After-from}

pub well-requires : goal.well-requires
well-requires c = let a = c.args.profile.now in omega (arith, wells_length a.image.now a.at a.wells)

-- what is written of it
value : (c : After-from) → to_z w32 (of_z w32 c.from.result) ≡ well_at c.args.profile.now.image.now (c.args.profile.now.at + 2 * c.loop-i.i)
value c =
    let a = c.args.profile.now in
    widened c.well.result c.from.result (search rules) c.from.ensures ∙ c.well.ensures ∙ wells_well a.image.now a.at a.wells c.loop-i.i (omega arith)

pub put_byte-requires : goal.put_byte-requires
put_byte-requires c =
    let a = c.args.profile.now in
    omega (arith, c.requires, c.loop-i.invariant.written.ends, c.loop-i.invariant.len, values_room a.image.now a.at c.loop-i.i a.wells (omega arith))

pub put_signed-requires : goal.put_signed-requires
put_signed-requires c =
    let a = c.args.profile.now in
    rw (value (goal.at.put_signed-requires c).After-from)
    (omega (arith, c.requires, c.put_byte.ensures.written.ends, c.put_byte.ensures.len, c.loop-i.invariant.written.ends, c.loop-i.invariant.len, values_room a.image.now a.at c.loop-i.i a.wells (omega arith)))

pub loop-i-preserved : goal.loop-i-preserved
loop-i-preserved c =
    let part = rw (value (goal.at.loop-i-preserved c).After-from) at c.put_signed.ensures in
    rw values_more (joined c.loop-i.invariant (joined c.put_byte.ensures part))
