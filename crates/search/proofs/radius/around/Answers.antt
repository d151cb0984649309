-- `radius::around` meets its contract: rules 14 and 16, and then the strains. Assumes nothing.
use mathlib.Core.Path.{◌≡◌, sym, ◌∙◌}
use native.Mathlib.Omega.{arith}
use lib.ListN.{length}
use Rattle.image.specs.Fields.{wells_of}
use Rattle.image.specs.declared.refusal.Place.{Place}
use Rattle.image.specs.declared.refusal.Refusal.TheVariants.{Plate, Room}
use Rattle.search.proofs.Outcomes.{when_refused, when_given, too_short, long_enough, plate_unfit, plate_fits, around_given}
use Rattle.search.proofs.radius.around.Goals as goal
use Rattle.search.proofs.radius.around.Goals.{Else-plate-shape}

-- past rule 14
fits : (c : Else-plate-shape) → length c.args.plate.now ≡ wells_of c.args.library.now.records.image.now
fits c = c.if-plate-shape.false ∙ c.args.library.now.is_wells

pub returns-then-plate-shape : goal.returns-then-plate-shape
returns-then-plate-shape c = when_refused _ _ _ _ (Plate Place.None) (plate_unfit _ _ _ _ (λ e. c.if-plate-shape.true (e ∙ sym c.args.library.now.is_wells)))

pub returns-then-min-shape : goal.returns-then-min-shape
returns-then-min-shape c =
    when_refused _ _ _ _ (Room Place.None)
    (plate_fits _ _ _ _ (fits (goal.at.returns-then-min-shape c).Else-plate-shape)
    ∙ too_short _ _ _ (omega (arith, c.args.library.now.is_count, c.min.ensures, c.if-min-shape.true)))

pub returns : goal.returns
returns c =
    let count = c.args.library.now.is_count in
    when_given _ _ _ _
    (plate_fits _ _ _ _ (fits (goal.at.returns c).Else-plate-shape)
    ∙ long_enough _ _ _ (omega (arith, count, c.min.ensures, c.if-min-shape.false)) (omega (arith, count, c.min.ensures, c.if-min-shape.false)))
    (around_given c.list.ensures)
