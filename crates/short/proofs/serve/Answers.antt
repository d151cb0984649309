-- `serve` meets its contract: rules 14 and 16, and then a sitting of one plate, written by turns. Assumes nothing.
use mathlib.Core.Path.{◌≡◌, refl, ◌∙◌, ap}
use Prim.Native.Nat.{◌*◌, ◌<◌, ◌≤◌}
use native.Mathlib.Omega.{arith}
use mathlib.Core.List.{List}
use lib.IntN.{ℤ}
use lib.ListN.{length, take, replicate}
use lib.Seq.{take_at}
use Rattle.search.specs.Ranked.{nearest, places}
use Rattle.search.specs.Calls.{code_in, distance_in}
use Rattle.profile.specs.Bytes.{wells_at}
use Rattle.profile.proofs.Reading.{wells_length}
use Rattle.image.specs.declared.refusal.Place.{Place}
use Rattle.image.specs.declared.refusal.Refusal.TheVariants.{Plate, Room}
use Rattle.image.specs.Fields.{wells_of}
use Rattle.image.proofs.Answers.{given_ok}
use Rattle.image.proofs.Outcomes.{when_refused, when_given}
use Rattle.short.specs.Short.{served_of}
use Rattle.short.proofs.Serves.{plate_unfit, room_unfit, both_fit, five, five_told, short_written}
use Rattle.short.proofs.serve.Goals as goal
use Rattle.short.proofs.serve.Goals.{After-sit, Else-plate-wells}

-- past rule 14
fits : (c : Else-plate-wells) → length c.args.plate.now ≡ 2 * wells_of c.args.library.now.records.image.now
fits c = omega (arith, c.if-plate-wells.false, c.args.library.now.is_wells)

-- the plate was read
plate-read : (c : After-sit) → take c.args.library.now.records.shape.wells c.read.new.profile ≡ wells_at c.args.plate.now 0 (wells_of c.args.library.now.records.image.now)
plate-read c =
    let plate = c.args.plate.now in let wells = c.args.library.now.records.shape.wells in
    ap (take wells) c.read.ensures ∙ take_at (wells_at plate 0 wells) _ wells (wells_length plate 0 wells) ∙ ap (wells_at plate 0) c.args.library.now.is_wells

pub returns-then-plate-wells : goal.returns-then-plate-wells
unfolding served_of
returns-then-plate-wells c = when_refused _ (Plate Place.None) _ _ (plate_unfit _ _ _ (λ e. c.if-plate-wells.true (omega (arith, e, c.args.library.now.is_wells))))

pub returns-then-out-lt40 : goal.returns-then-out-lt40
unfolding served_of
returns-then-out-lt40 c =
    let few : length c.args.out.now < 40 = omega arith in
    when_refused _ (Room Place.None) _ _ (room_unfit _ _ _ (fits (goal.at.returns-then-out-lt40 c).Else-plate-wells) few)

pub unwrap-requires : goal.unwrap-requires
unwrap-requires c =
    let same = plate-read (goal.at.unwrap-requires c).After-sit in
    let l = c.args.library.now.library in
    let told = five_told l _ (ap length same ∙ wells_length _ 0 (wells_of c.args.library.now.records.image.now)) (replicate 5 0) (replicate 5 0) refl refl c.sit.ensures in
    rw (given_ok _ told) refl

pub returns : goal.returns
unfolding served_of
returns c =
    let image = c.args.library.now.records.image.now in
    let room : 40 ≤ length c.args.out.now = omega arith in
    let same = plate-read (goal.at.returns c).After-sit in
    let l = c.args.library.now.library in
    let found = five l _ (ap length same ∙ wells_length _ 0 (wells_of image)) (replicate 5 0) (replicate 5 0) refl refl c.sit.ensures in
    let wrote =
    short_written _ _ _ _ (found.0 ∙ ap (λ (v : List ℤ). places 5 code_in (nearest image 5 v)) same)
    (found.1 ∙ ap (λ (v : List ℤ). places 5 distance_in (nearest image 5 v)) same) c.sit.auto.codes c.sit.auto.distances room c.write.ensures in
    when_given _ _ _ _ _ (both_fit _ _ _ (fits (goal.at.returns c).Else-plate-wells) room) wrote.0 wrote.1
