-- `sit::sit` meets its contract: rules 14 to 16, and then the plates. Assumes nothing.
use mathlib.Core.Path.{◌≡◌, ap, ◌∙◌}
use mathlib.Core.List.{List}
use Prim.Native.Nat.{ℕ, ◌*◌, ◌/◌, min}
use native.Mathlib.Omega.{arith}
use lib.IntN.{ℤ}
use lib.ListN.{length}
use Rattle.image.specs.declared.refusal.Place.{Place}
use Rattle.image.specs.declared.refusal.Refusal.TheVariants.{Plate, Neighbours, Room}
use Rattle.search.proofs.Outcomes.{when_refused, when_given}
use Rattle.search.proofs.Sits.{plates_unfit, neighbours_unfit, room_unfit, all_passed, sat_given}
use Rattle.search.proofs.sit.sit.Goals as goal

-- how many places are needed
many : (plates : List ℤ) (k : ℕ) {wells wells' : ℕ} → wells ≡ wells' → length plates / wells * k ≡ length plates / wells' * k
many plates k e = ap (λ (w : ℕ). length plates / w * k) e

pub returns-then-plates-wells : goal.returns-then-plates-wells
returns-then-plates-wells c = when_refused _ _ _ _ (Plate Place.None) (plates_unfit _ _ _ _ _ c.args.library.now.is_wells c.outside.ensures c.if-plates-wells.true)

pub returns-then-outside : goal.returns-then-outside
returns-then-outside c =
    when_refused _ _ _ _ (Neighbours Place.None)
    (neighbours_unfit _ _ _ _ _ c.args.library.now.is_wells c.outside.ensures c.if-plates-wells.false c.outside-2.ensures c.if-outside.true)

pub returns-then-min-many : goal.returns-then-min-many
returns-then-min-many c =
    when_refused _ _ _ _ (Room Place.None)
    (room_unfit _ _ _ _ _ c.args.library.now.is_wells c.outside.ensures c.if-plates-wells.false c.outside-2.ensures c.if-outside.false
    (omega (arith, many c.args.plates.now c.args.k c.args.library.now.is_wells, c.min.ensures, c.if-min-many.true)))

pub returns : goal.returns
returns c =
    let needed = many c.args.plates.now c.args.k c.args.library.now.is_wells in
    when_given _ _ _ _
    (all_passed _ _ _ _ _ c.args.library.now.is_wells c.outside.ensures c.if-plates-wells.false c.outside-2.ensures c.if-outside.false
    (omega (arith, needed, c.min.ensures, c.if-min-many.false)) (omega (arith, needed, c.min.ensures, c.if-min-many.false)))
    (sat_given _ _ _ _ _ (c.min-2.ensures ∙ ap (min _) c.args.library.now.is_count) c.serve.ensures.codes c.serve.ensures.distances)
