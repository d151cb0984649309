use mathlib.Core.Path.{◌≡◌, ◌∙◌}
use Prim.Native.Nat.{◌<◌}
use native.Mathlib.Omega.{arith}
use Rattle.build.specs.Rules.{strain_rules}
use Rattle.build.specs.Steps.{Offered}
use Rattle.build.proofs.Calls.{judged}
use Rattle.build.proofs.Offers.{seated_all, held_there, not_held}
use Rattle.build.proofs.offer.consider.Goals as goal

pub returns-then-strain-library : goal.returns-then-strain-library
unfolding Offered strain_rules
returns-then-strain-library c = λ room. grind (arith, judged)

pub returns-then-strain-eq0 : goal.returns-then-strain-eq0
unfolding Offered strain_rules
returns-then-strain-eq0 c = λ room. grind (arith, judged)

pub returns-in-Some : goal.returns-in-Some
unfolding Offered strain_rules
returns-in-Some c = λ room. grind (arith, judged)

pub returns-then-seat-eq0 : goal.returns-then-seat-eq0
unfolding Offered strain_rules
returns-then-seat-eq0 c =
    let l = c.args.library.now in let long = c.if-strain-library.false ∙ l.is_wells in
    let seated = seated_all l c.of.result c.of.ensures.records c.of.ensures.filled c.of.ensures.profile c.nearest-seat.ensures in
    let zero : c.nearest-seat.result.distance ≡ 0 = omega arith in
    let held = held_there l.library _ long _ seated zero in
    λ room. grind (arith, judged)

pub returns : goal.returns
unfolding Offered strain_rules
returns c =
    let l = c.args.library.now in let long = c.if-strain-library.false ∙ l.is_wells in
    let seated = seated_all l c.of.result c.of.ensures.records c.of.ensures.filled c.of.ensures.profile c.nearest-seat.ensures in
    let away : 0 < c.nearest-seat.result.distance = omega arith in
    let held = not_held l.library _ long _ seated away in
    record { passes = λ room. grind (arith, judged); seat_for = record { wells = long; away = away; seated = seated } }
