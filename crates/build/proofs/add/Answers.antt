-- `add` meets its contract: with one record more, the library takes as much room as the layout says. Assumes nothing.
use mathlib.Core.Path.{◌≡◌}
use native.Mathlib.Omega.{arith}
use Rattle.image.specs.Answer.{outcome}
use Rattle.image.specs.Verdict.{accepted, judge}
use Rattle.image.proofs.Outcomes.{when_given}
use Rattle.checker.specs.Check.{check_of}
use Rattle.build.specs.Rules.{add_rules, room_rules}
use Rattle.build.specs.Calls.{add_of}
use Rattle.build.specs.Steps.{Offered}
use Rattle.build.proofs.Calls.{judged}
use Rattle.build.proofs.Room.{size_more}
use Rattle.build.proofs.add.Goals as goal

pub returns-then-buffer-grown : goal.returns-then-buffer-grown
unfolding add_of add_rules room_rules Offered check_of outcome
returns-then-buffer-grown c =
    let more = size_more c.args.buffer.now c.args.stated c.if-buffer-stated.false c.in_ok-library.library c.in_ok-library.ensures.library in
    grind (arith, judged)

pub returns : goal.returns
unfolding add_of add_rules room_rules Offered check_of
returns c =
    let a = c.args in
    let more = size_more a.buffer.now a.stated c.if-buffer-stated.false c.in_ok-library.library c.in_ok-library.ensures.library in
    let passed : judge (add_rules a.buffer.now a.stated a.code a.profile.now) ≡ accepted = grind (arith, judged) in
    when_given _ _ _ _ _ passed c.grow.ensures.long c.grow.ensures.exact
