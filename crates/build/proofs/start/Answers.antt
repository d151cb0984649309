-- `start` meets its contract: where no rule refuses, the root is written. Assumes nothing.
use mathlib.Core.Path.{◌≡◌, ◌∙◌}
use Prim.Native.Nat.{◌≤◌}
use native.Mathlib.Omega.{arith}
use lib.ListN.{length}
use Rattle.image.specs.Fields.{size_of}
use Rattle.image.specs.Verdict.{accepted, judge}
use Rattle.image.proofs.Outcomes.{when_given}
use Rattle.content.specs.Bytes.{Bytes}
use Rattle.adding.proofs.Starts.{started_buffer, started_long}
use Rattle.build.specs.Rules.{start_rules}
use Rattle.build.specs.Calls.{start_of}
use Rattle.build.proofs.Calls.{judged}
use Rattle.build.proofs.start.Goals as goal

pub returns : goal.returns
unfolding start_of start_rules
returns c =
    let a = c.args in
    let passed : judge (start_rules a.wells a.metric a.code a.profile.now (length a.buffer.now)) ≡ accepted = grind (arith, judged) in
    let bytes : Bytes c.begin.new.buffer = record { low = λ j. (c.type_inv.buffer j).fits } in
    let room : size_of a.wells 1 ≤ length a.buffer.now = omega (arith, c.size-size.ensures, c.if-buffer-size.false) in
    let begun = rw c.in-Some.ensures.1 at c.begin.ensures in
    when_given _ _ _ _ _ passed (started_long _ _ _ _ _ begun bytes room ∙ omega (arith, c.size-size.ensures)) (started_buffer _ _ _ _ _ begun bytes room)
