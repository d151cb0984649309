-- `passage::Passage::stop` meets its contract: what the loop has measured lies beyond the bound. Assumes nothing.
use mathlib.Core.Path.{◌≡◌}
use Prim.Native.Nat.{ℕ, ◌+◌, ◌-◌, ◌≤◌}
use lib.ListN.{length}
use Rattle.walk.specs.Meeting.{Past}
use Rattle.walk.proofs.passage.Passage.stop.Given as goal

abbrev pub invariant-loop-step : goal.invariant-loop-step
invariant-loop-step l =
    let p = l.self in
    record {
      within : l.place ≤ length p.walk.steps.now;
      few : l.measured ≤ l.place;
      many : ℕ;
      is_measured : l.measured ≡ p.measured + many;
      past : Past p.walk.library.records.image.now p.plate.now l.bound p.place l.place many;
    }

abbrev pub decreases-loop-step : goal.decreases-loop-step
decreases-loop-step l = length l.self.walk.steps.now - l.place
