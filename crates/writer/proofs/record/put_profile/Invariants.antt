-- `record::put_profile` meets its contract: in the loop, the first i wells are written, and each is a value of 16 bits. Assumes nothing.
use mathlib.Core.Path.{◌≡◌}
use Prim.Native.Nat.{ℕ, ◌<◌}
use lib.IntN.{pos}
use lib.ListN.{get_or, take}
use lib.Seq.{sets}
use mir.Syntax.{w16}
use mir.Val.{SFits}
use Rattle.content.specs.Bytes.{profile_bytes}
use Rattle.writer.proofs.record.put_profile.Given as goal

abbrev pub invariant-loop-i : goal.invariant-loop-i
invariant-loop-i l = record {
  written : l.image ≡ sets l.initial.image l.at (profile_bytes (take l.i l.profile));
  values : (j : ℕ) → j < l.i → SFits w16 (get_or l.profile j (pos 0));
}
