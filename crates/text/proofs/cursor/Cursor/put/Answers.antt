-- `Cursor::put` meets its contract: the text is copied to its place. Assumes nothing.
use mathlib.Core.Path.{◌≡◌, refl, ap, ◌∙◌}
use mathlib.Core.List.{List}
use Prim.Native.Nat.{ℕ, ◌+◌, ◌-◌, ◌≤◌}
use native.Mathlib.Omega.{arith}
use lib.ListN.{length}
use lib.Seq.{sets, sets-eq, length-sets}
use borrow.Rule.Slice.PartMut.{put_mid}
use Rattle.std.proofs.lemmas.Grind.{common_steps}
use Rattle.text.proofs.cursor.Cursor.put.Goals as goal

copied : (room : List ℕ) (at : ℕ) (text part : List ℕ) → part ≡ text → at + length text ≤ length room → put_mid at (at + length text - at) room part ≡ sets room at text
copied room at text part e h = rw (e, sets-eq text room at h) (grind (arith, common_steps))

pub returns : goal.returns
returns c =
    let stands = copied c.args.self.now.room.now c.args.self.now.end c.args.text.now _ c.copy.ensures c.requires in
    record { written = record { ends = refl; stands = stands }; len = ap length stands ∙ length-sets c.args.self.now.room.now c.args.self.now.end c.args.text.now; same_reference = refl }
