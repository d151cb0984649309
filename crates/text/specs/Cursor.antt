-- What a cursor writes. Assumes nothing.
use Rattle.std.specs.Prelude.{◌≡◌, List, ℕ, ◌+◌, ◌≤◌, length}
use Rattle.text.specs.declared.cursor.Cursor.{Cursor}
use Rattle.text.specs.Written.{Written}

-- behind what is written there is room for the text
abbrev pub HasRoom : Cursor → List ℕ → Type 0
HasRoom out text = out.end + length text ≤ length out.room.now

-- the text stands behind what was written, in the same room
pub record Appends (before : Cursor) (text : List ℕ) (after : Cursor) : Type 0 where
  pub written : Written before.room.now before.end text after.end after.room.now
  pub len : length after.room.now ≡ length before.room.now
  pub same_reference : after.room.ghost_name ≡ before.room.ghost_name
