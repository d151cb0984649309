-- A text written part by part: parts that are appended one behind the other are appended together. Assumes nothing.
use mathlib.Core.Path.{◌≡◌, refl, sym, ◌∙◌}
use mathlib.Core.List.{List, ◌++◌, append_assoc}
use Prim.Native.Nat.{ℕ, ◌+◌, ◌≤◌}
use native.Mathlib.Omega.{arith}
use lib.ListN.{length, take, drop, length-append, take-append-drop}
use lib.Seq.{sets, sets-eq}
use Rattle.image.proofs.Runs.{sets_on}
use Rattle.text.proofs.Parts.{values_none, values_more, lines_none, lines_more}
use Rattle.text.specs.declared.cursor.Cursor.{Cursor}
use Rattle.text.specs.Written.{Written}
use Rattle.text.specs.Cursor.{Appends}

-- at the front
pub written_front : {room text : List ℕ} {end : ℕ} {room' : List ℕ} → Written room 0 text end room' → length text ≤ length room → room' ≡ text ++ drop (length text) room
written_front {room} {text} w h = let e : 0 + length text ≡ length text = omega arith in w.stands ∙ sets-eq text room 0 (omega arith) ∙ rw e

-- written so that it ends where it is to end
pub stands_at : (room text : List ℕ) (at : ℕ) {room' : List ℕ} {start : ℕ} → start ≡ at → at + length text ≤ length room → take start room' ≡ take start room
    → drop start room' ≡ text ++ drop (at + length text) room → room' ≡ sets room at text
stands_at room text at {room'} {start} is h before written =
    sym (take-append-drop start room') ∙ rw (before, written, is, sets-eq text room at h, append_assoc) refl

-- where the second begins in the same room at the place where the first ends
pub joined_at : {a b c d : Cursor} {s t : List ℕ} → Appends a s b → Appends c t d → c.room ≡ b.room → c.end ≡ b.end → Appends a (s ++ t) d
joined_at {a} {b} {c} {d} {s} {t} v w room end =
    let e : Written b.room.now b.end t d.end d.room.now = rw (room, end) at w.written in
    record {
      written = record {
        ends = omega (arith, v.written.ends, e.ends, length-append s t);
        stands = sets_on a.room.now a.end s b.end t v.written.stands v.written.ends e.stands;
      };
      len = (rw room at w.len) ∙ v.len;
      same_reference = (rw room at w.same_reference) ∙ v.same_reference;
    }

pub joined : {a b c : Cursor} {s t : List ℕ} → Appends a s b → Appends b t c → Appends a (s ++ t) c
joined v w = joined_at v w refl refl

-- what the functions that write a listing go by
pub ruleset writing = (joined, values_none, values_more, lines_none, lines_more, length-append)
