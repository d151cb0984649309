-- A part of each rank of a list, written one by one in front of another list, or from a place of it on. Assumes nothing.
use mathlib.Core.Path.{◌≡◌, sym, ◌∙◌}
use mathlib.Core.List.{List, [], ◌++◌, map, map-append, append_assoc, append-nil}
use Prim.Native.Nat.{ℕ, ◌+◌, ◌-◌, ◌≤◌, ◌<◌}
use native.Mathlib.Omega.{arith}
use borrow.Rule.Slice.PartMut.{mid_of, put_mid}
use lib.ListN.{length, get_or, take, drop, set, length-map, length-drop, drop_of_length-le}
use lib.Seq.{sets, sets-eq, set_at, append_snoc, length-take-le}
use Rattle.std.proofs.lemmas.List.{take_more, drop_more, take_rest, drop-drop}

pub put_more : (part : ℕ → ℕ) (ranks before : List ℕ) (i : ℕ) {now : List ℕ} {v : ℕ} → i < length ranks → i < length before
    → now ≡ map part (take i ranks) ++ drop i before → v ≡ part (get_or ranks i 0)
    → set now i v ≡ map part (take (i + 1) ranks) ++ drop (i + 1) before
put_more part ranks before i h room is one =
    let front = map part (take i ranks) in
    let n : length front ≡ i = length-map (take i ranks) part ∙ length-take-le i ranks (omega arith) in
    let written = set_at front (get_or before i 0) (drop (i + 1) before) (part (get_or ranks i 0)) i n in
    rw (is, one, drop_more before i 0 room, written, take_more ranks i 0 h, map-append)
    (sym (append_snoc front (part (get_or ranks i 0)) (drop (i + 1) before)))

pub put_from : (part : ℕ → ℕ) (ranks : List ℕ) (at : ℕ) (xs : List ℕ) {now : List ℕ} → at + length ranks ≤ length xs
    → now ≡ map part ranks ++ drop (length ranks) (mid_of at (length xs - at) xs)
    → put_mid at (length xs - at) xs now ≡ sets xs at (map part ranks)
put_from part ranks at xs room is =
    let n : length (map part ranks) ≡ length ranks = length-map ranks part in
    let none : drop (length xs - at) (drop at xs) ≡ [] =
    drop_of_length-le (drop at xs) {i = length xs - at} (omega (arith, length-drop at xs)) in
    let nothing = append-nil (map part ranks ++ drop (length ranks) (drop at xs)) in
    rw (is, take_rest xs at, none, nothing, drop-drop, sets-eq (map part ranks) xs at (omega arith), n)
    (sym (append_assoc (take at xs) (map part ranks) (drop (at + length ranks) xs)))
