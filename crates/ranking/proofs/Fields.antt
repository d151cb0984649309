-- A running list gives its fields back. Assumes nothing.
use mathlib.Core.Path.{◌≡◌, refl}
use Prim.Native.Nat.{◌-◌, ◌≤◌}
use native.Mathlib.Omega.{arith}
use lib.ListN.{length, take, drop, replicate}
use lib.Seq.{length-take-le}
use Rattle.std.proofs.lemmas.List.{take-append-drop}
use Rattle.ranking.specs.Best.{held_in, fields_of}
use Rattle.ranking.specs.declared.best.Best.TheInside.{Inside}

-- where 0 stands behind the list
pub fields_back : {b : Inside} → b.held ≤ 32 → length b.ranks ≡ 32 → drop b.held b.ranks ≡ replicate (32 - b.held) 0 → fields_of (held_in b) ≡ b
fields_back {b = b} few long zeros =
    let l : length (take b.held b.ranks) ≡ b.held = length-take-le b.held b.ranks (omega (arith, few, long)) in
    rw (l, ← zeros, take-append-drop b.held b.ranks) refl
