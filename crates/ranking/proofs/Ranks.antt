-- The rank of a strain that is found: its distance and its code, and their order. Assumes nothing.
use mathlib.Core.Path.{◌≡◌}
use mathlib.Core.Logic.{◌⊎◌, inl, inr}
use Prim.Native.Nat.{◌≤◌, ◌<◌}
use native.Mathlib.Omega.{arith}
use Rattle.ranking.specs.Found.{Found, rank, distance_of, code_of}
use Rattle.ranking.proofs.Insert.{split}

pub rank_distance : (f : Found) → f.code < 4294967296 → distance_of (rank f) ≡ f.distance
rank_distance f h = omega arith

pub rank_code : (f : Found) → f.code < 4294967296 → code_of (rank f) ≡ f.code
rank_code f h = omega arith

-- the lower rank has the lower distance or, on a tie, the lower code
pub rank_lower : (a b : Found) → a.code < 4294967296 → b.code < 4294967296 → rank a < rank b
    → (a.distance < b.distance) ⊎ ((a.distance ≡ b.distance) × (a.code < b.code))
rank_lower a b h l lower = split a.distance b.distance inl (λ far. inr (omega arith, omega arith))

pub lower_rank : (a b : Found) → a.code < 4294967296 → b.code < 4294967296
    → (a.distance < b.distance) ⊎ ((a.distance ≡ b.distance) × (a.code < b.code)) → rank a < rank b
lower_rank a b h l (inl nearer) = omega arith
lower_rank a b h l (inr tie) = omega (arith, tie.0, tie.1)

pub rank_nearer : (a b : Found) → b.code < 4294967296 → rank a ≤ rank b → a.distance ≤ b.distance
rank_nearer a b h lower = omega arith
