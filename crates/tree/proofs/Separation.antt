-- Separation: the cover sets of the published definition and document 01's pairs say the same. Assumes nothing.
use mathlib.Core.Logic.{◌↔◌}
use Prim.Native.Nat.{ℕ}
use native.Mathlib.Nat.{lt_of_le_of_lt}
use lib.IntN.{ℤ}
use lib.Signed.{◌≤ℤ◌}
use Rattle.profile.specs.Level.{◌>2^◌, lower}
use Rattle.profile.proofs.Levels.{more_than, cover_mono, lower_le, le_lower}
use Rattle.tree.specs.Tree.{Tree, SeparationCondition, PairsApart}

-- what is further apart than a power is further apart than a smaller one
pub more_than_lower : (d : ℕ) {i m : ℤ} → i ≤ℤ m → d >2^ m → d >2^ i
more_than_lower d {i} {m} h k = (more_than d i).1 (lt_of_le_of_lt (cover_mono h) ((more_than d m).0 k))

module _ {X : Type 0} {dist : X → X → ℕ} {t : Tree X} where
  pub pairs_of_sets : SeparationCondition dist t → PairsApart dist t
  pairs_of_sets s = record {
    apart = λ p q hp hq ne.
        let l = lower_le (t.level p) (t.level q) in
        s.apart (lower (t.level p) (t.level q)) p q (record { node = hp; high = l.0 }) (record { node = hq; high = l.1 }) ne;
  }

  pub sets_of_pairs : PairsApart dist t → SeparationCondition dist t
  sets_of_pairs s = record {
    apart = λ i p q hp hq ne. more_than_lower (dist (t.profile p) (t.profile q)) (le_lower hp.high hq.high) (s.apart p q hp.node hq.node ne);
  }

  pub separation_forms : SeparationCondition dist t ↔ PairsApart dist t
  separation_forms = (pairs_of_sets, sets_of_pairs)
