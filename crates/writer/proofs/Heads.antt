-- A header that was written. Assumes nothing.
use mathlib.Core.Path.{◌≡◌, ◌∙◌, ap, subst}
use mathlib.Core.List.{List}
use Prim.Native.Nat.{ℕ, ◌≤◌, ◌<◌}
use native.Mathlib.Nat.{zero-add}
use native.Mathlib.Omega.{arith}
use lib.ListN.{length, get_or}
use lib.Seq.{sets, length-sets}
use Rattle.content.specs.Bytes.{header_bytes}
use Rattle.content.specs.Headed.{Headed}
use Rattle.content.proofs.Same.{header_same, header_written}
use Rattle.content.proofs.Bytes.{header_length}
use Rattle.writer.proofs.Stores.{sets_in, sets_behind}

module _ (xs ys : List ℕ) (wells metric count root : ℕ) (e : ys ≡ sets xs 0 (header_bytes wells metric count root)) (room : 16 ≤ length xs) where
  abbrev bytes : List ℕ
  bytes = header_bytes wells metric count root

  pub head_long : length ys ≡ length xs
  head_long = ap length e ∙ length-sets xs 0 bytes

  pub past_head : (j : ℕ) → 16 ≤ j → get_or ys j 0 ≡ get_or xs j 0
  past_head j h = rw e (sets_behind xs bytes 0 j (omega (arith, header_length wells metric count root)))

  in_head : (j : ℕ) → j < 16 → get_or ys j 0 ≡ get_or bytes j 0
  in_head j h =
      rw e (subst (λ (k : ℕ). get_or (sets xs 0 bytes) k 0 ≡ get_or bytes j 0) (zero-add j)
      (sets_in xs bytes 0 j (omega (arith, header_length wells metric count root)) (omega (arith, header_length wells metric count root))))

  pub headed : Headed ys wells metric count root
  headed = header_written ys wells metric count root in_head

-- a header that stays
pub headed_still : {xs ys : List ℕ} {wells metric count root : ℕ} → ((j : ℕ) → j < 16 → get_or ys j 0 ≡ get_or xs j 0) → Headed xs wells metric count root
    → Headed ys wells metric count root
headed_still {xs} {ys} same h =
    let s = header_same xs ys same in
    record {
      edition = s.edition ∙ h.edition;
      wells = s.wells ∙ h.wells;
      metric = s.metric ∙ h.metric;
      count = s.count ∙ h.count;
      root = s.root ∙ h.root;
      profiles_offset = s.profiles_offset ∙ h.profiles_offset;
      nodes_offset = s.nodes_offset ∙ h.nodes_offset;
    }
