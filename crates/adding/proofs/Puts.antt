-- The stores that write a record behind the others, and the root's level. Assumes nothing.
use mathlib.Core.Path.{◌≡◌, ◌∙◌, ap}
use mathlib.Core.Logic.{◌≢◌, ◌⊎◌, inl, inr}
use mathlib.Core.List.{List}
use Prim.Native.Nat.{ℕ, ◌+◌, ◌*◌, ◌≤◌, ◌<◌}
use native.Mathlib.Omega.{arith}
use lib.IntN.{ℤ}
use lib.ListN.{length, get_or, set, length-set}
use lib.Seq.{get_or-set_same, get_or-set_other, sets, length-sets}
use Rattle.image.specs.Fields.{root_of, level_byte_at, profile_start}
use Rattle.image.proofs.Sizes.{row_in}
use Rattle.content.specs.Content.{Kept}
use Rattle.content.specs.Bytes.{level_byte_of, node_bytes, profile_bytes}
use Rattle.content.proofs.Bytes.{node_length, profile_length}
use Rattle.writer.proofs.Stores.{sets_in, sets_before, sets_behind}
use Rattle.adding.specs.Filled.{Filled}

-- record k was written, and the root's level byte; all else is as it was
pub record Put (xs ys : List ℕ) (wells count k : ℕ) (r : Kept) (top : ℤ) : Type 0 where
  pub size : length ys ≡ length xs
  pub node : (j : ℕ) → j < 8 → get_or ys (16 + 8 * k + j) 0 ≡ get_or (node_bytes r) j 0
  pub profile : (j : ℕ) → j < 2 * wells → get_or ys (profile_start count wells k + j) 0 ≡ get_or (profile_bytes r.strain.profile) j 0
  pub root_level : level_byte_at ys (root_of xs) ≡ level_byte_of top
  pub else : (j : ℕ) → j ≢ 22 + 8 * root_of xs → (j < 16 + 8 * k) ⊎ (24 + 8 * k ≤ j) → (j < profile_start count wells k) ⊎ (profile_start count wells k + 2 * wells ≤ j)
      → get_or ys j 0 ≡ get_or xs j 0

-- the stores that write it
module _ {xs : List ℕ} {metric wells count k : ℕ} (f : Filled xs metric wells count k) (inside : k < count) (r : Kept) (top : ℤ)
    (long : length r.strain.profile ≡ wells) where
  abbrev at : ℕ
  at = profile_start count wells k

  abbrev noded : List ℕ
  noded = sets xs (16 + 8 * k) (node_bytes r)

  abbrev whole : List ℕ
  whole = sets noded at (profile_bytes r.strain.profile)

  abbrev raised_to : List ℕ
  raised_to = set whole (22 + 8 * root_of xs) (level_byte_of top)

  profile_long : length (profile_bytes r.strain.profile) ≡ 2 * wells
  profile_long = profile_length r.strain.profile ∙ ap (λ (n : ℕ). 2 * n) long

  noded_long : length noded ≡ length xs
  noded_long = length-sets xs (16 + 8 * k) (node_bytes r)

  whole_long : length whole ≡ length xs
  whole_long = length-sets noded at (profile_bytes r.strain.profile) ∙ noded_long

  past_root : (j : ℕ) → j ≢ 22 + 8 * root_of xs → get_or raised_to j 0 ≡ get_or whole j 0
  past_root j ne = get_or-set_other whole (22 + 8 * root_of xs) j (level_byte_of top) 0 ne

  past_profile : (j : ℕ) → (j < at) ⊎ (at + 2 * wells ≤ j) → get_or whole j 0 ≡ get_or noded j 0
  past_profile j (inl h) = sets_before noded (profile_bytes r.strain.profile) at j h
  past_profile j (inr h) = sets_behind noded (profile_bytes r.strain.profile) at j (omega (arith, profile_long))

  past_node : (j : ℕ) → (j < 16 + 8 * k) ⊎ (24 + 8 * k ≤ j) → get_or noded j 0 ≡ get_or xs j 0
  past_node j (inl h) = sets_before xs (node_bytes r) (16 + 8 * k) j h
  past_node j (inr h) = sets_behind xs (node_bytes r) (16 + 8 * k) j (omega (arith, node_length r))

  pub put : (ys : List ℕ) → ys ≡ raised_to → Put xs ys wells count k r top
  put ys e = rw e (record {
    size = length-set whole (22 + 8 * root_of xs) (level_byte_of top) ∙ whole_long;
    node = λ j h.
        past_root (16 + 8 * k + j) (λ q. absurd (omega (arith, f.root_in)))
        ∙ past_profile (16 + 8 * k + j) (inl (omega arith))
        ∙ sets_in xs (node_bytes r) (16 + 8 * k) j (omega (arith, node_length r, f.room)) (omega (arith, node_length r));
    profile = λ j h.
        past_root (at + j) (λ q. absurd (omega (arith, f.root_in)))
        ∙ sets_in noded (profile_bytes r.strain.profile) at j (omega (arith, profile_long, noded_long, f.room, row_in wells inside)) (omega (arith, profile_long));
    root_level = get_or-set_same whole (22 + 8 * root_of xs) (level_byte_of top) 0 (omega (arith, whole_long, f.room, f.root_in));
    else = λ j ne n q. past_root j ne ∙ past_profile j q ∙ past_node j n;
  })
