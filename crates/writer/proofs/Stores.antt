-- A run of stores: what stands in it, before it and behind it. Assumes nothing.
use mathlib.Core.Path.{◌≡◌, refl, ◌∙◌}
use mathlib.Core.List.{List, [], ◌∷◌}
use Prim.Native.Nat.{ℕ, zero, suc, ◌+◌, ◌≤◌, ◌<◌}
use native.Mathlib.Omega.{arith}
use borrow.Rule.Slice.PartMut.{put_mid}
use Rattle.std.proofs.lemmas.Slice.{put_mid-paste}
use Rattle.std.proofs.lemmas.List.{append_assoc}
use Rattle.std.proofs.lemmas.List.Edits.{paste_all, sets-eq}
use lib.ListN.{length, get_or, set, length-set}
use lib.Seq.{sets, get_or-set_same, get_or-set_other}

-- a part that was written whole is a run of stores
pub part_run : (l : List ℕ) (i k : ℕ) (vs : List ℕ) {ws : List ℕ} → ws ≡ vs → k ≡ length vs → i + length vs ≤ length l → put_mid i k l ws ≡ sets l i vs
part_run l i k vs {ws} e n room =
    put_mid-paste i k l ws vs k e refl n ∙ paste_all l i vs k n ∙ rw (n, sets-eq vs l i room, append_assoc)

pub sets_before : (l vs : List ℕ) (i j : ℕ) → j < i → get_or (sets l i vs) j 0 ≡ get_or l j 0
sets_before l [] i j h = refl
sets_before l (v ∷ vs) i j h = sets_before (set l i v) vs (suc i) j (omega arith) ∙ get_or-set_other l i j v 0 (λ e. omega arith)

pub sets_behind : (l vs : List ℕ) (i j : ℕ) → i + length vs ≤ j → get_or (sets l i vs) j 0 ≡ get_or l j 0
sets_behind l [] i j h = refl
sets_behind l (v ∷ vs) i j h = sets_behind (set l i v) vs (suc i) j (omega arith) ∙ get_or-set_other l i j v 0 (λ e. omega arith)

pub sets_in : (l vs : List ℕ) (i j : ℕ) → i + length vs ≤ length l → j < length vs → get_or (sets l i vs) (i + j) 0 ≡ get_or vs j 0
sets_in l [] i j h k = absurd (omega arith)
sets_in l (v ∷ vs) i zero h k =
    let e : i + 0 ≡ i = omega arith in
    rw e (sets_before (set l i v) vs (suc i) i (omega arith) ∙ get_or-set_same l i v 0 (omega arith))
sets_in l (v ∷ vs) i (suc j) h k =
    let e : i + suc j ≡ suc i + j = omega arith in
    rw e (sets_in (set l i v) vs (suc i) j (omega (arith, length-set l i v)) (omega arith))
