-- Two runs of stores in a row are one run. Assumes nothing.
use mathlib.Core.Path.{◌≡◌, sym, ◌∙◌}
use mathlib.Core.List.{List, [], ◌∷◌, ◌++◌}
use Prim.Native.Nat.{ℕ, suc, ◌+◌}
use native.Mathlib.Omega.{arith}
use lib.ListN.{length, set}
use lib.Seq.{sets}

pub sets_append : {A : Type 0} (l vs ws : List A) (i : ℕ) → sets l i (vs ++ ws) ≡ sets (sets l i vs) (i + length vs) ws
sets_append l [] ws i = let e : i + 0 ≡ i = omega arith in rw e
sets_append l (v ∷ vs) ws i =
    let e : i + suc (length vs) ≡ suc i + length vs = omega arith in
    rw e (sets_append (set l i v) vs ws (suc i))

-- a second run that begins where the first ends
pub sets_on : (l : List ℕ) (i : ℕ) (vs : List ℕ) (j : ℕ) (ws : List ℕ) {m n : List ℕ}
    → m ≡ sets l i vs → j ≡ i + length vs → n ≡ sets m j ws → n ≡ sets l i (vs ++ ws)
sets_on l i vs j ws e h f = f ∙ rw (e, h) (sym (sets_append l vs ws i))
