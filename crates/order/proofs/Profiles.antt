-- A profile in an image's bytes, well by well. Assumes nothing.
use mathlib.Core.Path.{◌≡◌, sym, ◌∙◌}
use mathlib.Core.List.{List, ◌++◌}
use Prim.Native.Nat.{ℕ, ◌+◌, ◌*◌, ◌≤◌, ◌<◌}
use native.Mathlib.Omega.{arith}
use lib.IntN.{ℤ, pos}
use lib.ListN.{length, get_or, length-append}
use lib.Seq.{ext_get_or}
use Rattle.profile.specs.Bytes.{well_at, wells_at}
use Rattle.profile.proofs.Reading.{wells_length, wells_well}

-- where each well was read, the profile was
pub wells_read : (bytes : List ℕ) (at wells : ℕ) (xs : List ℤ) → length xs ≡ wells
    → ((i : ℕ) → i < wells → get_or xs i (pos 0) ≡ well_at bytes (at + 2 * i)) → xs ≡ wells_at bytes at wells
wells_read bytes at wells xs long read =
    ext_get_or (pos 0) xs (wells_at bytes at wells) (long ∙ sym (wells_length bytes at wells))
    (λ i h. let k : i < wells = omega arith in read i k ∙ sym (wells_well bytes at wells i k))

-- a profile that was read into an array fills its front
pub read_fits : (image : List ℕ) (at wells : ℕ) {xs : List ℤ} (rest : List ℤ) → xs ≡ wells_at image at wells ++ rest → wells ≤ length xs
read_fits image at wells rest e = rw e (omega (arith, length-append (wells_at image at wells) rest, wells_length image at wells))
