-- The room that a library with one record more takes. Assumes nothing.
use mathlib.Core.Path.{◌≡◌, subst}
use mathlib.Core.List.{List}
use Prim.Native.Nat.{ℕ, suc, ◌+◌, ◌*◌, ◌≤◌}
use native.Mathlib.Nat.{mul-suc}
use native.Mathlib.Omega.{arith}
use lib.ListN.{length, take}
use Rattle.image.specs.Fields.{wells_of, count_of, size_of}
use Rattle.image.specs.Library.{Library}
use Rattle.image.specs.declared.accepted.Accepted.{Accepted}
use Rattle.adding.proofs.Widens.{stated_is}

-- of the library that is accepted in front of a buffer
pub size_more : (buffer : List ℕ) (stated : ℕ) → stated ≤ length buffer → (a : Accepted) → a.records.image.now ≡ take stated buffer
    → size_of (wells_of (take stated buffer)) (suc (count_of (take stated buffer))) ≡ stated + (8 + 2 * wells_of (take stated buffer))
size_more buffer stated within a e =
    let image = take stated buffer in
    omega (arith, stated_is buffer stated (subst Library e a.library) within, mul-suc (wells_of image) (count_of image))
