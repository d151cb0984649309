-- A library's image with a strain more. Assumes nothing.
use Rattle.std.specs.Prelude.{List, ℕ, ℤ, take}
use Rattle.image.specs.Strains.{strain_of}
use Rattle.content.specs.Content.{content_of}
use Rattle.content.specs.Bytes.{bytes_of}
use Rattle.content.specs.Adding.{added}

-- the image in the first `stated` bytes of a buffer, with a strain more
abbrev pub image_with : List ℕ → (stated code : ℕ) → List ℤ → List ℕ
image_with buffer stated code profile = bytes_of (added (content_of (take stated buffer)) (strain_of code profile))
