-- A library begun for one strain is all there: it stands in front of its buffer. Assumes nothing.
use mathlib.Core.Path.{◌≡◌, ◌∙◌, ap}
use mathlib.Core.List.{List, ◌++◌}
use Prim.Native.Nat.{ℕ, ◌+◌, ◌*◌, ◌≤◌}
use native.Mathlib.Omega.{arith}
use lib.ListN.{length, drop}
use Rattle.image.specs.Fields.{count_of, size_of}
use Rattle.image.specs.Strains.{Strain}
use Rattle.content.specs.Content.{first_of}
use Rattle.content.specs.Bytes.{bytes_of, Bytes}
use Rattle.content.specs.Adding.{started}
use Rattle.content.proofs.Front.{Laid, buffer_is, image_long}
use Rattle.adding.specs.Steps.{Begun}
use Rattle.adding.proofs.Grows.{laid_of}

module _ (buffer ys : List ℕ) (wells metric : ℕ) (s : Strain) (h : Begun buffer ys wells metric 1 s) (b : Bytes ys) (room : size_of wells 1 ≤ length buffer) where
  laid : Laid ys (size_of wells 1)
  laid = laid_of h.headed (omega (arith, h.long, room)) h.spare

  says : first_of ys (count_of ys) ≡ started wells metric s
  says = ap (first_of ys) h.headed.count ∙ h.says

  pub started_buffer : ys ≡ bytes_of (started wells metric s) ++ drop (length (bytes_of (started wells metric s))) buffer
  started_buffer = buffer_is ys b (size_of wells 1) laid buffer (started wells metric s) says h.long h.behind

  pub started_long : length (bytes_of (started wells metric s)) ≡ 24 + 2 * wells
  started_long = image_long ys b (size_of wells 1) laid (started wells metric s) says ∙ omega arith
