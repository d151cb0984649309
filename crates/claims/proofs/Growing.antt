-- Strains added one after the other, in any buffer that is long enough: what there is to compute does not depend on the buffer. Assumes nothing.
use mathlib.Core.Path.{◌≡◌, refl, sym, ◌∙◌, ap}
use mathlib.Core.List.{List, [], ◌∷◌, ◌++◌, foldl}
use Prim.Native.Nat.{ℕ, ◌+◌, ◌≤◌}
use native.Mathlib.Omega.{arith}
use lib.Dec.{ltb}
use lib.ListN.{length, drop, length-append, length-drop}
use lib.Seq.{take-append_seam, drop-append-add, drop-drop}
use borrow.Author.Tests.{le-ltb}
use Rattle.image.specs.Strains.{Strain}
use Rattle.image.specs.Verdict.{accepted, rule, when, judge}
use Rattle.image.specs.Answer.{given, outcome}
use Rattle.image.proofs.Verdicts.{pass, accepted_none}
use Rattle.checker.specs.Check.{check_of}
use Rattle.content.specs.Content.{content_of}
use Rattle.content.specs.Bytes.{bytes_of}
use Rattle.content.specs.Adding.{added}
use Rattle.build.specs.Rules.{strain_rules}
use Rattle.build.specs.Calls.{add_of}
use Rattle.build.proofs.Calls.{add_checked}
use Rattle.claims.specs.Growing.{then_add}

-- an image is accepted, a strain passes all rules on it but that on room, and with it the image is `next`, which is n bytes longer
pub record Welcomed (image : List ℕ) (s : Strain) (n : ℕ) (next : List ℕ) : Type 0 where
  pub checked : check_of image ≡ accepted
  pub passes : (room : ℕ) → judge (strain_rules image s.code s.profile room) ≡ judge (rule 16 (when (ltb room (length next))) ∷ [])
  pub bytes : bytes_of (added (content_of image) s) ≡ next
  pub longer : length image + n ≡ length next

-- each of these strains in turn
pub data Additions : List ℕ → List Strain → List ℕ → Type 0 where
  end : {image : List ℕ} → Additions image [] image
  add : {image next last : List ℕ} {s : Strain} {ss : List Strain} {n : ℕ} → Welcomed image s n next → Additions next ss last → Additions image (s ∷ ss) last

module _ {image next : List ℕ} {s : Strain} {n : ℕ} (w : Welcomed image s n next) where
  pub add_at : (rest : List ℕ) → length next ≤ length (image ++ rest)
      → add_of (image ++ rest) (length image) s.code s.profile ≡ outcome accepted next (image ++ rest)
  unfolding add_of
  add_at rest room =
      let front = take-append_seam image rest in
      let enough : length image ≤ length (image ++ rest) = omega (arith, length-append image rest) in
      let good : judge (rule 16 (when (ltb (length (image ++ rest)) (length next))) ∷ []) ≡ accepted = sym (pass _ _ _ _ (le-ltb _ _ room) accepted_none) in
      rw (
        add_checked (image ++ rest) (length image) s.code s.profile enough (rw front (sym w.checked)),
        front,
        w.passes (length (image ++ rest)),
        good,
        w.bytes,
      ) refl

  -- what stands behind the longer image stood there before
  behind : (buffer : List ℕ) → drop (length next) (image ++ drop (length image) buffer) ≡ drop (length next) buffer
  behind buffer = rw (← w.longer) (drop-append-add image (drop (length image) buffer) n ∙ drop-drop n (length image) buffer)

  same_length : (buffer : List ℕ) → length next ≤ length buffer → length (image ++ drop (length image) buffer) ≡ length buffer
  same_length buffer h = omega (arith, w.longer, length-append image (drop (length image) buffer), length-drop (length image) buffer)

  then_add_lem : (buffer : List ℕ) → length next ≤ length buffer → then_add (outcome accepted image buffer) s ≡ outcome accepted next buffer
  unfolding outcome
  then_add_lem buffer h =
      add_at (drop (length image) buffer) (rw (same_length buffer h) h) ∙ ap (λ b. record { answer = given (length next); buffer = next ++ b }) (behind buffer)

longer_last : {image last : List ℕ} {ss : List Strain} → Additions image ss last → length image ≤ length last
longer_last end = omega arith
longer_last (add w c) = omega (arith, longer_last c, w.longer)

-- so they are added, one after the other
pub adds : {image last : List ℕ} {ss : List Strain} → Additions image ss last → (buffer : List ℕ) → length last ≤ length buffer
    → foldl then_add (outcome accepted image buffer) ss ≡ outcome accepted last buffer
adds end buffer h = refl
adds (add {ss = ss} w c) buffer h =
    ap (λ o. foldl then_add o ss) (then_add_lem w buffer (omega (arith, longer_last c))) ∙ adds c buffer h
