use mathlib.Core.Path.{◌≡◌, ap, ◌∙◌}
use mathlib.Core.List.{List}
use Prim.Native.Nat.{ℕ, ◌+◌, ◌*◌, ◌<◌}
use native.Mathlib.Numerals.{add-one}
use native.Mathlib.Omega.{arith}
use borrow.Author.Count.{below_more}
use borrow.Author.Rules.{rules}
use lib.IntN.{ℤ, pos}
use lib.ListN.{length, get_or, take}
use lib.Seq.{sets, length-take-le, take_all}
use mir.Syntax.{w16}
use mir.Val.{SFits}
use mir.ValLaws.{to_z-of_z}
use Rattle.std.specs.Int.{cast_unsigned}
use Rattle.content.specs.Bytes.{bytes16, word_of, profile_bytes}
use Rattle.content.proofs.Bytes.{profile_length}
use Rattle.image.proofs.Runs.{sets_on}
use Rattle.writer.proofs.Wells.{profile_none, profile_more, word_is, wells_of_lem}
use Rattle.writer.proofs.record.put_profile.Goals as goal

-- one well more
turn : (l : List ℕ) (at : ℕ) (p : List ℤ) (i r : ℕ) {m n : List ℕ} → i < length p → m ≡ sets l at (profile_bytes (take i p))
    → r ≡ word_of (get_or p i (pos 0)) → n ≡ sets m (at + 2 * i) (bytes16 r) → n ≡ sets l at (profile_bytes (take (i + 1) p))
turn l at p i r h e w f =
    rw (add-one, profile_more p i h, ← w)
    (sets_on l at (profile_bytes (take i p)) (at + 2 * i) (bytes16 r) e (omega (arith, profile_length (take i p), length-take-le i p (omega arith))) f)

pub loop-i-init : goal.loop-i-init
loop-i-init c = record { written = rw profile_none; values = λ j h. absurd (omega arith) }

pub loop-i-preserved : goal.loop-i-preserved
loop-i-preserved c =
    let a = c.args in
    let l = c.loop-i in
    let z = get_or a.profile.now l.i (pos 0) in
    let fits : SFits w16 z = search rules in
    let word = c.cast_unsigned.ensures ∙ ap (cast_unsigned w16) (to_z-of_z w16 z fits) ∙ word_is z in
    record {
      written = turn a.image.now a.at a.profile.now l.i _ (omega arith) l.invariant.written word c.put_u16.ensures;
      values = below_more _ _ l.invariant.values fits;
    }

pub returns : goal.returns
returns c =
    let l = c.loop-i in
    record { exact = rw (take_all l.i c.args.profile.now (omega arith)) at l.invariant.written; values = wells_of_lem _ (λ j h. l.invariant.values j (omega arith)) }
