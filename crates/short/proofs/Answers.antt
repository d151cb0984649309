-- The contract of the short call leaves one number and one content of what was lent. Assumes nothing.
use mathlib.Core.Path.{◌≡◌, sym, ◌∙◌}
use mathlib.Core.List.{List}
use Prim.Native.Nat.{ℕ}
use Rattle.short.specs.Short.{ShortGives}

pub one_answer : (image plate out : List ℕ) {r s : ℕ} {out' out'' : List ℕ} → ShortGives image plate out r out' → ShortGives image plate out s out''
    → (r ≡ s) × (out' ≡ out'')
one_answer image plate out p q = (p.is_number ∙ sym q.is_number, p.is_out ∙ sym q.is_out)
