-- The contract of print leaves one answer and one page. Assumes nothing.
use mathlib.Core.Path.{◌≡◌, sym, ◌∙◌, ap}
use mathlib.Core.List.{List, ◌++◌}
use Prim.Native.Nat.{ℕ}
use lib.ListN.{drop}
use Rattle.text.specs.Calls.{printed, PrintGives}

pub one_answer : (image page : List ℕ) {r s : ℕ} {page' page'' : List ℕ} → PrintGives image page r page' → PrintGives image page s page''
    → (r ≡ s) × (page' ≡ page'')
one_answer image page {r} {s} p q = let e : r ≡ s = p.0 ∙ sym q.0 in (e, p.1 ∙ ap (λ n. printed image ++ drop n page) e ∙ sym q.1)
