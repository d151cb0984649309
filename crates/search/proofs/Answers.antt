-- The contracts of the sitting and of the search within a radius leave one answer and one content of each slice. Assumes nothing.
use mathlib.Core.Path.{◌≡◌, sym, ◌∙◌, ap}
use mathlib.Core.List.{List}
use Prim.Native.Nat.{ℕ}
use lib.IntN.{ℤ}
use Rattle.image.proofs.Answers.{same_answer}
use Rattle.search.specs.Answer.{Served, Gathered}
use Rattle.search.specs.Calls.{SittingGives, WithinGives}

-- what the contract of the sitting leaves open: nothing
pub one_answer : (image : List ℕ) (plates : List ℤ) (k : ℕ) (codes distances : List ℕ) {r s : Served} {codes' codes'' distances' distances'' : List ℕ}
    → SittingGives image plates k codes distances r codes' distances' → SittingGives image plates k codes distances s codes'' distances''
    → (r ≡ s) × (codes' ≡ codes'') × (distances' ≡ distances'')
one_answer image plates k codes distances {r} {s} p q =
    let e = p ∙ sym q in (same_answer r s (ap (λ o. o.answer) e), ap (λ o. o.codes) e, ap (λ o. o.distances) e)

-- and that of the search within a radius
pub one_answer_within : (image : List ℕ) (plate : List ℤ) (radius : ℕ) (codes distances : List ℕ) {r s : Gathered} {codes' codes'' distances' distances'' : List ℕ}
    → WithinGives image plate radius codes distances r codes' distances' → WithinGives image plate radius codes distances s codes'' distances''
    → (r ≡ s) × (codes' ≡ codes'') × (distances' ≡ distances'')
one_answer_within image plate radius codes distances {r} {s} p q =
    let e = p ∙ sym q in (same_answer r s (ap (λ o. o.answer) e), ap (λ o. o.codes) e, ap (λ o. o.distances) e)
