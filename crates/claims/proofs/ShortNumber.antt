-- The short call's number by its table: it returns 0 or a refusal's number, and no line has the number 0. Assumes nothing.
use mathlib.Core.Path.{◌≡◌, refl, sym, ◌∙◌, ap, subst}
use mathlib.Core.Bool.{true}
use mathlib.Core.List.{List, [], ◌∷◌, ◌++◌}
use Prim.Native.Nat.{ℕ, ◌≤◌}
use native.Mathlib.Omega.{arith}
use lib.Dec.{leb}
use borrow.Author.Tests.{leb-true}
use Rattle.image.specs.declared.refusal.Place.{Place}
use Rattle.image.specs.Faults.{Line, line, FirstFault, here}
use Rattle.image.specs.Answer.{Answer, given, denied}
use Rattle.checker.specs.Table.{table}
use Rattle.short.specs.Short.{refusal_number}
use Rattle.short.specs.Table.{short_table}
use Rattle.claims.specs.Demand1.{AnswerBy, NumberBy}

-- no line has the number 0, which is what the short call returns where it does not refuse
pub data Numbers : List Line → Type 1 where
  end : Numbers []
  next : {m : ℕ} {Applies : Place → Type 0} {lines : List Line} → leb 1 m ≡ true → Numbers lines → Numbers (line m Applies ∷ lines)

numbers_append : {lines rest : List Line} → Numbers lines → Numbers rest → Numbers (lines ++ rest)
numbers_append end n = n
numbers_append (next h m) n = next h (numbers_append m n)

some_number : {lines : List Line} {m : ℕ} {p : Place} → Numbers lines → FirstFault lines m p → 1 ≤ m
some_number {m = m} {p = p} end x3 = elim x3 [ ]
some_number (next {m = m} h n) (here a) = leb-true 1 m h
some_number (next h n) (FirstFault.past f g) = some_number n g

check_numbers : (xs : List ℕ) → Numbers (table xs)
unfolding table
check_numbers xs =
    next refl (next refl (next refl (next refl (next refl (next refl (next refl
    (next refl (next refl (next refl (next refl (next refl (next refl end))))))))))))

pub short_numbers : (xs : List ℕ) (plate out : ℕ) → Numbers (short_table xs plate out)
unfolding short_table
short_numbers xs plate out = numbers_append (check_numbers xs) (next refl (next refl end))

-- an answer by a table, of which the number alone is told
pub number_by : {lines : List Line} {a : Answer ℕ} {Unchanged : Type 0} {number : ℕ} → Numbers lines → number ≡ refusal_number a → AnswerBy lines a Unchanged
    → NumberBy lines number Unchanged
number_by {a = given t} n e b = record {
  fault = λ ne. absurd (ne e);
  told = λ m p f. let z = (b.fault m p).1 f in let c : ◌≡◌ {A = ℕ} 0 1 = cc in absurd (omega arith);
  none = (λ z. b.none.0 (t, refl), λ z. e);
  unchanged = λ ne. absurd (ne e);
}
number_by {lines = lines} {a = denied k q} n e b = record {
  fault = λ ne. (q, subst (λ m. FirstFault lines m q) (sym e) ((b.fault k q).0 refl));
  told = λ m p f. let z = (b.fault m p).1 f in e ∙ ap refusal_number z;
  none = (λ z. absurd (omega (arith, e, some_number n ((b.fault k q).0 refl))), λ z. let w = (b.none.1 z).1 in let c : ◌≡◌ {A = ℕ} 0 1 = cc in absurd (omega arith));
  unchanged = λ ne. b.unchanged k q refl;
}
