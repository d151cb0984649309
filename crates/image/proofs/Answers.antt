-- A refusal is told by its number and its place, so a contract that gives both leaves one answer. Assumes nothing.
use mathlib.Core.Path.{◌≡◌, refl, sym, ◌∙◌, ap, ap₂}
use mathlib.Core.Bool.{cond}
use mathlib.Core.List.{List}
use Prim.Native.Nat.{ℕ}
use native.Mathlib.Omega.{arith}
use lib.Dec.{eqb}
use Rattle.image.specs.declared.refusal.Place.{Place}
use Rattle.image.specs.declared.refusal.Refusal.{Refusal}
use Rattle.image.specs.declared.refusal.Refusal.TheVariants.{Size, Edition, Wells, Metric, Count, Offsets, Length, RootNumber, Node, EqualCodes, Level, Cover, Separation, Plate, Neighbours, Room, NewProfile, NewCode, Held, Full}
use Rattle.image.specs.Refusals.{number_of, place_of}
use Rattle.image.specs.Answer.{Answered, given, Outcome, answer_of, handed}
use Rattle.std.specs.Prelude.{Result, Ok, Err}

-- the case of a number and a place
abbrev case_of : ℕ → Place → Refusal
case_of n p =
    cond (eqb n 1) (Size p)
    (cond (eqb n 2) (Edition p)
    (cond (eqb n 3) (Wells p)
    (cond (eqb n 4) (Metric p)
    (cond (eqb n 5) (Count p)
    (cond (eqb n 6) (Offsets p)
    (cond (eqb n 7) (Length p)
    (cond (eqb n 8) (RootNumber p)
    (cond (eqb n 9) (Node p)
    (cond (eqb n 10) (EqualCodes p)
    (cond (eqb n 11) (Level p)
    (cond (eqb n 12) (Cover p)
    (cond (eqb n 13) (Separation p)
    (cond (eqb n 14) (Plate p)
    (cond (eqb n 15) (Neighbours p)
    (cond (eqb n 16) (Room p)
    (cond (eqb n 17) (NewProfile p)
    (cond (eqb n 18) (NewCode p)
    (cond (eqb n 19) (Held p) (Full p)))))))))))))))))))

told : (r : Refusal) → case_of (number_of r) (place_of r) ≡ r
told (Size p) = refl
told (Edition p) = refl
told (Wells p) = refl
told (Metric p) = refl
told (Count p) = refl
told (Offsets p) = refl
told (Length p) = refl
told (RootNumber p) = refl
told (Node p) = refl
told (EqualCodes p) = refl
told (Level p) = refl
told (Cover p) = refl
told (Separation p) = refl
told (Plate p) = refl
told (Neighbours p) = refl
told (Room p) = refl
told (NewProfile p) = refl
told (NewCode p) = refl
told (Held p) = refl
told (Full p) = refl

pub told_by : (r s : Refusal) → number_of r ≡ number_of s → place_of r ≡ place_of s → r ≡ s
told_by r s n p = sym (told r) ∙ ap₂ case_of n p ∙ told s

pub same_answer : {Told : Type 0} (r s : Result Told Refusal) → answer_of r ≡ answer_of s → r ≡ s
same_answer (Ok m) (Ok n) e = ap Ok (cc)
same_answer (Ok m) (Err s) e = let z : ◌≡◌ {A = ℕ} 0 1 = cc in absurd (omega arith)
same_answer (Err r) (Ok n) e = let z : ◌≡◌ {A = ℕ} 0 1 = cc in absurd (omega arith)
same_answer (Err r) (Err s) e = ap Err (told_by r s (cc) (cc))

-- an answer that tells something is no refusal
pub given_ok : {Told : Type 0} (r : Result Told Refusal) {x : Told} → answer_of r ≡ given x → r ≡ Ok x
given_ok (Ok y) e = ap Ok (cc)
given_ok (Err s) e = let z : ◌≡◌ {A = ℕ} 0 1 = cc in absurd (omega arith)

-- a contract that gives the outcome leaves one answer and one content of the slice
pub one_answer : (r s : Answered) (b c : List ℕ) (o : Outcome) → handed r b ≡ o → handed s c ≡ o → (r ≡ s) × (b ≡ c)
one_answer r s b c o p q = let e = p ∙ sym q in (same_answer r s (ap (λ x. x.answer) e), ap (λ x. x.buffer) e)
