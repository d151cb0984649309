-- What stands at each place of the walk. Assumes nothing.
use mathlib.Core.Path.{◌≡◌, refl, sym, ap, ◌∙◌}
use mathlib.Core.List.{List, [], ◌∷◌, ◌++◌, append_assoc}
use Prim.Native.Nat.{ℕ, zero, suc, ◌+◌, ◌≤◌, ◌<◌}
use native.Mathlib.Nat.{zero-add, suc-add, add-zero}
use native.Mathlib.Numerals.{add-one}
use native.Mathlib.Omega.{arith}
use lib.ListN.{length, get_or, drop, length-append, length-drop}
use lib.Seq.{drop-cons}
use Rattle.walk.specs.Forest.{Forest, none, grow, nodes, ends, join, after, Under}

pub nodes_join : (forest rest : Forest) → nodes (join forest rest) ≡ nodes forest ++ nodes rest
unfolding nodes join
nodes_join none rest = refl
nodes_join (grow v below behind) rest =
    ap {B = List ℕ} (λ vs. v ∷ nodes below ++ vs) (nodes_join behind rest)
    ∙ ap {B = List ℕ} (λ vs. v ∷ vs) (sym (append_assoc (nodes below) (nodes behind) (nodes rest)))

pub nodes_after : (i : ℕ) (forest : Forest) → nodes (after i forest) ≡ drop i (nodes forest)
unfolding nodes after
nodes_after zero forest = refl
nodes_after (suc i) none = refl
nodes_after (suc i) (grow v below behind) = nodes_after i (join below behind) ∙ ap (drop i) (nodes_join below behind)

pub ends_length : (at : ℕ) (forest : Forest) → length (ends at forest) ≡ length (nodes forest)
unfolding nodes ends
ends_length at none = refl
ends_length at (grow v below behind) =
    let a = ends_length (suc at) below in
    let b = ends_length (suc at + length (nodes below)) behind in
    simp length-append (omega arith)

ends_join : (at : ℕ) (forest rest : Forest) → ends at (join forest rest) ≡ ends at forest ++ ends (at + length (nodes forest)) rest
unfolding nodes ends join
ends_join at none rest = rw add-zero
ends_join at (grow v below behind) rest =
    let n : length (nodes below ++ nodes behind) ≡ length (nodes below) + length (nodes behind) = length-append (nodes below) (nodes behind) in
    let e : suc at + length (nodes below) + length (nodes behind) ≡ at + suc (length (nodes below ++ nodes behind)) = omega arith in
    rw (ends_join (suc at + length (nodes below)) behind rest, e, append_assoc)

-- the places behind, once so many records were walked
ends_after : (at i : ℕ) (forest : Forest) → ends (at + i) (after i forest) ≡ drop i (ends at forest)
unfolding ends after
ends_after at zero forest = rw add-zero
ends_after at (suc i) none = refl
ends_after at (suc i) (grow v below behind) =
    let e : at + suc i ≡ suc at + i = omega arith in
    rw e (ends_after (suc at) i (join below behind) ∙ ap (drop i) (ends_join (suc at) below behind))

after_none : (i : ℕ) → after i none ≡ none
unfolding after
after_none zero = refl
after_none (suc i) = refl

after_add : (i j : ℕ) (forest : Forest) → after (i + j) forest ≡ after j (after i forest)
unfolding after
after_add zero j forest = rw zero-add
after_add (suc i) j none = simp after_none
after_add (suc i) j (grow v below behind) = rw suc-add (after_add i j (join below behind))

-- a whole forest walked, what was joined to it is left
after_join : (forest rest : Forest) → after (length (nodes forest)) (join forest rest) ≡ rest
unfolding nodes join after
after_join none rest = refl
after_join (grow v below behind) rest =
    rw (length-append (nodes below) (nodes behind), after_add (length (nodes below)), after_join below (join behind rest)) (after_join behind rest)

-- a record stands at place i: what hangs below it, what comes behind it, and the place behind its descendants
pub record Standing (forest : Forest) (i : ℕ) : Type 0 where
  pub below : Forest
  pub behind : Forest
  pub stands : after i forest ≡ grow (get_or (nodes forest) i 0) below behind
  pub stepped : after (suc i) forest ≡ join below behind
  pub skipped : after (get_or (ends 0 forest) i 0) forest ≡ behind
  pub onward : i < get_or (ends 0 forest) i 0
  pub fits : get_or (ends 0 forest) i 0 ≤ length (nodes forest)

-- what is left at place i begins with the record that stands there
left_at : (forest : Forest) (i : ℕ) → i < length (nodes forest) → (left : Forest) → after i forest ≡ left → Standing forest i
unfolding nodes ends after
left_at forest i h none e =
    let n : [] ≡ drop i (nodes forest) = ap nodes (sym e) ∙ nodes_after i forest in
    absurd (omega (arith, ap length n, length-drop i (nodes forest)))
left_at forest i h (grow v below behind) e =
    let m = length (nodes below) in
    let n : v ∷ nodes below ++ nodes behind ≡ drop i (nodes forest) = ap nodes (sym e) ∙ nodes_after i forest in
    let record_is : get_or (nodes forest) i 0 ≡ v = cc (drop-cons (nodes forest) i 0 h) in
    let ends_left : ends i (grow v below behind) ≡ drop i (ends 0 forest) = ap (ends i) (sym e) ∙ rw (zero-add i) at (ends_after 0 i forest) in
    let room : i < length (ends 0 forest) = omega (arith, ends_length 0 forest) in
    let end_is : get_or (ends 0 forest) i 0 ≡ suc i + m = cc (drop-cons (ends 0 forest) i 0 room) in
    let step : after (suc i) forest ≡ join below behind = rw (← add-one i, after_add i 1 forest, e) in
    let skip : after (suc i + m) forest ≡ behind = rw (after_add (suc i) m forest, step) (after_join below behind) in
    record {
      below = below;
      behind = behind;
      stands = rw record_is e;
      stepped = step;
      skipped = rw end_is skip;
      onward = omega arith;
      fits = omega (arith, ap length n, length-append (nodes below) (nodes behind), length-drop i (nodes forest));
    }

pub standing : (forest : Forest) (i : ℕ) → i < length (nodes forest) → Standing forest i
standing forest i h = left_at forest i h (after i forest) refl

pub under_join : {P : ℕ → ℕ → Type 0} {forest rest : Forest} → Under P forest → Under P rest → Under P (join forest rest)
unfolding join
under_join Under.empty r = r
under_join (Under.over below a b) r = Under.over below a (under_join b r)

pub under_after : {P : ℕ → ℕ → Type 0} (i : ℕ) {forest : Forest} → Under P forest → Under P (after i forest)
unfolding after
under_after zero u = u
under_after (suc i) Under.empty = Under.empty
under_after (suc i) (Under.over below a b) = under_after i (under_join a b)
