-- Codes and distances by turns, place by place. Assumes nothing.
use mathlib.Core.Path.{◌≡◌, refl, sym, ◌∙◌, ap, ap₂}
use mathlib.Core.List.{List, [], ◌∷◌, ◌++◌}
use Prim.Native.Nat.{ℕ, zero, suc, ◌+◌, ◌*◌, ◌≤◌, ◌<◌}
use native.Mathlib.Omega.{arith}
use lib.ListN.{length, take, get_or}
use lib.Seq.{sets, take_all, take-length}
use Rattle.content.specs.Bytes.{bytes32}
use Rattle.image.proofs.Runs.{sets_on}
use Rattle.short.specs.Short.{by_turns}

pub turns_length : (i : ℕ) (codes distances : List ℕ) → i ≤ length codes → i ≤ length distances → length (by_turns (take i codes) (take i distances)) ≡ 8 * i
unfolding by_turns
turns_length zero codes distances h l = refl
turns_length (suc i) [] distances h l = absurd (omega arith)
turns_length (suc i) (c ∷ codes) [] h l = absurd (omega arith)
turns_length (suc i) (c ∷ codes) (d ∷ distances) h l = omega (arith, turns_length i codes distances (omega arith) (omega arith))

pub turns_all : (codes distances : List ℕ) → length distances ≡ length codes → length (by_turns codes distances) ≡ 8 * length codes
turns_all codes distances m =
    let n = length codes in
    ap₂ (λ p q. length (by_turns p q)) (sym (take-length codes)) (sym (take_all n distances (omega (arith, m))))
    ∙ turns_length n codes distances (omega arith) (omega (arith, m))

pub turns_more : (i : ℕ) (codes distances : List ℕ) → i < length codes → i < length distances
    → by_turns (take (suc i) codes) (take (suc i) distances) ≡ by_turns (take i codes) (take i distances) ++ (bytes32 (get_or codes i 0) ++ bytes32 (get_or distances i 0))
unfolding by_turns
turns_more i [] distances h l = absurd (omega arith)
turns_more i (c ∷ codes) [] h l = absurd (omega arith)
turns_more zero (c ∷ codes) (d ∷ distances) h l = refl
turns_more (suc i) (c ∷ codes) (d ∷ distances) h l = ap (λ zs. bytes32 c ++ bytes32 d ++ zs) (turns_more i codes distances (omega arith) (omega arith))

-- a place more
pub turns_put : (out codes distances : List ℕ) (i : ℕ) {a b e : List ℕ} → length distances ≡ length codes → i < length codes
    → a ≡ sets out 0 (by_turns (take i codes) (take i distances))
    → b ≡ sets a (8 * i) (bytes32 (get_or codes i 0))
    → e ≡ sets b (8 * i + 4) (bytes32 (get_or distances i 0))
    → e ≡ sets out 0 (by_turns (take (i + 1) codes) (take (i + 1) distances))
turns_put out codes distances i {a} m h p q r =
    let behind : 8 * i ≡ 0 + length (by_turns (take i codes) (take i distances)) = omega (arith, turns_length i codes distances (omega arith) (omega arith)) in
    let next : suc i ≡ i + 1 = omega arith in
    sets_on out 0 (by_turns (take i codes) (take i distances)) (8 * i) (bytes32 (get_or codes i 0) ++ bytes32 (get_or distances i 0)) p behind
    (sets_on a (8 * i) (bytes32 (get_or codes i 0)) (8 * i + 4) (bytes32 (get_or distances i 0)) q refl r)
    ∙ sym (ap (sets out 0) (turns_more i codes distances h (omega arith)))
    ∙ ap (λ (k : ℕ). sets out 0 (by_turns (take k codes) (take k distances))) next
