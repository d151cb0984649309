-- What the rules that were passed promise. Assumes nothing.
use mathlib.Core.Path.{◌≡◌, refl, sym, ◌∙◌}
use Rattle.std.specs.Prelude.{Option, None}
use Rattle.image.specs.declared.refusal.Place.{Place}
use Rattle.image.specs.Verdict.{at_first}
use Rattle.image.proofs.Verdicts.{first_passed}
use mathlib.Core.Bool.{Bool, true, false, ◌||◌, true≢false}
use mathlib.Core.List.{List}
use mathlib.Core.Logic.{◌≢◌}
use Prim.Native.Nat.{ℕ, ◌≤◌, ◌<◌}
use native.Mathlib.Omega.{arith}
use Rattle.profile.specs.Metric.{metric_number}
use Rattle.profile.specs.declared.metric.Metric.{Metric}
use Rattle.profile.specs.declared.metric.Metric.TheVariants.{CityBlock, Largest}
use Rattle.std.proofs.lemmas.Bool.Decides.{nat_tests}
use Rattle.image.specs.Fields.{count_of, code_at, parent_at, level_byte_at, spare_at}
use Rattle.checker.specs.Tests.{outside, bad_node}

pub or_false : (a b : Bool) → (a || b) ≡ false → (a ≡ false) × (b ≡ false)
or_false true b e = absurd (true≢false e)
or_false false b e = (refl, e)

-- a number that is not outside is inside
pub inside : (lo hi x : ℕ) → outside lo hi x ≡ false → (lo ≤ x) × (x ≤ hi)
inside lo hi x e = (grind (arith, nat_tests), grind (arith, nat_tests))

-- past rule 9
pub record GoodNode (xs : List ℕ) (i : ℕ) : Type 0 where
  pub code : code_at xs i ≢ 0
  pub parent : parent_at xs i < count_of xs
  pub level : level_byte_at xs i ≤ 21
  pub spare : spare_at xs i ≡ 0

pub good_node : (xs : List ℕ) (i : ℕ) → bad_node xs i ≡ false → GoodNode xs i
unfolding bad_node
good_node xs i e =
    record {
      code = grind (arith, nat_tests);
      parent = grind (arith, nat_tests);
      level = grind (arith, nat_tests);
      spare = grind (arith, nat_tests);
    }

-- what rule 9 promises of each record
module _
    (xs : List ℕ) (count : ℕ) (place : Option Place)
    (is : place ≡ at_first (count_of xs) (bad_node xs)) (none : place ≡ None) (s : count ≡ count_of xs) where
  good : (i : ℕ) → i < count → GoodNode xs i
  good i h = good_node xs i (first_passed (count_of xs) (bad_node xs) (sym is ∙ none) i (rw (← s) h))

  pub parents_in : (i : ℕ) → i < count → parent_at xs i < count
  parents_in i h = rw s (good i h).parent

  pub levels_in : (i : ℕ) → i < count → level_byte_at xs i ≤ 21
  levels_in i h = (good i h).level

pub ruleset nodes = (parents_in, levels_in)

-- a number is a metric's exactly where it is in its range
pub named : {n : ℕ} (m : Metric) → metric_number m ≡ n → outside 1 2 n ≡ false
named CityBlock e = rw (← e) refl
named Largest e = rw (← e) refl

pub nameless : {n k : ℕ} → n ≡ k → n ≢ 1 → n ≢ 2 → outside 1 2 k ≡ true
nameless is one two = grind (arith, nat_tests)

pub ruleset numbers = (named, nameless)
