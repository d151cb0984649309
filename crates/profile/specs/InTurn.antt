-- What lets a loop join the wells' differences one after the other; both metrics' ways of joining have it. Assumes nothing.
use Rattle.std.specs.Prelude.{◌≡◌, ℕ, ◌+◌, ◌≤◌, max}
use Rattle.std.proofs.Common.{arith}

pub record InTurn (op : ℕ → ℕ → ℕ) : Type 0 where
  pub first : (n : ℕ) → op 0 n ≡ n
  pub last : (n : ℕ) → op n 0 ≡ n
  pub assoc : (a b c : ℕ) → op (op a b) c ≡ op a (op b c)
  pub within : (m n : ℕ) → op m n ≤ m + n

pub sum_in_turn : InTurn ◌+◌
sum_in_turn = record {
  first = λ n. omega arith;
  last = λ n. omega arith;
  assoc = λ a b c. omega arith;
  within = λ m n. omega arith;
}

pub max_in_turn : InTurn max
max_in_turn = record {
  first = λ n. omega arith;
  last = λ n. omega arith;
  assoc = λ a b c. omega arith;
  within = λ m n. omega arith;
}
