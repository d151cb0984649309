-- A running list: how many ranks it was asked for, and those that it keeps. Assumes nothing.
use Rattle.std.specs.Prelude.{List, ℕ}

pub record Running : Type 0 where
  pub asked : ℕ
  pub kept : List ℕ
