-- How a call judges what it is given: rules in an order, the first that applies refuses. Assumes nothing.
use Rattle.std.specs.Prelude.{Option, Some, None, Bool, cond, List, [], ◌∷◌, ℕ, ltb}
use Rattle.image.specs.declared.refusal.Place.{Place}
use Rattle.image.specs.First.{first_below, later_below}

-- what document 01 says of a call: accepted, or refused by a number at a place
pub data Verdict : Type 0 where
  accepted : Verdict
  refused : ℕ → Place → Verdict

-- a rule of the table: its number, and the place where it applies, if it does
pub data Rule : Type 0 where
  rule : ℕ → Option Place → Rule

-- a rule on the whole, on each record, on each pair of records
unfoldable pub when : Bool → Option Place
when b = cond b (Some Place.None) None

unfoldable pub at_first : ℕ → (ℕ → Bool) → Option Place
at_first n p = cond (ltb (first_below n p) n) (Some (Place.Record (first_below n p))) None

unfoldable pub at_pair : ℕ → (ℕ → ℕ → Bool) → Option Place
at_pair n p = cond (ltb (later_below n p) n) (Some (Place.Pair (first_below (later_below n p) (p (later_below n p))) (later_below n p))) None

unfoldable pub judge : List Rule → Verdict
judge [] = accepted
judge (rule number None ∷ rules) = judge rules
judge (rule number (Some place) ∷ rules) = refused number place
