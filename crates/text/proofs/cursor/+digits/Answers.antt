use native.Mathlib.Omega.{arith}
use Prim.Native.Nat.{◌/◌}
use Rattle.text.proofs.Decimals.{decimal_most, long_one, long_two, long_three, long_of_four, long_four}
use Rattle.text.proofs.cursor.+digits.Goals as goal

pub overflow_add-result : goal.overflow_add-result
overflow_add-result t c = omega (arith, decimal_most (c.args.n / 10000), c.digits.ensures)

pub returns-then-n-lt10 : goal.returns-then-n-lt10
returns-then-n-lt10 t c = long_one c.args.n (omega arith) (omega arith)

pub returns-then-n-lt100 : goal.returns-then-n-lt100
returns-then-n-lt100 t c = long_two c.args.n (omega arith) (omega arith) (omega arith)

pub returns-then-n-lt1000 : goal.returns-then-n-lt1000
returns-then-n-lt1000 t c = long_three c.args.n (omega arith) (omega arith) (omega arith)

pub returns-then-n-lt10000 : goal.returns-then-n-lt10000
returns-then-n-lt10000 t c = long_of_four c.args.n (omega arith) (omega arith) (omega arith)

pub returns-else-n-lt10000 : goal.returns-else-n-lt10000
returns-else-n-lt10000 t c = omega (arith, c.digits.ensures, long_four c.args.n (omega arith) (omega arith))
