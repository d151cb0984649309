-- `cursor::digits` meets its contract: what is left of the number falls at each call. Assumes nothing.
use Rattle.text.proofs.cursor.+digits.Given as goal

abbrev pub decreases-digits : goal.decreases-digits
decreases-digits l = l.n
