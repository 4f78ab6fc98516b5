-- `sheet_numbers::read_decimals`: the digits from i on give the same result as all, and the size fits.
use Rattle.sheet_numbers.proofs.Steps.Turns.{DecimalsSoFar}
use Rattle.sheet_numbers.proofs.read_decimals.Given as goal

abbrev pub invariant-loop-i : goal.invariant-loop-i
invariant-loop-i l = DecimalsSoFar l.s l.at l.x l.k l.value l.left l.finer l.i
