-- `sheet_numbers::read_whole`: the digits from i on give the same result as all.
use Rattle.sheet_numbers.proofs.Steps.Turns.{WholeSoFar}
use Rattle.sheet_numbers.proofs.read_whole.Given as goal

abbrev pub invariant-loop-i : goal.invariant-loop-i
invariant-loop-i l = WholeSoFar l.s l.at l.value l.i
