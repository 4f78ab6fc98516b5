-- `sheet_lines::read_line`: the first j fields are numbers, their faults are known, and they stand in the table.
use Rattle.sheet_lines.proofs.Steps.Walks.{LineSoFar}
use Rattle.sheet_lines.proofs.read_line.Given as goal

abbrev pub invariant-loop-j : goal.invariant-loop-j
invariant-loop-j l = LineSoFar l.zones l.sheet l.fn.start.at l.base l.fn.table l.cursor.at l.table l.finer l.outside l.j
