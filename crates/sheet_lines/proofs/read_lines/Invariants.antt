-- `sheet_lines::read_lines`: no line so far is malformed, the first line of each other cause so far is known, and the
-- lines so far stand in the table.
use Rattle.std.proofs.Common.{◌-◌, length}
use Rattle.sheet_lines.proofs.Steps.Walks.{SheetSoFar}
use Rattle.sheet_lines.proofs.read_lines.Given as goal

abbrev pub invariant-loop-cursor : goal.invariant-loop-cursor
invariant-loop-cursor l = SheetSoFar l.zones l.sheet l.fn.table l.cursor.at l.table l.finer l.outside l.n

abbrev pub decreases-loop-cursor : goal.decreases-loop-cursor
decreases-loop-cursor l = length l.sheet - l.cursor.at
