-- `is_among`: the cell is among the cells if and only if it was found or is among those that are left.
-- Assumes nothing.
use Rattle.std.specs.Prelude.{◌≡◌, ◌||◌, drop}
use Rattle.queue_turns.specs.Meaning.Queue.{among}
use Rattle.queue_bytes.proofs.is_among.Given as goal

abbrev pub invariant-loop-cell : goal.invariant-loop-cell
invariant-loop-cell l = among l.c l.fn.cells ≡ (l.found || among l.c (drop l.cell-index l.fn.cells))
