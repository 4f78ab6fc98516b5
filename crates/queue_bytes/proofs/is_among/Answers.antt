-- `is_among`: the cell at the index is found, or the cell is among those after it. Assumes nothing.
use Rattle.std.specs.Prelude.{Bool, ◌||◌, ◌+◌, eqb, get_or, drop}
use Rattle.std.proofs.Common.{sym, ap, ◌∙◌, arith}
use Rattle.std.proofs.Math.Bool.{or_assoc, or-false}
use Rattle.queue_turns.specs.Meaning.Queue.{among}
use Rattle.queue_bytes.proofs.Steps.Cells.{among-on, among-end}
use Rattle.queue_bytes.proofs.is_among.Goals as goal

pub loop-cell-preserved : goal.loop-cell-preserved
loop-cell-preserved c =
    let cells = c.args.cells in
    let i = c.loop-cell.cell-index in
    c.loop-cell.invariant
    ∙ ap (λ (b : Bool). c.loop-cell.found || b) (among-on cells c.args.c i (omega arith))
    ∙ sym (or_assoc c.loop-cell.found (eqb (get_or cells i 0) c.args.c) (among c.args.c (drop (i + 1) cells)))

pub returns : goal.returns
returns c =
    sym (c.loop-cell.invariant ∙ ap (λ (b : Bool). c.loop-cell.found || b) (among-end c.args.cells c.args.c c.loop-cell.cell-index (omega arith)) ∙ or-false c.loop-cell.found)
