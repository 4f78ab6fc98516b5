-- `Arrangement::put_orders` meets its contract: no row yet, and one row more. Assumes nothing.
use Rattle.std.proofs.Common.{◌+◌, ◌*◌, ◌∙◌}
use Rattle.std.proofs.lemmas.List.Edits.{sets}
use Rattle.column_file.specs.Steps.Stored.{every}
use Rattle.column_file.proofs.Steps.Stored.{no_row, next_row}
use Rattle.column_file.proofs.Arrangement.put_orders.Goals as goal

pub loop-i-init : goal.loop-i-init
loop-i-init c = let a = c.args in no_row a.out.now a.source.now a.self.start a.self.rows a.self.columns

pub loop-i-preserved : goal.loop-i-preserved
loop-i-preserved c =
    let a = c.args in
    let t = a.self in
    let l = c.loop-i in
    c.put_row.ensures
    ∙ (λ j. sets (l.invariant j) (t.start + l.i * t.columns) (every (t.start + l.i) t.rows t.columns a.source.now))
    ∙ next_row a.out.now a.source.now t.start t.rows t.columns l.i
