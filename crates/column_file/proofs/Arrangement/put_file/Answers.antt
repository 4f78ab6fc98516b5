-- `Arrangement::put_file` meets its contract: the mark, the bytes up to the orders and the orders, stored one after
-- the other. Assumes nothing.
use Rattle.std.proofs.Common.{List, ℕ, ◌*◌, ap, ◌∙◌}
use Rattle.std.proofs.lemmas.List.Edits.{sets}
use Rattle.column_file.specs.Steps.Stored.{orders}
use Rattle.column_file.proofs.Steps.Stored.{file-run}
use Rattle.column_file.proofs.Arrangement.put_file.Goals as goal

pub returns : goal.returns
returns c =
    let t = c.args.self in
    let s = c.args.source.now in
    let out = c.args.out.now in
    c.put_orders.ensures
    ∙ ap (λ (l : List ℕ). sets l t.start (orders t.start t.rows t.columns (t.rows * t.columns) s)) c.copy.ensures
    ∙ file-run t.letter t.start t.rows t.columns s c.requires.le_start c.requires.columns_value out c.requires.source_in_bounds
