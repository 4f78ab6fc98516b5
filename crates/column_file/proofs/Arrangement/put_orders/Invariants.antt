-- `Arrangement::put_orders`: the first i rows are stored.
use Rattle.std.proofs.Common.{◌≡◌, ◌*◌}
use Rattle.std.proofs.lemmas.List.Edits.{sets}
use Rattle.column_file.specs.Steps.Stored.{orders}
use Rattle.column_file.proofs.Arrangement.put_orders.Given as goal

abbrev pub invariant-loop-i : goal.invariant-loop-i
invariant-loop-i l = l.out ≡ sets l.fn.out l.self.start (orders l.self.start l.self.rows l.self.columns (l.i * l.self.columns) l.source)
