-- `Arrangement::put_row`: the first j bytes are stored.
use Rattle.std.proofs.Common.{◌≡◌, ◌+◌, ◌*◌}
use Rattle.std.proofs.lemmas.List.Edits.{sets}
use Rattle.column_file.specs.Steps.Stored.{every}
use Rattle.column_file.proofs.Arrangement.put_row.Given as goal

abbrev pub invariant-loop-j : goal.invariant-loop-j
invariant-loop-j l = l.out ≡ sets l.fn.out (l.self.start + l.i * l.self.columns) (every (l.self.start + l.i) l.self.rows l.j l.source)
