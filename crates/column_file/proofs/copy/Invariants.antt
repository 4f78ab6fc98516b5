-- `column_file::copy`: the first j bytes are stored.
use Rattle.std.proofs.Common.{◌≡◌}
use Rattle.std.proofs.lemmas.List.Edits.{sets}
use Rattle.column_file.specs.Steps.Stored.{every}
use Rattle.column_file.proofs.copy.Given as goal

abbrev pub invariant-loop-j : goal.invariant-loop-j
invariant-loop-j l = l.out ≡ sets l.fn.out l.at (every l.at 1 l.j l.source)
