-- The loop of `dump_proposal::write_rest`: the entries before this turn's are written.
use Rattle.std.proofs.Common.{◌≡◌}
use Rattle.std.proofs.Math.Seq.{sets}
use Rattle.dump_proposal.specs.Steps.Walks.{table_bytes}
use Rattle.dump_proposal.proofs.write_rest.Given as goal

abbrev pub invariant-loop-i : goal.invariant-loop-i
invariant-loop-i l = l.out ≡ sets l.initial.out 13 (table_bytes l.i l.table)
