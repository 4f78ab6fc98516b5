-- The loop of `Dump::convert_rest`: the cursor stands at the value of this turn, every value before it has its
-- field, and the table has those fields.
use Rattle.std.proofs.Common.{◌≡◌, ◌+◌, ◌*◌}
use Rattle.std.proofs.Math.Option.{none}
use Rattle.base_causes.specs.Meaning.Causes.{first_below}
use Rattle.dump_proposal.specs.Steps.Walks.{fault_after, TableHolds}
use Rattle.dump_proposal.proofs.finite.Dump.convert_rest.Given as goal

abbrev pub invariant-loop-i : goal.invariant-loop-i
invariant-loop-i l = record {
  at_value : l.cursor.at ≡ 8 * (2 + l.i);
  none_before : first_below l.i (fault_after l.self.«case».bytes.now l.self.bytes.now) ≡ none;
  holds : TableHolds l.self.«case».bytes.now l.self.bytes.now l.i l.table;
}
