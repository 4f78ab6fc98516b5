-- The cursor stands at the branch of this turn, and no branch before it has a field at fault.
use Rattle.std.proofs.Common.{◌≡◌}
use Rattle.std.proofs.Math.Option.{none}
use Rattle.rules.specs.Meaning.Layout.{branch_at}
use Rattle.base_causes.specs.Meaning.Causes.{first_below}
use Rattle.case_header.specs.Meaning.CaseReadable.{branch_cause}
use Rattle.case_branches.proofs.walk_branches.Given as goal

abbrev pub invariant-loop : goal.invariant-loop
invariant-loop l = (l.cursor.at ≡ branch_at l.case.bytes.now l.counter) × (first_below l.counter (branch_cause l.case.bytes.now).fails ≡ none)
