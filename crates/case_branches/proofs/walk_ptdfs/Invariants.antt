-- The cursor stands past one PTDF for each turn, and none of them is out of range.
use Rattle.std.proofs.Common.{◌≡◌, ◌+◌, ◌*◌}
use Rattle.std.proofs.Math.Option.{none}
use Rattle.base_causes.specs.Meaning.Causes.{first_below}
use Rattle.case_branches.specs.Steps.Branch.{ptdf_fault}
use Rattle.case_branches.proofs.walk_ptdfs.Given as goal

abbrev pub invariant-loop : goal.invariant-loop
invariant-loop l =
    (l.cursor.at ≡ l.fn.start.at + 4 * l.counter) × (first_below l.counter (ptdf_fault l.case l.fn.start.at) ≡ none)
