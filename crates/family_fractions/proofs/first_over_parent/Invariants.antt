-- No child before i has a fraction above its parent's.
use Rattle.std.proofs.Common.{◌≡◌}
use Rattle.std.proofs.Math.Option.{none}
use Rattle.rules.specs.Meaning.Hour.{case_of, plan_of}
use Rattle.rules.specs.Meaning.Families.{parent_of}
use Rattle.rules.specs.Meaning.Verdict.{exceeds_parent}
use Rattle.base_causes.specs.Meaning.Causes.{first_below}
use Rattle.family_fractions.proofs.first_over_parent.Given as goal

abbrev pub invariant-loop-i : goal.invariant-loop-i
invariant-loop-i l = first_below l.i (λ i. exceeds_parent (case_of l.listed.filled.hour.case.bytes.now) (plan_of l.listed.filled.hour.case.bytes.now l.listed.filled.hour.proposal.now) i (parent_of l.listed.families.list.now i)) ≡ none
