-- After l turns, each of the first l links has its flow within the LTA share of its capacity; these flows are
-- subtracted where they enter and added where they leave.
use Rattle.std.proofs.Common.{◌≡◌}
use Rattle.std.proofs.Math.Option.{none}
use Rattle.rules.specs.Meaning.Hour.{case_of, plan_of, link_use, link_room}
use Rattle.base_causes.specs.Meaning.Causes.{first_below}
use Rattle.rules.specs.Meaning.Verdict.{◌over◌}
use Rattle.base_measures.specs.Meaning.TenthsHold.{TenthsHold}
use Rattle.judge_clearing.specs.Steps.Parts.{partly}
use Rattle.judge_clearing.proofs.link_sums.Given as goal

abbrev pub invariant-loop-l : goal.invariant-loop-l
invariant-loop-l l = record {
  within : first_below l.l (λ j. link_use (case_of l.filled.hour.case.bytes.now) (plan_of l.filled.hour.case.bytes.now l.filled.hour.proposal.now) j over link_room (case_of l.filled.hour.case.bytes.now) (plan_of l.filled.hour.case.bytes.now l.filled.hour.proposal.now) j) ≡ none;
  parts : TenthsHold (partly (case_of l.filled.hour.case.bytes.now) (plan_of l.filled.hour.case.bytes.now l.filled.hour.proposal.now) l.l l.l) l.parts;
}
