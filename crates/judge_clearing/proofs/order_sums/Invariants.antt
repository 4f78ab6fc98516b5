-- After i turns, no volume so far is above its quantity, and the net positions and the welfare are those of the
-- first i orders.
use Rattle.std.proofs.Common.{◌≡◌}
use Rattle.std.proofs.Math.Option.{none}
use Rattle.std.proofs.Math.IntN.{pos, ◌*ℤ◌}
use Rattle.base_integers.specs.Meaning.Sums.{sum_to}
use Rattle.base_limits.specs.Meaning.Limits.{parts_in_one}
use Rattle.rules.specs.Meaning.Hour.{case_of, plan_of, order_net, order_welfare}
use Rattle.base_causes.specs.Meaning.Causes.{first_below}
use Rattle.rules.specs.Meaning.Verdict.{◌over◌}
use Rattle.base_measures.specs.Meaning.TenthsHold.{TenthsHold}
use Rattle.judge_clearing.specs.Steps.TenthsHold.{keyed}
use Rattle.judge_clearing.proofs.order_sums.Given as goal

abbrev pub invariant-loop-i : goal.invariant-loop-i
invariant-loop-i l = record {
  within : first_below l.i (λ j. (plan_of l.hour.case.bytes.now l.hour.proposal.now).volume j over (case_of l.hour.case.bytes.now).quantity j) ≡ none;
  nets : TenthsHold (keyed (case_of l.hour.case.bytes.now).zone (order_net (case_of l.hour.case.bytes.now) (plan_of l.hour.case.bytes.now l.hour.proposal.now)) l.i) l.nets;
  welfare : l.welfare.0 ≡ sum_to l.i (λ j. pos parts_in_one *ℤ order_welfare (case_of l.hour.case.bytes.now) (plan_of l.hour.case.bytes.now l.hour.proposal.now) j);
}
