-- After m turns no branch so far is overloaded, each price has the first m branches added, and the total is over
-- them. After z turns of the inner loop the load is over the first z zones, and their prices also have branch m.
use Rattle.std.proofs.Common.{◌≡◌, get_or, []}
use Rattle.std.proofs.Math.Option.{none}
use Rattle.std.proofs.Math.IntN.{pos, ◌*ℤ◌}
use Rattle.base_integers.specs.Meaning.Sums.{sum_to}
use Rattle.base_limits.specs.Meaning.Limits.{parts_in_one}
use Rattle.rules.specs.Meaning.Hour.{case_of, plan_of, prices_of, fb_part, branch_use, branch_room, branch_value}
use Rattle.base_causes.specs.Meaning.Causes.{first_below}
use Rattle.rules.specs.Meaning.Verdict.{◌over_z◌}
use Rattle.judge_network.specs.Steps.Prices.{AddedTo, Partly}
use Rattle.judge_network.proofs.branch_sums.Given as goal

abbrev pub invariant-loop-z : goal.invariant-loop-z
invariant-loop-z l = record {
  load : l.load.0 ≡ sum_to l.z (λ j. (case_of l.filled.hour.case.bytes.now).ptdf l.m j *ℤ fb_part (case_of l.filled.hour.case.bytes.now) (plan_of l.filled.hour.case.bytes.now l.filled.hour.proposal.now) j);
  prices : AddedTo l.initial.prices l.prices (get_or l.table l.m []) l.shadow.0 l.z l.filled.hour.case.counts.zones;
}

abbrev pub invariant-loop-m : goal.invariant-loop-m
invariant-loop-m l = record {
  within : first_below l.m (λ j. branch_use (case_of l.filled.hour.case.bytes.now) (plan_of l.filled.hour.case.bytes.now l.filled.hour.proposal.now) j over_z branch_room (case_of l.filled.hour.case.bytes.now) (plan_of l.filled.hour.case.bytes.now l.filled.hour.proposal.now) j) ≡ none;
  prices : Partly (case_of l.filled.hour.case.bytes.now) (prices_of l.filled.hour.case.bytes.now l.filled.hour.proposal.now) l.m l.prices;
  total : l.total.0 ≡ sum_to l.m (λ j. pos parts_in_one *ℤ branch_value (case_of l.filled.hour.case.bytes.now) (prices_of l.filled.hour.case.bytes.now l.filled.hour.proposal.now) j);
}
