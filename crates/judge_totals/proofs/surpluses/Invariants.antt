-- After i turns the sum is over the first i orders.
use Rattle.std.proofs.Common.{◌≡◌}
use Rattle.base_integers.specs.Meaning.Sums.{sum_to}
use Rattle.rules.specs.Meaning.Hour.{case_of, prices_of, order_surplus}
use Rattle.judge_totals.proofs.surpluses.Given as goal

abbrev pub invariant-loop-i : goal.invariant-loop-i
invariant-loop-i l = l.sum.0 ≡ sum_to l.i (λ j. order_surplus (case_of l.priced.hour.case.bytes.now) (prices_of l.priced.hour.case.bytes.now l.priced.hour.proposal.now) j)
