-- After l turns each sum is over the first l links.
use Rattle.std.proofs.Common.{◌≡◌}
use Rattle.base_integers.specs.Meaning.Sums.{sum_to}
use Rattle.rules.specs.Meaning.Hour.{case_of, prices_of, link_value, link_owed}
use Rattle.judge_totals.proofs.link_totals.Given as goal

abbrev pub invariant-loop-l : goal.invariant-loop-l
invariant-loop-l l = record {
  total : l.total.0 ≡ sum_to l.l (λ j. link_value (case_of l.priced.hour.case.bytes.now) (prices_of l.priced.hour.case.bytes.now l.priced.hour.proposal.now) j);
  owed : l.owed.0 ≡ sum_to l.l (λ j. link_owed (case_of l.priced.hour.case.bytes.now) (prices_of l.priced.hour.case.bytes.now l.priced.hour.proposal.now) j);
}
