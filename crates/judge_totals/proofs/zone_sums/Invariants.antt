-- Every zone so far has its price within the limits, and the sum is over these zones.
use Rattle.std.proofs.Common.{◌≡◌, ◌*ℤ◌}
use Rattle.std.proofs.Math.Option.{none}
use Rattle.base_integers.specs.Meaning.Ranges.{outside}
use Rattle.base_integers.specs.Meaning.Sums.{sum_to}
use Rattle.base_limits.specs.Meaning.Limits as limits
use Rattle.base_causes.specs.Meaning.Causes.{first_below}
use Rattle.base_measures.specs.Meaning.TenthsHold.{tenths_at}
use Rattle.report_file.specs.Meaning.Prices.{grains_at}
use Rattle.judge_totals.proofs.zone_sums.Given as goal

abbrev pub invariant-loop-z : goal.invariant-loop-z
invariant-loop-z l = record {
  within : first_below l.z (λ k. outside limits.zone_price (grains_at l.prices k)) ≡ none;
  rent : l.sum.0 ≡ sum_to l.z (λ k. tenths_at l.nets k *ℤ grains_at l.prices k);
}
