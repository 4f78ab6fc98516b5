-- After z turns the sum is over the first z entries.
use Rattle.std.proofs.Common.{◌≡◌}
use Rattle.base_integers.specs.Meaning.Sums.{sum_to}
use Rattle.base_measures.specs.Meaning.TenthsHold.{tenths_at}
use Rattle.judge_clearing.proofs.net_sum.Given as goal

abbrev pub invariant-loop-z : goal.invariant-loop-z
invariant-loop-z l = l.sum.0 ≡ sum_to l.z (λ k. tenths_at l.nets k)
