-- The loop's invariant: the sum is over the first `zone` positions.
use Rattle.std.proofs.Common.{◌≡◌}
use Rattle.base_integers.specs.Meaning.Sums.{sum_to}
use Rattle.flow_positions.specs.Meaning.Positions.{position_at}
use Rattle.flow_positions.proofs.position_sum.Given as goal

abbrev pub invariant-loop-zone : goal.invariant-loop-zone
invariant-loop-zone l = l.sum.0 ≡ sum_to l.zone (position_at l.net_exports)
