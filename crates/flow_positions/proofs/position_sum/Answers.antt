-- `flow_positions::position_sum` meets its contract: up to 16 positions within their limits have a sum of 64 bits.
-- Assumes nothing.
use Rattle.std.proofs.Common.{refl, length, arith, mul-le-mul_right}
use Rattle.base_integers.specs.Meaning.Machine.{SumsFit}
use Rattle.base_integers.specs.Meaning.Sums.{sum_to}
use Rattle.base_integers.specs.Steps.Machine.{small-sums, step, step_fits}
use Rattle.base_integers.specs.Steps.Ranges.{within, is_false}
use Rattle.base_integers.specs.Steps.Size.{near_within}
use Rattle.base_limits.specs.Meaning.Limits as limits
use Rattle.flow_positions.specs.Meaning.Positions.{position_at}
use Rattle.flow_positions.proofs.position_sum.Goals as goal
use Rattle.flow_positions.proofs.position_sum.Goals.{Start}

fit : (c : Start) → SumsFit (position_at c.args.net_exports.now) (length c.args.net_exports.now)
fit c = small-sums (position_at c.args.net_exports.now) 51200000 (length c.args.net_exports.now)
    (λ z h. near_within 51200000 limits.net_position (position_at c.args.net_exports.now z) (omega arith) (omega arith) (within limits.net_position _ (is_false (c.requires.1 z h))))
    (omega (arith, mul-le-mul_right 51200000 c.requires.0))

pub loop-zone-init : goal.loop-zone-init
unfolding sum_to
loop-zone-init c = refl

pub plus-sum-requires : goal.plus-sum-requires
plus-sum-requires c = step_fits (fit (goal.at.plus-sum-requires c).Start) c.loop-zone.zone c.loop-zone-test.true c.loop-zone.invariant c.position_held.ensures

pub loop-zone-preserved : goal.loop-zone-preserved
loop-zone-preserved c =
    step (fit (goal.at.loop-zone-preserved c).Start) c.loop-zone.zone c.loop-zone.invariant c.position_held.ensures c.plus-sum.ensures
