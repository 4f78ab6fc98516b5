-- The loop's invariant: the flow carries the total, and the scratch past it is unchanged. The measure is all exports
-- less the total.
use Rattle.std.proofs.Common.{◌-◌}
use Rattle.flow_network.specs.Meaning.Network.{all_exports}
use Rattle.flow_pairs.specs.Meaning.Pairs.{network_of}
use Rattle.flow_scratch.specs.Meaning.Places.{flow_of}
use Rattle.flow_scratch.specs.Steps.Scratch.{Rest}
use Rattle.flow_augment.specs.Steps.Lacking.{State}
use Rattle.flow_max.proofs.fill.Given as goal

abbrev pub invariant-loop-t : goal.invariant-loop-t
invariant-loop-t l = State (network_of l.exchanges.net_exports.now l.exchanges.prices.now l.exchanges.pairs.now) (flow_of l.s) l.total × Rest l.fn.s l.s

abbrev pub decreases-loop-t : goal.decreases-loop-t
decreases-loop-t l = all_exports (network_of l.exchanges.net_exports.now l.exchanges.prices.now l.exchanges.pairs.now) - l.total
