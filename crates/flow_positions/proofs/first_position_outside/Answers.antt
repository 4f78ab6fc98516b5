-- `flow_positions::first_position_outside` meets its contract: a search for the first place. Assumes nothing.
use Rattle.std.proofs.Common.{sym, refl}
use Rattle.base_causes.specs.Meaning.Causes.{first_below}
use Rattle.base_causes.proofs.Promised.CauseLaws.{first-here, first-later}
use Rattle.flow_positions.proofs.first_position_outside.Goals as goal

pub loop-zone-init : goal.loop-zone-init
unfolding first_below
loop-zone-init c = refl

pub returns-then-position_outside : goal.returns-then-position_outside
returns-then-position_outside c = sym (first-here _ c.loop-zone.zone c.loop-zone-test.true c.loop-zone.invariant (sym c.if-position_outside.ensures))

pub loop-zone-preserved : goal.loop-zone-preserved
loop-zone-preserved c = first-later _ c.loop-zone.zone c.loop-zone.invariant (sym c.if-position_outside.ensures)
