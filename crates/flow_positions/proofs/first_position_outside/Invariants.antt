-- The loop's invariant: no position before `zone` is out of range.
use Rattle.std.proofs.Common.{◌≡◌}
use Rattle.std.proofs.Math.Option.{none}
use Rattle.base_causes.specs.Meaning.Causes.{first_below}
use Rattle.flow_positions.specs.Meaning.Positions.{position_outside}
use Rattle.flow_positions.proofs.first_position_outside.Given as goal

abbrev pub invariant-loop-zone : goal.invariant-loop-zone
invariant-loop-zone l = first_below l.zone (position_outside l.net_exports) ≡ none
