-- The orders before i had their turn. The measure is the orders left.
use Rattle.std.proofs.Common.{◌-◌}
use Rattle.family_list.specs.Steps.Parents.{Search}
use Rattle.family_list.proofs.first_on_circle.Given as goal

abbrev pub invariant-loop-i : goal.invariant-loop-i
invariant-loop-i l = Search l.families.list.now l.families.orders l.i l.first l.up

abbrev pub decreases-loop-i : goal.decreases-loop-i
decreases-loop-i l = l.families.orders - l.i
