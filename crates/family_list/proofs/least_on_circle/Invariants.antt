-- `least` is the least of the orders passed in `steps` steps around the circle. The measure is the orders left,
-- since no circle has more steps than there are orders.
use Rattle.std.proofs.Common.{◌-◌}
use Rattle.rules.specs.Meaning.Families.{parent_of}
use Rattle.family_list.specs.Steps.Round.{Round}
use Rattle.family_list.proofs.least_on_circle.Given as goal

abbrev pub invariant-loop-at : goal.invariant-loop-at
invariant-loop-at l = Round (parent_of l.families.list.now) l.families.orders l.tip l.steps l.at l.least

abbrev pub decreases-loop-at : goal.decreases-loop-at
decreases-loop-at l = l.families.orders - l.steps
