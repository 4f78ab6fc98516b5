-- `short_hour::put_orders`: the pairs of the orders so far are written.
use Rattle.std.proofs.Common.{◌≡◌}
use Rattle.std.proofs.lemmas.List.Edits.{sets}
use Rattle.short_single.specs.Meaning.OfHour.{order_of}
use Rattle.short_rules.specs.Meaning.Answer.{pairs_to}
use Rattle.short_hour.proofs.put_orders.Given as goal

abbrev pub invariant-loop-i : goal.invariant-loop-i
invariant-loop-i l = l.out ≡ sets l.fn.out 0 (pairs_to l.i (order_of l.hour))
