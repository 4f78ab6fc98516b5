-- The cursor stands at the order of this turn, and no order before it has a field at fault.
use Rattle.std.proofs.Common.{◌≡◌}
use Rattle.std.proofs.Math.Option.{none}
use Rattle.rules.specs.Meaning.Layout.{order_at}
use Rattle.base_causes.specs.Meaning.Causes.{first_below}
use Rattle.case_header.specs.Meaning.CaseReadable.{order_cause}
use Rattle.case_orders.proofs.walk_orders.Given as goal

abbrev pub invariant-loop : goal.invariant-loop
invariant-loop l = (l.cursor.at ≡ order_at l.case.bytes.now l.counter) × (first_below l.counter (order_cause l.case.bytes.now).fails ≡ none)
