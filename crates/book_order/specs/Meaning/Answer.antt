-- What admitting a row of an order book answers: the order, or that a field of it is at fault. Assumes nothing.
use Rattle.std.specs.Prelude.{Bool, ℕ, eqb, ℤ, pos, Option}
use Rattle.base_measures.specs.Meaning.Held.{held_by}
use Rattle.rules.specs.Meaning.Verdict.{bad_row}
use Rattle.book_order.specs.declared.Order.{Order}

-- side 0 buys
abbrev pub order_of : ℕ → ℕ → ℤ → ℤ → Order
order_of zone side quantity price = record { zone = zone; buys = eqb side 0; quantity = record { 0 = quantity }; price = record { 0 = price } }

abbrev pub order_by : Order → Bool → Option Order
order_by = held_by

-- with n zones
abbrev pub admitted : ℕ → ℕ → ℕ → ℕ → ℤ → Option Order
admitted n zone side quantity price = order_by (order_of zone side (pos quantity) price) (bad_row n zone side quantity price)
