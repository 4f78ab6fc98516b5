-- Order i of a case as a struct.
use Rattle.std.specs.Prelude.{List, ℕ, pos}
use Rattle.rules.specs.Meaning.Layout.{zone_in, side_in, quantity_in, price_in}
use Rattle.book_order.specs.Meaning.Answer as admitted
use Rattle.book_order.specs.declared.Order.{Order}

-- order i of the case s
abbrev pub order_of : List ℕ → ℕ → Order
order_of s i = admitted.order_of (zone_in s i) (side_in s i) (pos (quantity_in s i)) (price_in s i)
