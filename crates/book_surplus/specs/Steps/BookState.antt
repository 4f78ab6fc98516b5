-- The state of a lent book, row by row: what `open_book`, `add_row` and `close_book` give, and when a row is read.
-- Closing.antt shows that the state closed where no more rows are read is the answer of document 01.
-- Assumes nothing.
use Rattle.std.specs.Prelude.{ℕ, ◌<◌}
use Rattle.base_integers.specs.Meaning.Ranges.{Within}
use Rattle.base_limits.specs.Meaning.Limits as limits
use Rattle.book_order.specs.declared.Order.{Order}

-- an order of a row that is in range, with `zones` prices
pub record OrderIn (zones : ℕ) (o : Order) : Type 0 where
  pub zone-in : o.zone < zones
  pub quantity-in : Within limits.quantity o.quantity.0
  pub price-in : Within limits.order_price o.price.0
