-- Rule 8 for one order, held by value.
use Rattle.std.specs.Prelude.{ℤ, ◌*ℤ◌}
use Rattle.base_integers.specs.Meaning.Order.{positive}
use Rattle.base_limits.specs.Meaning.Limits.{grains_of}
use Rattle.rules.specs.Meaning.Hour.{above}
use Rattle.book_order.specs.declared.Order.{Order}

-- rule 8 for an order at its zone's price
abbrev pub surplus_at : Order → ℤ → ℤ
surplus_at o zone = positive (o.quantity.0 *ℤ above o.buys (grains_of o.price.0) zone)
