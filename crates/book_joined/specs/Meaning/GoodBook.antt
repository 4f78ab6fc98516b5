-- Request S-9 on the lent book: "as long as each row is good". Assumes nothing.
use Rattle.std.specs.Prelude.{not, List, map, ℕ, ◌<◌, T, length, ℤ, pos}
use Rattle.base_integers.specs.Meaning.Ranges.{outside}
use Rattle.base_limits.specs.Meaning.Limits as limits
use Rattle.rules.specs.Meaning.Layout.{zone_counts}
use Rattle.rules.specs.Meaning.Book.{price_at, bad_book_row}
use Rattle.book_surplus.specs.Meaning.Lent.{book_row}
use Rattle.book_surplus.specs.declared.OrderRow.{OrderRow}

-- EACH ROW IS GOOD: 8's test holds of none
pub record GoodRows (orders : List OrderRow) (prices : List ℤ) : Type 0 where
  pub good : (i : ℕ) → i < length (map book_row orders) → T (not (bad_book_row (map book_row orders) prices i))

-- THE PRICES ARE GOOD: from 1 to 16 of them, each in 25's range
pub record GoodPrices (prices : List ℤ) : Type 0 where
  pub count-in : T (not (outside zone_counts (pos (length prices))))
  pub price-in : (z : ℕ) → z < length prices → T (not (outside limits.zone_price (price_at prices z)))
