-- S-9, TWO BOOKS JOINED, in plain numbers: "as long as each row is good and together they have at most 512".
-- `PlainBook` of `rules` has the numbers of a good row and a good price. Assumes nothing.
use Rattle.std.specs.Prelude.{◌≡◌, ◌↔◌, List, ◌++◌, map, ℕ, ◌+◌, ◌≤◌, ◌<◌, length, ℤ, ◌+ℤ◌}
use Rattle.rules.proofs.Promised.PlainBook as plain
use Rattle.book_surplus.specs.Meaning.Lent.{book_row, lent_answer}
use Rattle.book_surplus.specs.Meaning.BookState.{answered}
use Rattle.book_surplus.specs.declared.OrderRow.{OrderRow}
use Rattle.book_joined.specs.Meaning.GoodBook.{GoodRows, GoodPrices}
use Rattle.book_joined.proofs.Promised.Rows.{sum_of}
use Rattle.book_joined.proofs.Promised.Sum.{joined-sum}
use Rattle.book_joined.proofs.Promised.Joined.{joined-answer, either_order}

-- rows and prices are good if and only if their numbers are
pub good-rows-are : (orders : List OrderRow) (prices : List ℤ) → GoodRows orders prices ↔ plain.GoodRows (map book_row orders) prices
good-rows-are orders prices = (
  λ g i h. plain.passes-good (map book_row orders) prices i (g.good i h),
  λ g. record { good = λ i h. plain.good-passes (map book_row orders) prices i (g i h) },
)

abbrev pub PricesGood : List ℤ → Type 0
PricesGood prices = plain.PricesCounted prices × ((z : ℕ) → z < length prices → plain.GoodPrice prices z)

pub good-prices-are : (orders : List OrderRow) (prices : List ℤ) → GoodPrices prices ↔ PricesGood prices
good-prices-are orders prices = let rows = map book_row orders in (
  λ g. (plain.passes_count rows prices g.count-in, λ z h. plain.passes-price rows prices z (g.price-in z h)),
  λ g. record { count-in = plain.count-passes rows prices g.0; price-in = λ z h. plain.price-passes rows prices z (g.1 z h) },
)

-- THE SUM OF THE SUMS, in either order
module _ (prices : List ℤ) (a b : List OrderRow) (good : plain.GoodRows (map book_row a) prices × plain.GoodRows (map book_row b) prices) (few : length a + length b ≤ 512) where
  pub sums-add : sum_of (a ++ b) prices ≡ sum_of a prices +ℤ sum_of b prices
  sums-add = joined-sum prices a b ((good-rows-are a prices).1 good.0) ((good-rows-are b prices).1 good.1) few

  pub turned-the-same : lent_answer (b ++ a) prices ≡ lent_answer (a ++ b) prices
  turned-the-same = either_order prices a b ((good-rows-are a prices).1 good.0) ((good-rows-are b prices).1 good.1) few

  -- at good prices the joined book is answered 0
  pub answered-joined : PricesGood prices → lent_answer (a ++ b) prices ≡ answered 0 0 (sum_of a prices +ℤ sum_of b prices)
  answered-joined p = joined-answer prices a b ((good-rows-are a prices).1 good.0) ((good-rows-are b prices).1 good.1) few ((good-prices-are a prices).1 p)
