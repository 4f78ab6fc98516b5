-- `book_surplus::judge_prices` meets its contract: a zone that is found is below the number of prices, so it fits.
use Rattle.std.proofs.Common.{length, arith}
use Rattle.base_causes.proofs.Promised.CauseLaws.{at_place, place-below}
use Rattle.book_surplus.specs.Meaning.BookState.{first_price_outside}
use Rattle.book_surplus.proofs.judge_prices.Goals as goal

pub overflow_cast-zone : goal.overflow_cast-zone
unfolding first_price_outside
overflow_cast-zone c = record {
  fits = place-below (length c.args.prices.now) _ _ 4294967296 (at_place _ _ _ c.first_price_outside.ensures c.in-Some.is) (omega arith);
}
