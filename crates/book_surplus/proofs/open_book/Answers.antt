-- `book_surplus::open_book` meets its contract: prices that are few enough have a zone that fits an index.
use Rattle.std.proofs.Common.{length, sym, ◌∙◌, arith}
use Rattle.base_integers.specs.Steps.Ranges.{is_false, nat-within}
use Rattle.book_surplus.proofs.open_book.Goals as goal

pub judge_prices-requires : goal.judge_prices-requires
judge_prices-requires c = omega (arith, (nat-within 1 16 (length c.args.prices.now) (is_false (sym c.count_outside.ensures ∙ c.if-count_outside.false))).1)
