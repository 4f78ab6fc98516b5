-- `host::book::lta_book_surplus` meets its contract: the answer is that of `book_surplus`, and the same in plain
-- numbers. Assumes nothing.
use Rattle.std.proofs.Common.{sym, subst}
use Rattle.book_surplus.specs.declared.Surplus.{Surplus}
use Rattle.book_surplus.specs.Promised.PlainLent.{PlainAnswer}
use Rattle.book_surplus.proofs.Promised.PlainLent.{lent-plain}
use Rattle.host.proofs.book.lta_book_surplus.Goals as goal

pub returns : goal.returns
returns c =
    (c.book_surplus.ensures, subst (λ (y : Surplus). PlainAnswer c.args.orders.now c.args.zone_prices.now y) (sym c.book_surplus.ensures) (lent-plain c.args.orders.now c.args.zone_prices.now))
