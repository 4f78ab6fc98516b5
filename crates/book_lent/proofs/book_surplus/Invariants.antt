-- The loop of `book_lent::book_surplus`: after i rows the state is the one that document 01 gives to i rows.
use Rattle.std.proofs.Common.{◌≡◌}
use Rattle.book_surplus.proofs.Steps.BookState.{state_at}
use Rattle.book_lent.proofs.book_surplus.Given as goal

abbrev pub invariant-loop-i : goal.invariant-loop-i
invariant-loop-i l = record {
  state_is : l.state ≡ state_at l.orders l.zone_prices l.i;
}
