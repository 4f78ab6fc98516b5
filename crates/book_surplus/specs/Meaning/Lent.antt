-- A lent book in the terms of document 01: each lent row is a row of `rules`, and the answer has the fields that
-- the host gets. Assumes nothing.
use Rattle.std.specs.Prelude.{List, map, ℤ}
use Rattle.rules.specs.Meaning.Book.{BookRow, BookAnswer, book_answer}
use Rattle.book_surplus.specs.declared.OrderRow.{OrderRow}
use Rattle.book_surplus.specs.declared.Surplus.{Surplus}

abbrev pub book_row : OrderRow → BookRow
book_row o = record { zone = o.zone; side = o.side; quantity = o.quantity; price = o.price }

abbrev pub given : BookAnswer → Surplus
given a = record { number = a.number; index = a.index; sum = record { 0 = a.sum } }

-- THE ANSWER: number, index and sum, for every book
unfoldable pub lent_answer : List OrderRow → List ℤ → Surplus
lent_answer orders prices = given (book_answer (map book_row orders) prices)
