-- WHAT A HOST CONCLUDES FROM THE BOOK'S ANSWER, in the plain numbers of `PlainBook` of `rules`. Number 0 with the
-- sum of rule 8 is for the books of `BookFacts` and no others; else the answer is the number and index of
-- `Refused`, with sum 0. Assumes nothing.
use Rattle.std.specs.Prelude.{List, map, ℤ}
use Rattle.std.proofs.Common.{ap}
use Rattle.rules.proofs.Promised.PlainBook.{book-answers, book-answered-facts, book-refused, refused-book}
use Rattle.book_surplus.specs.declared.OrderRow.{OrderRow}
use Rattle.book_surplus.specs.Meaning.Lent.{book_row, given, lent_answer}
use Rattle.book_surplus.specs.Promised.PlainLent.{PlainAnswer}

pub lent-plain : (orders : List OrderRow) (prices : List ℤ) → PlainAnswer orders prices (lent_answer orders prices)
unfolding lent_answer
lent-plain orders prices = let rows = map book_row orders in record {
  zero-facts = book-answered-facts rows prices;
  facts-zero = λ f. ap given (book-answers rows prices f);
  refused-for = book-refused rows prices;
  refused-with = λ n k f. ap given (refused-book rows prices f);
}
