-- WHAT A HOST CONCLUDES FROM THE BOOK'S ANSWER, in the plain numbers of `PlainBook` of `rules`. Number 0 with the
-- sum of rule 8 is for the books of `BookFacts` and no others; else the answer is the number and index of
-- `Refused`, with sum 0. Assumes nothing.
use Rattle.std.specs.Prelude.{◌≡◌, List, map, ℕ, ◌<◌, ℤ, pos}
use Rattle.rules.specs.Meaning.Book.{book_surplus}
use Rattle.rules.proofs.Promised.PlainBook.{BookFacts, Refused}
use Rattle.book_surplus.specs.declared.OrderRow.{OrderRow}
use Rattle.book_surplus.specs.declared.Surplus.{Surplus}
use Rattle.book_surplus.specs.Meaning.Lent.{book_row}

-- r is the answer on these rows and prices
pub record PlainAnswer (orders : List OrderRow) (prices : List ℤ) (r : Surplus) : Type 0 where
  pub zero-facts : r.number ≡ 0 → BookFacts (map book_row orders) prices
  pub facts-zero : BookFacts (map book_row orders) prices → r ≡ record { number = 0; index = 0; sum = record { 0 = book_surplus (map book_row orders) prices } }
  pub refused-for : 0 < r.number → Refused (map book_row orders) prices r.number r.index
  pub refused-with : (n k : ℕ) → Refused (map book_row orders) prices n k → r ≡ record { number = n; index = k; sum = record { 0 = pos 0 } }
