-- The state of a lent book, row by row: what `open_book`, `add_row` and `close_book` give, and when a row is read.
-- Closing.antt shows that the state closed where no more rows are read is the answer of document 01.
-- Assumes nothing.
use Rattle.std.specs.Prelude.{cond, List, ℕ, zero, suc, length, get_or, ℤ, pos}
use Rattle.book_surplus.specs.declared.BookState.{BookState}
use Rattle.book_surplus.specs.declared.OrderRow.{OrderRow}
use Rattle.book_surplus.specs.Meaning.BookState.{is_open, open_of, add_of}

-- the row past the last; nothing reads it
abbrev pub no_order : OrderRow
no_order = record { zone = 0; side = 0; quantity = 0; price = pos 0 }

-- after the first i rows; a refusal by 4 or 8 stays
abbrev pub next_of : BookState → OrderRow → List ℤ → BookState
next_of a o prices = cond (is_open a) (add_of a o prices) a

unfoldable pub state_at : List OrderRow → List ℤ → ℕ → BookState
state_at orders prices zero = open_of (length orders) prices
state_at orders prices (suc i) = next_of (state_at orders prices i) (get_or orders i no_order) prices
