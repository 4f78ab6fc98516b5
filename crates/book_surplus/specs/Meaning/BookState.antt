-- The lent book row by row: the state after each row, and the answer at the end.
use Rattle.std.specs.Prelude.{Bool, true, false, not, ◌&&◌, List, ℕ, ◌+◌, ◌*◌, ◌<◌, length, eqb, ltb, ℤ, pos, ◌+ℤ◌, Result, Ok, Err}
use Rattle.std.proofs.Math.Option.{Option, none, some}
use Rattle.base_integers.specs.Meaning.Ranges.{outside}
use Rattle.base_integers.specs.Steps.Size.{Near}
use Rattle.base_integers.specs.Meaning.Sums.{only}
use Rattle.base_limits.specs.Meaning.Limits as limits
use Rattle.book_order.specs.Meaning.Answer.{order_of}
use Rattle.book_order.specs.Meaning.Admitted.{surplus_at}
use Rattle.book_order.specs.declared.Order.{Order}
use Rattle.rules.specs.Meaning.Layout.{zone_counts, order_counts}
use Rattle.base_causes.specs.declared.Outcome.{Outcome}
use Rattle.base_causes.specs.Meaning.Causes.{verdict, first_below}
use Rattle.base_measures.specs.declared.Microcents.{Microcents}
use Rattle.rules.specs.Meaning.Verdict.{bad_row}
use Rattle.rules.specs.Meaning.Book.{price_at}
use Rattle.book_surplus.specs.declared.BookState.{BookState}
use Rattle.book_surplus.specs.declared.OrderRow.{OrderRow}
use Rattle.book_surplus.specs.declared.Surplus.{Surplus}

-- no row taken yet
abbrev pub new_state : Result (Unit {0}) Outcome → BookState
new_state refusal = record { refusal = refusal; taken = 0; sum = record { 0 = pos 0 } }

-- refused by neither 4 nor 8: a row may still change it, and the next row is read
abbrev pub may_change : Result (Unit {0}) Outcome → Bool
may_change (Ok u) = true
may_change (Err o) = eqb o.number 25

abbrev pub is_open : BookState → Bool
is_open a = may_change a.refusal

abbrev pub asks_row : BookState → ℕ → ℕ → Bool
asks_row a i count = is_open a && ltb i count

-- refused at the row after those taken
abbrev pub refused_row : BookState → BookState
refused_row a = record { refusal = Err (verdict 8 a.taken); taken = a.taken; sum = a.sum }

abbrev pub with_row : BookState → ℤ → BookState
with_row a x = record { refusal = a.refusal; taken = a.taken + 1; sum = record { 0 = a.sum.0 +ℤ x } }

-- OPENED: by the number of prices, the number of rows, and the first price out of range
unfoldable pub first_price_outside : List ℤ → Option ℕ
first_price_outside prices = first_below (length prices) (λ z. outside limits.zone_price (price_at prices z))

-- such a price refuses the book once every row is taken
abbrev pub priced : Option ℕ → Result (Unit {0}) Outcome
priced (some z) = Err (verdict 25 z)
priced none = Ok tt

abbrev pub open_by : Bool → Bool → Option ℕ → BookState
open_by true b z = new_state (Err (verdict 4 5))
open_by false true z = new_state (Err (verdict 4 8))
open_by false false z = new_state (priced z)

abbrev pub open_of : ℕ → List ℤ → BookState
open_of count prices = open_by (outside zone_counts (pos (length prices))) (outside order_counts (pos count)) (first_price_outside prices)

-- ONE ROW MORE: its surplus counts where the zone's price is in range
abbrev pub counted : Order → List ℤ → ℤ
counted o prices = only (not (outside limits.zone_price (price_at prices o.zone))) (surplus_at o (price_at prices o.zone))

abbrev pub bad_in : List ℤ → OrderRow → Bool
bad_in prices o = bad_row (length prices) o.zone o.side o.quantity o.price

abbrev pub row_order : OrderRow → Order
row_order o = order_of o.zone o.side (pos o.quantity) o.price

abbrev pub add_by : BookState → Bool → ℤ → BookState
add_by a true x = refused_row a
add_by a false x = with_row a x

abbrev pub add_of : BookState → OrderRow → List ℤ → BookState
add_of a o prices = add_by a (bad_in prices o) (counted (row_order o) prices)

-- CLOSED: a refusal's sum is 0
abbrev pub answered : ℕ → ℕ → ℤ → Surplus
answered number index sum = record { number = number; index = index; sum = record { 0 = sum } }

abbrev pub answer_of : Result Microcents Outcome → Surplus
answer_of (Ok sum) = answered 0 0 sum.0
answer_of (Err o) = answered o.number o.index (pos 0)

abbrev pub total_by : Result (Unit {0}) Outcome → Microcents → Result Microcents Outcome
total_by (Ok u) sum = Ok sum
total_by (Err o) sum = Err o

abbrev pub total_of : BookState → Result Microcents Outcome
total_of a = total_by a.refusal a.sum

abbrev pub close_of : BookState → Surplus
close_of a = answer_of (total_of a)

-- room for one row more: a surplus is at most 4.5e15, and 512 of them are far below 2 ^ 63
pub record Ready (a : BookState) : Type 0 where
  pub taken_in : a.taken < 512
  pub sum_near : Near (a.taken * 4500000000000000) a.sum.0
