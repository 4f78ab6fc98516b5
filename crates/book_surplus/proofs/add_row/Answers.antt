-- `book_surplus::add_row` meets its contract: a row that is admitted is in range, and its surplus keeps the sum small.
use Rattle.std.proofs.Common.{◌≡◌, ap, sym, subst, ◌∙◌, length}
use Rattle.std.specs.Prelude.{false, ℤ}
use Rattle.base_integers.specs.Steps.Ranges.{is_false}
use Rattle.base_integers.specs.Steps.Size.{Near}
use Rattle.book_order.specs.declared.Order.{Order}
use Rattle.book_order.specs.Steps.Admitted.{order-held}
use Rattle.book_surplus.specs.Meaning.BookState.{bad_in, row_order, counted, with_row}
use Rattle.book_surplus.specs.Steps.BookState.{OrderIn}
use Rattle.book_surplus.proofs.Steps.StateLaws.{added-by, order-in, counted-near, next_fits}
use Rattle.book_surplus.proofs.add_row.Goals as goal
use Rattle.book_surplus.proofs.add_row.Goals.{In-Some, After-order_surplus}

-- the order is the row's, and the row is in range
held : (c : In-Some) → (bad_in c.args.prices.now c.args.row ≡ false) × (c.in-Some.order ≡ row_order c.args.row)
held c = order-held (row_order c.args.row) c.in-Some.order _ (sym c.admit_row.ensures ∙ c.in-Some.is)

pub order_surplus-requires : goal.order_surplus-requires
order_surplus-requires c =
    let h = held (goal.at.order_surplus-requires c).In-Some in
    subst (λ (o : Order). OrderIn (length c.args.prices.now) o) (sym h.1) (order-in c.args.prices.now c.args.row (is_false h.0))

pub take_row-requires-clause-sfits : goal.take_row-requires-clause-sfits
take_row-requires-clause-sfits c =
    let h = held (goal.at.take_row-requires-clause-sfits c).In-Some in
    let e = c.order_surplus.ensures ∙ ap (λ (o : Order). counted o c.args.prices.now) h.1 in
    next_fits c.args.state _ c.requires (subst (λ (x : ℤ). Near 4500000000000000 x) (sym e) (counted-near c.args.prices.now c.args.row (is_false h.0)))

pub returns : goal.returns
returns c =
    let h = held (goal.at.returns c).In-Some in
    let e = c.order_surplus.ensures ∙ ap (λ (o : Order). counted o c.args.prices.now) h.1 in
    c.take_row.ensures ∙ ap (with_row c.args.state) e ∙ added-by c.args.state c.args.row c.args.prices.now h.0
