-- `book_lent::book_surplus` meets its contract. The laws of `book_surplus` say what each step of the loop needs: the
-- state closed where it asks for no more rows is the answer (`closing`), it has room for each row that is read
-- (`ready`) and counts it (`reading`).
use Rattle.std.proofs.Common.{◌≡◌, false, length, get_or, sym, subst, ap, ◌∙◌, arith}
use Rattle.std.proofs.Math.Numerals.{add-one}
use Rattle.book_surplus.specs.declared.BookState.{BookState}
use Rattle.book_surplus.specs.Meaning.BookState.{asks_row, add_of, close_of, Ready}
use Rattle.book_surplus.proofs.Steps.BookState.{no_order, state_at}
use Rattle.book_surplus.proofs.Steps.StateLaws.{past-last}
use Rattle.book_surplus.proofs.Steps.Closing.{closing, ready, reading}
use Rattle.book_lent.proofs.book_surplus.Goals as goal
use Rattle.book_lent.proofs.book_surplus.Goals.{else-loop-i-test, then-loop-i-test+then-not-asks_row}

pub loop-i-init : goal.loop-i-init
unfolding state_at
loop-i-init c = record { state_is = c.open_book-state.ensures }

pub add_row-state-requires : goal.add_row-state-requires
add_row-state-requires c =
    let e = c.loop-i.invariant.state_is in
    let wanted = sym (ap (λ (a : BookState). asks_row a c.loop-i.i (length c.args.orders.now)) e) ∙ sym c.asks_row.ensures ∙ c.if-not-asks_row.false in
    subst Ready (sym e) (ready c.args.orders.now c.args.zone_prices.now c.loop-i.i wanted)

pub loop-i-preserved : goal.loop-i-preserved
loop-i-preserved c =
    let e = c.loop-i.invariant.state_is in
    let i = c.loop-i.i in
    let orders = c.args.orders.now in
    let prices = c.args.zone_prices.now in
    let wanted = sym (ap (λ (a : BookState). asks_row a i (length orders)) e) ∙ sym c.asks_row.ensures ∙ c.if-not-asks_row.false in
    record {
      state_is = c.add_row-state.ensures
          ∙ ap (λ (a : BookState). add_of a (get_or orders i no_order) prices) e
          ∙ reading orders prices i wanted
          ∙ ap (state_at orders prices) (sym (add-one i));
    }

pub returns : goal.returns
returns c =
    let e = c.loop-i.invariant.state_is in
    let i = c.loop-i.i in
    let orders = c.args.orders.now in
    let prices = c.args.zone_prices.now in
    let unwanted : asks_row (state_at orders prices i) i (length orders) ≡ false = elim c.loop-i-test.branch [
      | else-loop-i-test w ↦ past-last (state_at orders prices i) i (length orders) (omega arith)
      | then-loop-i-test+then-not-asks_row w ↦ sym (ap (λ (a : BookState). asks_row a i (length orders)) e) ∙ sym w.asks_row.ensures ∙ w.if-not-asks_row.true
    ]
    in
    c.close_book.ensures ∙ ap close_of e ∙ closing orders prices i (omega arith) unwanted
