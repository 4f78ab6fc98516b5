-- A row of an order book admitted: what its answer implies, and its surplus. Assumes nothing.
use Rattle.std.specs.Prelude.{◌≡◌, Bool, true, false, ◌||◌, ℕ, leb, ltb, ℤ, pos, None, Some}
use Rattle.std.proofs.Common.{sym}
use Rattle.base_integers.specs.Meaning.Ranges.{outside}
use Rattle.base_limits.specs.Meaning.Limits as limits
use Rattle.base_causes.specs.Meaning.Causes.{any_below}
use Rattle.base_measures.specs.Steps.Held.{by-refused, by-held}
use Rattle.rules.specs.Meaning.Verdict.{row_fault, bad_row}
use Rattle.book_order.specs.declared.Order.{Order}
use Rattle.book_order.specs.Meaning.Answer.{order_of, order_by, admitted}

-- by its four tests
pub admitted-by : (n zone side quantity : ℕ) (price : ℤ) {a b e f : Bool}
    → leb n zone ≡ a → ltb 1 side ≡ b → outside limits.quantity (pos quantity) ≡ e → outside limits.order_price price ≡ f
    → order_by (order_of zone side (pos quantity) price) (a || b || e || f) ≡ admitted n zone side quantity price
unfolding bad_row row_fault any_below
admitted-by n zone side quantity price ha hb he hf = sym (λ j. order_by (order_of zone side (pos quantity) price) (ha j || hb j || he j || hf j))

-- what an answer implies: its test, and the order
pub order-outside : (o : Order) (b : Bool) → order_by o b ≡ None → b ≡ true
order-outside = by-refused

pub order-held : (o p : Order) (b : Bool) → order_by o b ≡ Some p → (b ≡ false) × (p ≡ o)
order-held o p b e = let h = by-held o p b e in (h.0, sym h.1)
