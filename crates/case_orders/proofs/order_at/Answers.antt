-- `case_orders::order_at` meets its contract: order i stands within the file. Assumes nothing.
use Rattle.std.proofs.Common.{◌≡◌, ℕ, ◌+◌, ◌≤◌, ◌<◌, length, sym, ap, subst, ◌∙◌, arith, eqb}
use Rattle.std.specs.Prelude.{List, ℤ, pos}
use Rattle.base_integers.specs.Meaning.Ranges.{Within}
use Rattle.base_limits.specs.Meaning.Limits as limits
use Rattle.base_measures.specs.declared.Raw.{Raw}
use Rattle.rules.specs.Meaning.Layout.{u8_at, u32_at, i32_at, orders_in, zone_in, side_in, quantity_in, price_in}
use Rattle.rules.specs.Meaning.Hour.{case_of}
use Rattle.rules.proofs.Steps.Passed.{case-sound}
use Rattle.case_header.specs.declared.Counts.{Counts}
use Rattle.case_header.specs.Meaning.CaseReadable.{CaseReadable}
use Rattle.case_header.specs.Steps.CaseReadable.{headed, whole, limited, order-start-is, order-inside}
use Rattle.case_orders.proofs.order_at.Goals as goal
use Rattle.case_orders.proofs.order_at.Goals.{After-order_start-at, After-from, After-read-3}

pub order_start-at-requires-clause-counts_in_range : goal.order_start-at-requires-clause-counts_in_range
order_start-at-requires-clause-counts_in_range c = limited (headed c.args.«case».readable)

inside : (c : After-order_start-at) → c.order_start-at.result + 10 ≤ length c.args.«case».bytes.now
inside c = omega (arith, c.order_start-at.ensures, order-inside (whole c.args.«case».readable) c.args.i c.requires)

pub read-requires : goal.read-requires
read-requires c = omega (arith, inside (goal.at.read-requires c).After-order_start-at)

pub overflow_add-at : goal.overflow_add-at
overflow_add-at c = omega (arith, inside (goal.at.overflow_add-at c).After-order_start-at)

pub read-side-requires : goal.read-side-requires
read-side-requires c = omega (arith, inside (goal.at.read-side-requires c).After-order_start-at)

pub overflow_add-at-2 : goal.overflow_add-at-2
overflow_add-at-2 c = omega (arith, inside (goal.at.overflow_add-at-2 c).After-order_start-at)

pub read-requires-2 : goal.read-requires-2
read-requires-2 c = omega (arith, inside (goal.at.read-requires-2 c).After-order_start-at)

-- row 8 passed
one_of : {s : List ℕ} {k : Counts} {i : ℕ} → CaseReadable s k → i < k.orders → i < orders_in s
one_of o h = omega (arith, ap (λ (k : Counts). k.orders) o.counts)

quantity-is : (c : After-from) → c.from.result.0 ≡ pos (quantity_in c.args.«case».bytes.now c.args.i)
unfolding quantity_in
quantity-is c =
    let s = c.args.«case».bytes.now in
    let place = c.order_start-at.ensures ∙ order-start-is (headed c.args.«case».readable) c.args.i in
    c.from.ensures ∙ ap pos (c.read-2.ensures ∙ ap (λ (n : ℕ). u32_at s (n + 2)) place)

pub of_quantity-quantity-requires : goal.of_quantity-quantity-requires
unfolding case_of
of_quantity-quantity-requires c =
    let o = c.args.«case».readable in
    subst (λ (x : ℤ). Within limits.quantity x) (sym (quantity-is (goal.at.of_quantity-quantity-requires c).After-from)) ((case-sound _ o.readable).quantity-within c.args.i (one_of o c.requires))

pub overflow_add-at-3 : goal.overflow_add-at-3
overflow_add-at-3 c = omega (arith, inside (goal.at.overflow_add-at-3 c).After-order_start-at)

pub read-requires-3 : goal.read-requires-3
read-requires-3 c = omega (arith, inside (goal.at.read-requires-3 c).After-order_start-at)

price-is : (c : After-read-3) → c.read-3.result.0 ≡ price_in c.args.«case».bytes.now c.args.i
unfolding price_in
price-is c =
    let s = c.args.«case».bytes.now in
    let place = c.order_start-at.ensures ∙ order-start-is (headed c.args.«case».readable) c.args.i in
    ap (λ (x : Raw). x.0) c.read-3.ensures ∙ ap (λ (n : ℕ). i32_at s (n + 6)) place

pub of_order_price-price-requires : goal.of_order_price-price-requires
unfolding case_of
of_order_price-price-requires c =
    let o = c.args.«case».readable in
    subst (λ (x : ℤ). Within limits.order_price x) (sym (price-is (goal.at.of_order_price-price-requires c).After-read-3)) ((case-sound _ o.readable).price-in c.args.i (one_of o c.requires))

pub returns : goal.returns
unfolding zone_in side_in
returns c =
    let g = goal.at.returns c in
    let s = c.args.«case».bytes.now in
    let place = c.order_start-at.ensures ∙ order-start-is (headed c.args.«case».readable) c.args.i in
    let zone = c.from-zone.ensures ∙ c.read.ensures ∙ ap (u8_at s) place in
    let side = c.read-side.ensures ∙ ap (λ (n : ℕ). u8_at s (n + 1)) place in
    let tenths = c.of_quantity-quantity.ensures ∙ (λ j. record { 0 = quantity-is g.After-from j }) in
    let cents = c.of_order_price-price.ensures ∙ (λ j. record { 0 = price-is g.After-read-3 j }) in
    λ j. record { zone = zone j; buys = eqb (side j) 0; quantity = tenths j; price = cents j }
