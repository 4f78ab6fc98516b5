-- `dump_values::field_of` meets its contract: by the part in which the value stands.
use Rattle.std.proofs.Common.{◌≡◌, ◌≤◌, sym, ap, ◌∙◌, subst, arith, T, of_z, w64}
use Rattle.std.specs.Prelude.{Float}
use Rattle.std.specs.Float.Ieee.Scale.{finite}
use Rattle.book_order.specs.declared.Order.{Order}
use Rattle.case_header.specs.Steps.CaseReadable.{headed, limited}
use Rattle.dump_binary64.proofs.Steps.Patterns.{finite-value}
use Rattle.dump_values.specs.Meaning.Answer.{field_of}
use Rattle.dump_values.specs.Meaning.Field.{Kind}
use Rattle.dump_values.specs.Meaning.Fields.{share_field}
use Rattle.dump_values.proofs.Steps.Agree.{share-agrees, flow-agrees, shadow-agrees}
use Rattle.dump_values.specs.Steps.Fields.{flow_field, shadow_field}
use Rattle.dump_values.proofs.Steps.Places.{quantity-most, order-place, flow-place, shadow-place}
use Rattle.rules.specs.Meaning.Layout.{quantity_in}
use Rattle.dump_values.proofs.field_of.Goals as goal

-- the order's quantity, as bits of its measure, is at most 100,000
pub overflow_cast-quantity : goal.overflow_cast-quantity
overflow_cast-quantity c =
    let is : c.bits-quantity.result.0 ≡ quantity_in c.args.«case».bytes.now c.args.i = c.bits-quantity.ensures.value ∙ ap (λ (r : Order). of_z w64 r.quantity.0) c.order_at.ensures in
    let small : quantity_in c.args.«case».bytes.now c.args.i ≤ 100000 = quantity-most c.args.«case».readable c.args.i c.if-i-orders.true in
    record { fits = omega arith }

pub share_of-requires : goal.share_of-requires
share_of-requires c =
    let is : c.bits-quantity.result.0 ≡ quantity_in c.args.«case».bytes.now c.args.i = c.bits-quantity.ensures.value ∙ ap (λ (r : Order). of_z w64 r.quantity.0) c.order_at.ensures in
    let small : quantity_in c.args.«case».bytes.now c.args.i ≤ 100000 = quantity-most c.args.«case».readable c.args.i c.if-i-orders.true in
    omega arith

pub returns-then-i-orders : goal.returns-then-i-orders
returns-then-i-orders c =
    let is : c.bits-quantity.result.0 ≡ quantity_in c.args.«case».bytes.now c.args.i = c.bits-quantity.ensures.value ∙ ap (λ (r : Order). of_z w64 r.quantity.0) c.order_at.ensures in
    c.share_of.ensures
    ∙ (λ j. share_field (c.value-x.ensures j) (is j))
    ∙ share-agrees c.args.bits c.requires.bits_value (quantity_in c.args.«case».bytes.now c.args.i) (quantity-most c.args.«case».readable c.args.i c.if-i-orders.true)
    ∙ ap (λ (n : Kind). field_of n c.args.bits) (order-place c.args.«case».readable c.args.i c.if-i-orders.true)

pub overflow_add-orders : goal.overflow_add-orders
overflow_add-orders c = record { fits = omega (arith, limited (headed c.args.«case».readable)) }

pub flow-requires : goal.flow-requires
flow-requires c = subst (λ (x : Float). T (finite x)) (sym c.value-x.ensures) (finite-value c.args.bits c.requires.bits_value)

pub returns-then-i-orders-2 : goal.returns-then-i-orders-2
returns-then-i-orders-2 c =
    c.flow.ensures
    ∙ ap flow_field c.value-x.ensures
    ∙ flow-agrees c.args.bits c.requires.bits_value
    ∙ ap (λ (n : Kind). field_of n c.args.bits) (flow-place c.args.«case».readable c.args.i c.if-i-orders.false c.if-i-orders-2.true)

pub shadow_price-requires : goal.shadow_price-requires
shadow_price-requires c = subst (λ (x : Float). T (finite x)) (sym c.value-x.ensures) (finite-value c.args.bits c.requires.bits_value)

pub returns-else-i-orders-2 : goal.returns-else-i-orders-2
returns-else-i-orders-2 c =
    c.shadow_price.ensures
    ∙ ap shadow_field c.value-x.ensures
    ∙ shadow-agrees c.args.bits c.requires.bits_value
    ∙ ap (λ (n : Kind). field_of n c.args.bits) (shadow-place c.args.«case».readable c.args.i c.if-i-orders.false c.if-i-orders-2.false)
