-- `case_orders::walk_orders` meets its contract: the order of a turn is within the file, so no field of it is
-- missing; each return follows from the tests passed before it. Assumes nothing.
use Rattle.std.proofs.Common.{◌≡◌, ℕ, List, ◌+◌, refl, sym, ap, ◌∙◌, arith, le-leb, lt-ltb, le-ltb}
use Rattle.std.proofs.lemmas.Bool.{lt-leb}
use Rattle.std.specs.Prelude.{pos, Option, Some}
use Rattle.base_integers.specs.Meaning.Ranges.{outside}
use Rattle.base_limits.specs.Meaning.Limits as limits
use Rattle.base_measures.specs.Steps.Held.{tenths-outside, tenths-held, cents-outside, cents-held}
use Rattle.base_measures.specs.Meaning.Held.{tenths_by}
use Rattle.base_measures.specs.declared.Raw.{Raw}
use Rattle.base_measures.specs.declared.Tenths.{Tenths}
use Rattle.rules.specs.Meaning.Layout.{u8_at, u32_at, i32_at, zones_in, orders_in, order_at, order_fields, order_field_at, case_length}
use Rattle.rules.specs.Meaning.Hour.{case_of}
use Rattle.base_causes.specs.Meaning.Causes.{first_below}
use Rattle.rules.specs.Meaning.Verdict.{order_fault}
use Rattle.bytes_read.specs.declared.Cursor.{Cursor}
use Rattle.bytes_read.specs.Meaning.Field.{cursor, raw}
use Rattle.bytes_read.specs.Steps.Record.{RecordWithin, FieldRead, byte-read, word_read, signed-read}
use Rattle.bytes_read.specs.Steps.Walked.{AtField, field-stops, field-passes, record-passes, walk-done}
use Rattle.case_header.specs.declared.Counts.{Counts}
use Rattle.case_header.specs.Meaning.CaseReadable.{LengthValid, order_cause}
use Rattle.case_orders.specs.Steps.Order.{order-next, case-ends, order-within, order-begins, zone-fault, side-fault, quantity-fault, price-fault}
use Rattle.case_orders.proofs.walk_orders.Goals as goal
use Rattle.case_orders.proofs.walk_orders.Goals.{In-loop, In-Some, In-Some-take-2, In-Some-take-3, Else-case-from, Else-side-gt1}

pub loop-init : goal.loop-init
unfolding first_below
loop-init c = (c.requires, refl)

-- THE ORDER OF A TURN: its ten bytes, within the file
within : (c : In-loop) → RecordWithin c.args.«case».bytes.now c.loop.cursor.at 10
within c = order-within c.args.«case».whole c.loop.counter c.loop-test.true c.loop.invariant.0

-- the walk at field j of it
abbrev Stands : List ℕ → ℕ → ℕ → Type 0
Stands s i j = AtField 8 (orders_in s) order_fields (order_fault (case_of s)) (order_field_at s) i j

start : {d : Cursor} → d ≡ cursor 0 → d.at ≡ 0
start e = ap (λ (d : Cursor). d.at) e

zones-is : {s : List ℕ} {k : Counts} → LengthValid s k → k.zones ≡ zones_in s
zones-is w = ap (λ (k : Counts). k.zones) w.headed.counts

pub overflow_add-order : goal.overflow_add-order
overflow_add-order c = omega (arith, within (goal.at.overflow_add-order c).In-loop)

pub slice_bounds-order-end : goal.slice_bounds-order-end
slice_bounds-order-end c = omega (arith, within (goal.at.slice_bounds-order-end c).In-loop)

-- THE ZONE
zone-read : (c : In-Some) → FieldRead c.in-Some.zone (u8_at c.args.«case».bytes.now (c.loop.cursor.at + 0)) c.in-Some.at_side 1
zone-read c =
    let w = order-within c.args.«case».whole c.loop.counter c.loop-test.true c.loop.invariant.0 in
    byte-read w 0 (start c.new-at_zone.ensures) (omega arith) c.take.ensures c.in-Some.is

pub refuse_in-requires-then-case-from : goal.refuse_in-requires-then-case-from
refuse_in-requires-then-case-from c = omega (arith, start c.new-at_zone.ensures, within (goal.at.refuse_in-requires-then-case-from c).In-loop)

pub returns-then-case-from : goal.returns-then-case-from
returns-then-case-from c =
    let s = c.args.«case».bytes.now in
    let w = c.args.«case».whole in
    let test = zone-fault s c.loop.counter c.loop.invariant.0 (zones-is w) (c.from.ensures ∙ (zone-read (goal.at.returns-then-case-from c).In-Some).is) in
    c.refuse_in-then-case-from.ensures
    ∙ field-stops (order-begins w c.loop-test.true c.loop.invariant.1) (cursor (case_length s)) (omega arith) (test ∙ le-leb _ _ c.if-case-from.true) (omega (arith, start c.new-at_zone.ensures))

-- THE SIDE
at_side : (c : Else-case-from) → Stands c.args.«case».bytes.now c.loop.counter 1
at_side c =
    let w = c.args.«case».whole in
    let zone = byte-read (order-within w c.loop.counter c.loop-test.true c.loop.invariant.0) 0 (start c.new-at_zone.ensures) (omega arith) c.take.ensures c.in-Some.is in
    let test = zone-fault c.args.«case».bytes.now c.loop.counter c.loop.invariant.0 (zones-is w) (c.from.ensures ∙ zone.is) in
    field-passes (order-begins w c.loop-test.true c.loop.invariant.1) (test ∙ lt-leb _ _ c.if-case-from.false)

pub refuse_in-requires-then-side-gt1 : goal.refuse_in-requires-then-side-gt1
refuse_in-requires-then-side-gt1 c = let g = goal.at.refuse_in-requires-then-side-gt1 c in omega (arith, (zone-read g.In-Some).past, within g.In-loop)

pub returns-then-side-gt1 : goal.returns-then-side-gt1
returns-then-side-gt1 c =
    let g = goal.at.returns-then-side-gt1 c in
    let s = c.args.«case».bytes.now in
    let zone = zone-read g.In-Some in
    let side = byte-read (within g.In-loop) 1 zone.past (omega arith) c.take-in-loop.ensures c.in-Some-take.is in
    c.refuse_in-then-side-gt1.ensures
    ∙ field-stops (at_side g.Else-case-from) (cursor (case_length s)) (omega arith) (side-fault s c.loop.counter c.loop.invariant.0 side.is ∙ lt-ltb _ _ c.if-side-gt1.true) (omega (arith, zone.past))

-- THE QUANTITY
at-quantity : (c : Else-side-gt1) → Stands c.args.«case».bytes.now c.loop.counter 2
at-quantity c =
    let s = c.args.«case».bytes.now in
    let i = c.loop.counter in
    let place = c.loop.invariant.0 in
    let w = c.args.«case».whole in
    let inside = order-within w i c.loop-test.true place in
    let zone = byte-read inside 0 (start c.new-at_zone.ensures) (omega arith) c.take.ensures c.in-Some.is in
    let side = byte-read inside 1 zone.past (omega arith) c.take-in-loop.ensures c.in-Some-take.is in
    field-passes (field-passes (order-begins w c.loop-test.true c.loop.invariant.1)
    (zone-fault s i place (zones-is w) (c.from.ensures ∙ zone.is) ∙ lt-leb _ _ c.if-case-from.false))
    (side-fault s i place side.is ∙ le-ltb _ _ c.if-side-gt1.false)

side-past : (c : Else-side-gt1) → c.in-Some-take.at_quantity.at ≡ 2
side-past c =
    let inside = order-within c.args.«case».whole c.loop.counter c.loop-test.true c.loop.invariant.0 in
    let zone = byte-read inside 0 (start c.new-at_zone.ensures) (omega arith) c.take.ensures c.in-Some.is in
    (byte-read inside 1 zone.past (omega arith) c.take-in-loop.ensures c.in-Some-take.is).past

quantity-read : (c : In-Some-take-2) → FieldRead c.in-Some-take-2.quantity (u32_at c.args.«case».bytes.now (c.loop.cursor.at + 2)) c.in-Some-take-2.at_price 6
quantity-read c =
    let inside = order-within c.args.«case».whole c.loop.counter c.loop-test.true c.loop.invariant.0 in
    let zone = byte-read inside 0 (start c.new-at_zone.ensures) (omega arith) c.take.ensures c.in-Some.is in
    let side = byte-read inside 1 zone.past (omega arith) c.take-in-loop.ensures c.in-Some-take.is in
    word_read inside 2 side.past (omega arith) c.take-in-loop-2.ensures c.in-Some-take-2.is

pub refuse_in-requires-in_default-quantity : goal.refuse_in-requires-in_default-quantity
refuse_in-requires-in_default-quantity c = let g = goal.at.refuse_in-requires-in_default-quantity c in omega (arith, side-past g.Else-side-gt1, within g.In-loop)

pub returns-in_default-quantity : goal.returns-in_default-quantity
returns-in_default-quantity c =
    let g = goal.at.returns-in_default-quantity c in
    let s = c.args.«case».bytes.now in
    let test = quantity-fault s c.loop.counter c.loop.invariant.0 (c.from-in-loop.ensures ∙ ap pos (quantity-read g.In-Some-take-2).is) in
    c.refuse_in-in_default-quantity.ensures
    ∙ field-stops (at-quantity g.Else-side-gt1) (cursor (case_length s)) (omega arith) (test ∙ tenths-outside _ _ (sym c.quantity.ensures ∙ c.in_default-quantity.is)) (omega (arith, side-past g.Else-side-gt1))

-- THE PRICE
at-price : (s : List ℕ) (i at : ℕ) {q : ℕ} {x : Raw} {t : Tenths} {a : Option Tenths} → at ≡ order_at s i → Stands s i 2 → {d : Cursor} → FieldRead q (u32_at s (at + 2)) d 6 → x.0 ≡ pos q → a ≡ tenths_by x.0 (outside limits.quantity x.0) → a ≡ Some t → Stands s i 3
at-price s i at place stands r e f h = field-passes stands (quantity-fault s i place (e ∙ ap pos r.is) ∙ (tenths-held _ _ _ (sym f ∙ h)).0)

price-read : (c : In-Some-take-3) → FieldRead c.in-Some-take-3.price (raw (i32_at c.args.«case».bytes.now (c.loop.cursor.at + 6))) c.in-Some-take-3.past 10
price-read c =
    let inside = order-within c.args.«case».whole c.loop.counter c.loop-test.true c.loop.invariant.0 in
    let zone = byte-read inside 0 (start c.new-at_zone.ensures) (omega arith) c.take.ensures c.in-Some.is in
    let side = byte-read inside 1 zone.past (omega arith) c.take-in-loop.ensures c.in-Some-take.is in
    let quantity = word_read inside 2 side.past (omega arith) c.take-in-loop-2.ensures c.in-Some-take-2.is in
    signed-read inside 6 quantity.past (omega arith) c.take-in-loop-3.ensures c.in-Some-take-3.is

pub refuse_in-requires-in_default-order_price : goal.refuse_in-requires-in_default-order_price
refuse_in-requires-in_default-order_price c = let g = goal.at.refuse_in-requires-in_default-order_price c in omega (arith, (quantity-read g.In-Some-take-2).past, within g.In-loop)

pub returns-in_default-order_price : goal.returns-in_default-order_price
returns-in_default-order_price c =
    let g = goal.at.returns-in_default-order_price c in
    let s = c.args.«case».bytes.now in
    let quantity = quantity-read g.In-Some-take-2 in
    let stands = at-price s c.loop.counter c.loop.cursor.at c.loop.invariant.0 (at-quantity g.Else-side-gt1) quantity c.from-in-loop.ensures c.quantity.ensures c.in-Some-quantity.is in
    let test = price-fault s c.loop.counter c.loop.invariant.0 (ap (λ (x : Raw). x.0) (price-read g.In-Some-take-3).is) in
    c.refuse_in-in_default-order_price.ensures
    ∙ field-stops stands (cursor (case_length s)) (omega arith) (test ∙ cents-outside _ _ (sym c.order_price.ensures ∙ c.in_default-order_price.is)) (omega (arith, quantity.past))

-- THE NEXT TURN
pub in_file-cursor-requires : goal.in_file-cursor-requires
in_file-cursor-requires c = let g = goal.at.in_file-cursor-requires c in omega (arith, (price-read g.In-Some-take-3).past, within g.In-loop)

pub loop-preserved : goal.loop-preserved
loop-preserved c =
    let g = goal.at.loop-preserved c in
    let s = c.args.«case».bytes.now in
    let price = price-read g.In-Some-take-3 in
    let stands = at-price s c.loop.counter c.loop.cursor.at c.loop.invariant.0 (at-quantity g.Else-side-gt1) (quantity-read g.In-Some-take-2) c.from-in-loop.ensures c.quantity.ensures c.in-Some-quantity.is in
    let test = price-fault s c.loop.counter c.loop.invariant.0 (ap (λ (x : Raw). x.0) price.is) in (
      ap (λ (d : Cursor). d.at) c.in_file-cursor.ensures ∙ omega (arith, price.past) ∙ order-next s c.loop.counter,
      record-passes (field-passes stands (test ∙ (cents-held _ _ c.in-Some-order_price.field-0 (sym c.order_price.ensures ∙ c.in-Some-order_price.is)).0)) refl,
    )

pub returns : goal.returns
returns c =
    let s = c.args.«case».bytes.now in
    let orders = ap (λ (k : Counts). k.orders) c.args.«case».whole.headed.counts in
    walk-done (order_cause s) (order_at s) c.loop.invariant.0 c.loop.invariant.1 (omega (arith, orders)) (case-ends s)
