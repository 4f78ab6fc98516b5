-- The walk over the orders of a case, field by field as row 8 tests them, and order i as the later stages have it.
-- Assumes nothing.
use Rattle.std.specs.Prelude.{◌≡◌, refl, List, ℕ, ◌+◌, ◌<◌, ltb, ℤ}
use Rattle.std.proofs.Math.Path.{sym, ap}
use Rattle.std.proofs.Common.{◌∙◌, arith}
use Rattle.std.proofs.Math.Option.{none}
use Rattle.std.proofs.Math.Dec.{leb}
use Rattle.std.proofs.Math.IntN.{pos}
use Rattle.base_integers.specs.Meaning.Ranges.{outside}
use Rattle.base_limits.specs.Meaning.Limits as limits
use Rattle.rules.specs.Meaning.Layout.{u8_at, u32_at, i32_at, zones_in, orders_in, order_at, order_fields, order_field_at, case_length, zone_in, side_in, quantity_in, price_in}
use Rattle.rules.specs.Meaning.Hour.{case_of}
use Rattle.base_causes.specs.Meaning.Causes.{first_below}
use Rattle.rules.specs.Meaning.Verdict.{row_fault, order_fault}
use Rattle.bytes_read.specs.Steps.Record.{RecordWithin}
use Rattle.bytes_read.specs.Steps.Walked.{AtField, at_first}
use Rattle.case_header.specs.declared.Counts.{Counts}
use Rattle.case_header.specs.Meaning.CaseReadable.{LengthValid, order_cause}
use Rattle.case_header.specs.Steps.CaseReadable.{small, order-start-is, order-inside}

-- WHERE ORDERS STAND: each begins where the one before ends, and the case ends where the last ends
pub order-next : (s : List ℕ) (i : ℕ) → order_at s i + 10 ≡ order_at s (i + 1)
unfolding order_at
order-next s i = omega arith

pub case-ends : (s : List ℕ) → order_at s (orders_in s) ≡ case_length s
unfolding order_at case_length
case-ends s = refl

-- THE ORDER OF A TURN: it is within the file, and no order before it has a field at fault
pub order-within : {s : List ℕ} {k : Counts} → LengthValid s k → (i : ℕ) → i < k.orders → {at : ℕ} → at ≡ order_at s i → RecordWithin s at 10
order-within w i h p = record { inside = omega (arith, p, order-start-is w.headed i, order-inside w i h); small = small w }

pub order-begins : {s : List ℕ} {k : Counts} → LengthValid s k → {i : ℕ} → i < k.orders → first_below i (order_cause s).fails ≡ none → AtField 8 (orders_in s) order_fields (order_fault (case_of s)) (order_field_at s) i 0
order-begins w h e = at_first (omega (arith, h, ap (λ (k : Counts). k.orders) w.headed.counts)) e

-- its fields, as row 8 tests them
module _ (s : List ℕ) (i : ℕ) {at : ℕ} (place : at ≡ order_at s i) where
  pub zone-fault : {zones v : ℕ} → zones ≡ zones_in s → v ≡ u8_at s (at + 0) → order_fault (case_of s) i 0 ≡ leb zones v
  unfolding order_fault row_fault case_of zone_in
  zone-fault e f = let q : at + 0 ≡ order_at s i = omega (arith, place) in sym (λ j. leb (e j) ((f ∙ ap (u8_at s) q) j))

  pub side-fault : {v : ℕ} → v ≡ u8_at s (at + 1) → order_fault (case_of s) i 1 ≡ ltb 1 v
  unfolding order_fault row_fault case_of side_in
  side-fault f = ap (ltb 1) (sym (f ∙ ap (λ (n : ℕ). u8_at s (n + 1)) place))

  pub quantity-fault : {v : ℤ} → v ≡ pos (u32_at s (at + 2)) → order_fault (case_of s) i 2 ≡ outside limits.quantity v
  unfolding order_fault row_fault case_of quantity_in
  quantity-fault f = ap (outside limits.quantity) (sym (f ∙ ap (λ (n : ℕ). pos (u32_at s (n + 2))) place))

  pub price-fault : {v : ℤ} → v ≡ i32_at s (at + 6) → order_fault (case_of s) i 3 ≡ outside limits.order_price v
  unfolding order_fault row_fault case_of price_in
  price-fault f = ap (outside limits.order_price) (sym (f ∙ ap (λ (n : ℕ). i32_at s (n + 6)) place))
