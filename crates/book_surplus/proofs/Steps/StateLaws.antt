-- What each step on the state gives, by the tests passed before it; what a row in range leaves; its surplus keeps
-- the sum small. Assumes nothing.
use Rattle.std.specs.Prelude.{◌≡◌, refl, Bool, not, cond, ◌&&◌, List, ℕ, ◌<◌, ◌≤◌, T, leb, ltb, eqb, length, ℤ, pos, ◌+ℤ◌, Result}
use Rattle.std.proofs.Common.{ap, sym, arith, ltb→lt, le-ltb, SFits}
use Rattle.std.proofs.Math.Bool.{true, false}
use Rattle.std.proofs.Math.Option.{Option}
use Rattle.std.proofs.Math.Dec.{nleb→lt}
use Rattle.std.specs.Int.{w64}
use Rattle.base_integers.specs.Meaning.Ranges.{outside}
use Rattle.base_integers.specs.Steps.Ranges.{within, nat-within, is_true, is_false}
use Rattle.base_integers.specs.Steps.Size.{Near, near_le, near-pos, near_add, near_fits}
use Rattle.base_integers.specs.Meaning.Sums.{only}
use Rattle.base_limits.specs.Meaning.Limits as limits
use Rattle.book_order.specs.Meaning.Admitted.{surplus_at}
use Rattle.book_order.specs.declared.Order.{Order}
use Rattle.rules.specs.Meaning.Layout.{zone_counts, order_counts}
use Rattle.rules.specs.Meaning.Hour.{surplus_of}
use Rattle.base_causes.specs.declared.Outcome.{Outcome}
use Rattle.base_causes.specs.Meaning.Causes.{any_below}
use Rattle.rules.specs.Meaning.Verdict.{row_fault, bad_row}
use Rattle.rules.proofs.Steps.Passed.{nor-4}
use Rattle.rules.proofs.Promised.Fits.{surplus-near}
use Rattle.rules.specs.Meaning.Book.{price_at}
use Rattle.book_surplus.specs.declared.BookState.{BookState}
use Rattle.book_surplus.specs.declared.OrderRow.{OrderRow}
use Rattle.book_surplus.specs.Meaning.BookState.{open_by, open_of, first_price_outside, counted, bad_in, row_order, is_open, asks_row, add_by, add_of, answer_of, total_by, close_of, Ready}
use Rattle.book_surplus.specs.Steps.BookState.{OrderIn}
use Rattle.book_surplus.proofs.Steps.BookState.{next_of}

pub opened-by : (count : ℕ) (prices : List ℤ) {a b : Bool} {z : Option ℕ} → outside zone_counts (pos (length prices)) ≡ a → outside order_counts (pos count) ≡ b → first_price_outside prices ≡ z
    → open_by a b z ≡ open_of count prices
opened-by count prices ha hb hz = sym (λ j. open_by (ha j) (hb j) (hz j))

pub added-by : (a : BookState) (o : OrderRow) (prices : List ℤ) {b : Bool} → bad_in prices o ≡ b → add_by a b (counted (row_order o) prices) ≡ add_of a o prices
added-by a o prices hb = sym (ap (λ (b : Bool). add_by a b (counted (row_order o) prices)) hb)

pub next-by : (a : BookState) (o : OrderRow) (prices : List ℤ) {s : Bool} → is_open a ≡ s → next_of a o prices ≡ cond s (add_of a o prices) a
next-by a o prices hs = ap (λ (s : Bool). cond s (add_of a o prices) a) hs

-- a row that is asked for exists, and no earlier refusal by 4 or 8 stands
asked_by : (s : Bool) (i count : ℕ) → T (s && ltb i count) → (s ≡ true) × (i < count)
asked_by true i count t = (refl, ltb→lt i count t)
asked_by false i count t = absurd t

pub asked : (a : BookState) (i count : ℕ) → asks_row a i count ≡ true → (is_open a ≡ true) × (i < count)
asked a i count e = asked_by (is_open a) i count (is_true e)

-- past the last row none is asked for
past_by : (s : Bool) (i count : ℕ) → count ≤ i → (s && ltb i count) ≡ false
past_by true i count h = le-ltb i count h
past_by false i count h = refl

pub past-last : (a : BookState) (i count : ℕ) → count ≤ i → asks_row a i count ≡ false
past-last a i count h = past_by (is_open a) i count h

pub closed-by : (a : BookState) {r : Result (Unit {0}) Outcome} → a.refusal ≡ r → answer_of (total_by r a.sum) ≡ close_of a
closed-by a h = sym (ap (λ (r : Result (Unit {0}) Outcome). answer_of (total_by r a.sum)) h)

pub counted-by : (o : Order) (prices : List ℤ) {b : Bool} → outside limits.zone_price (price_at prices o.zone) ≡ b → only (not b) (surplus_at o (price_at prices o.zone)) ≡ counted o prices
counted-by o prices h = sym (ap (λ (b : Bool). only (not b) (surplus_at o (price_at prices o.zone))) h)

module _ (prices : List ℤ) (o : OrderRow) (ok : T (not (bad_in prices o))) where
  tests : T (not (leb (length prices) o.zone)) × T (not (ltb 1 o.side)) × T (not (outside limits.quantity (pos o.quantity))) × T (not (outside limits.order_price o.price))
  unfolding bad_row row_fault any_below
  tests = nor-4 (leb (length prices) o.zone) (ltb 1 o.side) (outside limits.quantity (pos o.quantity)) (outside limits.order_price o.price) ok

  pub order-in : OrderIn (length prices) (row_order o)
  order-in = record {
    zone-in = nleb→lt (length prices) o.zone tests.0;
    quantity-in = within limits.quantity (pos o.quantity) tests.2;
    price-in = within limits.order_price o.price tests.3;
  }

  -- rule 8 for the row where its zone's price is in range
  at-price : (b : Bool) → outside limits.zone_price (price_at prices o.zone) ≡ b → Near 4500000000000000 (only (not b) (surplus_at (row_order o) (price_at prices o.zone)))
  unfolding surplus_of
  at-price true e = near_le (omega arith) (near-pos 0)
  at-price false e = surplus-near (eqb o.side 0) o.quantity o.price (price_at prices o.zone) (nat-within 1 100000 o.quantity tests.2).1 order-in.price-in
      (within limits.zone_price _ (is_false e))

  pub counted-near : Near 4500000000000000 (counted (row_order o) prices)
  counted-near = at-price (outside limits.zone_price (price_at prices o.zone)) refl

-- with one row more the sum fits
pub next_fits : (a : BookState) (x : ℤ) → Ready a → Near 4500000000000000 x → SFits w64 (a.sum.0 +ℤ x)
next_fits a x r n = near_fits w64 (omega (arith, r.taken_in)) (near_add r.sum_near n)
