-- The lent book and the judgement agree: the orders of a readable case at its zone prices, if these are in range,
-- are not refused, and their sum is the surplus in the judgement's bound (rule 10). Assumes nothing.
use Rattle.std.specs.Prelude.{◌≡◌, refl, Bool, true, false, not, ◌||◌, ℕ, zero, suc, ◌<◌, eqb, length, get_or, ℤ, pos}
use Rattle.std.proofs.Common.{sym, ◌∙◌, arith}
use Rattle.std.proofs.Math.Path.{ap, subst}
use mathlib.Core.List.{List, [], ◌∷◌, map}
use Rattle.std.proofs.Math.Option.{none}
use Rattle.std.proofs.Math.Dec.{T, not_T}
use Rattle.std.specs.Int.Signed.{lt_z, lt_z_yes, clash_ℤ}
use Rattle.base_integers.specs.Meaning.Ranges.{Range, outside, Within}
use Rattle.base_integers.specs.Steps.Ranges.{not_is}
use Rattle.base_integers.specs.Meaning.Sums.{sum_to}
use Rattle.base_integers.specs.Steps.Sums.{sum-ext}
use Rattle.base_limits.specs.Meaning.Limits as limits
use Rattle.rules.specs.Meaning.Layout.{zone_counts, order_counts}
use Rattle.rules.specs.Meaning.Hour.{Case, Prices, case_of, prices_of, zone_price, buys, surplus_of, order_surplus, surplus}
use Rattle.base_causes.specs.Meaning.Causes.{each, Pass}
use Rattle.base_causes.proofs.Promised.CauseLaws.{no_less, row-passed, none-zero, field-passes, row-passes, is_cause, row_of, has_cause, before, cause_numbered, number-passes}
use Rattle.rules.specs.Meaning.Verdict.{bad_row, order_fault, case_causes, case_refusal, Readable}
use Rattle.rules.proofs.Steps.Passed.{case-sound}
use Rattle.rules.specs.Meaning.Book.{BookRow, no_row, row_at, price_at, bad_book_row, book_causes, book_refusal, row_surplus, book_surplus, book_answer_by, book_answer}
use Rattle.book_surplus.specs.declared.OrderRow.{OrderRow}
use Rattle.book_surplus.specs.Meaning.BookState.{answered}
use Rattle.book_surplus.specs.Meaning.Lent.{book_row, given, lent_answer}
use Rattle.book_surplus.proofs.Steps.Closing.{no-cause}

-- f 0, f 1, .. below n, as a list
unfoldable pub listed : {A : Type 0} → ℕ → (ℕ → A) → List A
listed zero f = []
listed (suc n) f = f 0 ∷ listed n (λ i. f (suc i))

-- a case's orders as the rows of a book, and its zone prices
unfoldable pub orders_of : Case → List BookRow
orders_of c = listed c.orders (λ i. record { zone = c.zone i; side = c.side i; quantity = c.quantity i; price = c.price i })

unfoldable pub zone_prices_of : Case → Prices → List ℤ
zone_prices_of c d = listed c.zones (zone_price c d)

length-listed : {A : Type 0} (n : ℕ) (f : ℕ → A) → length (listed n f) ≡ n
unfolding listed
length-listed zero f = refl
length-listed (suc n) f = ap suc (length-listed n (λ i. f (suc i)))

getD-listed : {A : Type 0} (n : ℕ) (f : ℕ → A) (i : ℕ) (x : A) → i < n → get_or (listed n f) i x ≡ f i
unfolding listed
getD-listed zero f i x h = absurd (no_less i h)
getD-listed (suc n) f zero x h = refl
getD-listed (suc n) f (suc i) x h = getD-listed n (λ i. f (suc i)) i x (omega arith)

-- in range, by the tests
nor : (a b : Bool) → T (not a) → T (not b) → T (not (a || b))
nor true b s t = absurd s
nor false b s t = t

in-range : (r : Range) (x : ℤ) → Within r x → T (not (outside r x))
unfolding outside
in-range r x w = nor (lt_z x r.least) (lt_z r.greatest x) (not_T (lt_z x r.least) (λ t. clash_ℤ (lt_z_yes t) w.least-le)) (not_T (lt_z r.greatest x) (λ t. clash_ℤ (lt_z_yes t) w.le-greatest))

module _ (s t : List ℕ) (readable : Readable s) (in-limits : (z : ℕ) → z < (case_of s).zones → Within limits.zone_price (zone_price (case_of s) (prices_of s t) z)) where
  abbrev c : Case
  c = case_of s

  abbrev d : Prices
  d = prices_of s t

  abbrev rows : List BookRow
  rows = orders_of c

  abbrev prices : List ℤ
  prices = zone_prices_of c d

  row_is : (i : ℕ) → i < c.orders → row_at rows i ≡ record { zone = c.zone i; side = c.side i; quantity = c.quantity i; price = c.price i }
  unfolding orders_of
  row_is i h = getD-listed c.orders _ i no_row h

  price-is : (z : ℕ) → z < c.zones → price_at prices z ≡ zone_price c d z
  unfolding zone_prices_of
  price-is z h = getD-listed c.zones _ z (pos 0) h

  rows-count : length rows ≡ c.orders
  unfolding orders_of
  rows-count = length-listed c.orders _

  prices-count : length prices ≡ c.zones
  unfolding zone_prices_of
  prices-count = length-listed c.zones _

  -- the case's own rows of the verdict table passed
  passed : (n k : ℕ) → T (has_cause n k (before 0 (case_causes s c))) → Pass (row_of n k (case_causes s c))
  unfolding case_refusal
  passed = row-passed 0 (case_causes s c) (none-zero (case_causes s c) readable.none-holds)

  zones-in : T (not (outside zone_counts (pos c.zones)))
  unfolding case_causes before has_cause row_of is_cause
  zones-in = (passed 4 5 tt).pass 0 (omega arith)

  orders-in : T (not (outside order_counts (pos c.orders)))
  unfolding case_causes before has_cause row_of is_cause
  orders-in = (passed 4 8 tt).pass 0 (omega arith)

  order-in : (i : ℕ) → i < c.orders → T (not (bad_row c.zones (c.zone i) (c.side i) (c.quantity i) (c.price i)))
  unfolding case_refusal case_causes cause_numbered order_fault bad_row
  order-in i h = (number-passes (case_causes s c) readable.none-holds 8).pass i h

  -- so the book's rows pass too
  zones-pass : outside zone_counts (pos (length prices)) ≡ false
  zones-pass = ap (λ (n : ℕ). outside zone_counts (pos n)) prices-count ∙ not_is (outside zone_counts (pos c.zones)) zones-in

  orders-pass : outside order_counts (pos (length rows)) ≡ false
  orders-pass = ap (λ (n : ℕ). outside order_counts (pos n)) rows-count ∙ not_is (outside order_counts (pos c.orders)) orders-in

  row-pass : (i : ℕ) → i < length rows → T (not (bad_book_row rows prices i))
  unfolding bad_book_row
  row-pass i h = let l : i < c.orders = omega (arith, rows-count) in
      subst (λ (b : Bool). T (not b)) (sym (λ j. bad_row (prices-count j) (row_is i l j).zone (row_is i l j).side (row_is i l j).quantity (row_is i l j).price)) (order-in i l)

  price-pass : (z : ℕ) → z < length prices → T (not (outside limits.zone_price (price_at prices z)))
  price-pass z h = let l : z < c.zones = omega (arith, prices-count) in
      subst (λ (x : ℤ). T (not (outside limits.zone_price x))) (sym (price-is z l)) (in-range limits.zone_price (zone_price c d z) (in-limits z l))

  -- NOT REFUSED
  pub accepted : book_refusal rows prices ≡ none
  unfolding book_refusal book_causes
  accepted = field-passes 4 5 _ zones-pass ∙ field-passes 4 8 _ orders-pass ∙ row-passes (each 8 (length rows) (bad_book_row rows prices)) _ (record { pass = row-pass })
      ∙ row-passes (each 25 (length prices) (λ z. outside limits.zone_price (price_at prices z))) [] (record { pass = price-pass }) ∙ no-cause

  -- THE SAME SUM
  order_is : (i : ℕ) → i < c.orders → row_surplus rows prices i ≡ order_surplus c d i
  unfolding row_surplus order_surplus buys
  order_is i h = (λ j. surplus_of (eqb (row_is i h j).side 0) (row_is i h j).quantity (row_is i h j).price (price_at prices (row_is i h j).zone))
      ∙ ap (surplus_of (eqb (c.side i) 0) (c.quantity i) (c.price i)) (price-is (c.zone i) ((case-sound s readable).placed.zone-in i h))

  pub agrees : book_surplus rows prices ≡ surplus c d
  unfolding book_surplus surplus
  agrees = ap (λ (n : ℕ). sum_to n (λ i. row_surplus rows prices i)) rows-count ∙ sum-ext c.orders _ _ order_is

  -- so a host that lends the case's orders gets the judgement's surplus
  pub lent-agrees : (orders : List OrderRow) → map book_row orders ≡ rows → lent_answer orders prices ≡ answered 0 0 (surplus c d)
  unfolding lent_answer book_answer
  lent-agrees orders e = ap (λ (l : List BookRow). given (book_answer l prices)) e ∙ (λ j. given (book_answer_by (agrees j) (accepted j)))
