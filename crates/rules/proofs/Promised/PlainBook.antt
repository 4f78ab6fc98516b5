-- THE LENT BOOK IN PLAIN NUMBERS, both ways: a book is answered with the sum of rule 8 if and only if its counts,
-- rows and prices are within these limits. A refusal, number and index, is given if and only if its cause holds and
-- no cause asked before it does; its sum is 0. Assumes nothing.
use Rattle.std.specs.Prelude.{◌≡◌, Bool, true, false, not, List, eqb, leb, ltb, get_or, ℤ, neg_ℤ, ◌-ℤ◌, ◌*ℤ◌, ◌≤ℤ◌}
use Rattle.std.proofs.Math.Path.{refl, ap, subst}
use Rattle.std.proofs.Common.{sym, arith, leb→le, ltb→lt, T_not}
use Rattle.std.proofs.Math.Option.{Option, none, some}
use Prim.Native.Nat.{ℕ, zero, suc, ◌≤◌, ◌<◌}
use Rattle.std.proofs.Math.Decide.{dec_lt}
use Rattle.std.proofs.Math.Dec.{T, nleb→lt, nltb→le, not_T}
use Rattle.std.proofs.Math.ListN.{length}
use Rattle.std.proofs.Math.IntN.{pos}
use Rattle.base_integers.specs.Meaning.Ranges.{outside}
use Rattle.base_integers.specs.Steps.Ranges.{within, inside, nat-within, nat-inside, is_false}
use Rattle.base_integers.specs.Meaning.Order.{positive}
use Rattle.base_integers.specs.Meaning.Sums.{sum_to}
use Rattle.base_limits.specs.Meaning.Limits as limits
use Rattle.rules.specs.Meaning.Layout.{zone_counts, order_counts, order_fields}
use Rattle.rules.specs.Meaning.Hour.{surplus_of}
use Rattle.base_causes.specs.declared.Outcome.{Outcome}
use Rattle.base_causes.specs.Meaning.Causes.{Cause, Pass, verdict, refusal}
use Rattle.base_causes.proofs.Promised.CauseLaws.{First, no_less, any_none, no_place, empty, CausedBy, caused, cause-refuses, passes_none, all_pass, not-refused, lacks}
use Rattle.rules.specs.Meaning.Verdict.{row_fault, bad_row}
use Rattle.rules.specs.Meaning.Book.{BookRow, row_at, price_at, bad_book_row, book_causes, book_refusal, row_surplus, BookAnswer, book_surplus, book_answer, book_answer_by}

-- how many prices there may be
abbrev pub PricesCounted : List ℤ → Type 0
PricesCounted prices = (1 ≤ length prices) × (length prices ≤ 16)

pub record GoodRow (rows : List BookRow) (prices : List ℤ) (i : ℕ) : Type 0 where
  pub zone-in : (row_at rows i).zone < length prices
  -- 0 buys, 1 sells
  pub side-in : (row_at rows i).side ≤ 1
  -- tenths, and cents
  pub quantity-in : (1 ≤ (row_at rows i).quantity) × ((row_at rows i).quantity ≤ 100000)
  pub price-in : (neg_ℤ (pos 50000) ≤ℤ (row_at rows i).price) × ((row_at rows i).price ≤ℤ pos 400000)

abbrev pub GoodRows : List BookRow → List ℤ → Type 0
GoodRows rows prices = (i : ℕ) → i < length rows → GoodRow rows prices i

-- grains: -50,000 and 400,000 cents
abbrev pub GoodPrice : List ℤ → ℕ → Type 0
GoodPrice prices z = (neg_ℤ (pos 5000000000) ≤ℤ price_at prices z) × (price_at prices z ≤ℤ pos 40000000000)

pub record BookFacts (rows : List BookRow) (prices : List ℤ) : Type 0 where
  pub prices-in : PricesCounted prices
  pub rows_in : length rows ≤ 512
  pub rows-good : GoodRows rows prices
  pub prices-good : (z : ℕ) → z < length prices → GoodPrice prices z

-- the first bad row, and the first bad price
pub record FirstBadRow (rows : List BookRow) (prices : List ℤ) (i : ℕ) : Type 0 where
  pub is_row : i < length rows
  pub not_good : GoodRow rows prices i → ⊥
  pub good-before : (j : ℕ) → j < i → GoodRow rows prices j

pub record FirstBadPrice (prices : List ℤ) (z : ℕ) : Type 0 where
  pub is-price : z < length prices
  pub not_good : GoodPrice prices z → ⊥
  pub good-before : (y : ℕ) → y < z → GoodPrice prices y

-- WHAT IS REFUSED, number and index: 4 index 5 for no price or over 16 prices; else 4 index 8 for over 512 rows;
-- else 8 with the first bad row; else 25 with the first bad price
pub data Refused (rows : List BookRow) (prices : List ℤ) : ℕ → ℕ → Type 0 where
  miscounted-prices : (PricesCounted prices → ⊥) → Refused rows prices 4 5
  many-rows : PricesCounted prices → 512 < length rows → Refused rows prices 4 8
  bad-row : (i : ℕ) → PricesCounted prices → length rows ≤ 512 → FirstBadRow rows prices i → Refused rows prices 8 i
  bad-price : (z : ℕ) → PricesCounted prices → length rows ≤ 512 → GoodRows rows prices → FirstBadPrice prices z → Refused rows prices 25 z

abbrev pub refused_book : ℕ → ℕ → BookAnswer
refused_book number index = record { number = number; index = index; sum = pos 0 }

below-nleb : (m n : ℕ) → n < m → T (not (leb m n))
below-nleb m n h = not_T (leb m n) (λ t. never (leb→le m n t))
  where
    never : m ≤ n → ⊥
    never l = omega arith

within-nltb : (m n : ℕ) → n ≤ m → T (not (ltb m n))
within-nltb m n h = not_T (ltb m n) (λ t. never (ltb→lt m n t))
  where
    never : m < n → ⊥
    never l = omega arith

-- a test that passes only where P holds fails where P does not; a test that passes wherever P holds fails only
-- where P does not
fails_of : {P : Type 0} (b : Bool) → (T (not b) → P) → (P → ⊥) → T b
fails_of true f n = tt
fails_of false f n = absurd (n (f tt))

of-fails : {P : Type 0} (b : Bool) → (P → T (not b)) → T b → P → ⊥
of-fails b f t p = T_not b (f p) t

module _ (rows : List BookRow) (prices : List ℤ) where
  -- EACH TEST passes if and only if its fact holds
  abbrev pub wrong_count : Bool
  wrong_count = outside zone_counts (pos (length prices))

  abbrev wrong_rows : Bool
  wrong_rows = outside order_counts (pos (length rows))

  abbrev pub wrong_price : ℕ → Bool
  wrong_price z = outside limits.zone_price (price_at prices z)

  pub count-passes : PricesCounted prices → T (not wrong_count)
  count-passes c = nat-inside 1 16 (length prices) c.0 c.1

  pub passes_count : T (not wrong_count) → PricesCounted prices
  passes_count t = nat-within 1 16 (length prices) t

  rows_pass : length rows ≤ 512 → T (not wrong_rows)
  rows_pass h = nat-inside 0 512 (length rows) (omega arith) h

  pass-rows : T (not wrong_rows) → length rows ≤ 512
  pass-rows t = (nat-within 0 512 (length rows) t).1

  abbrev fault : ℕ → ℕ → Bool
  fault i = row_fault (length prices) (row_at rows i).zone (row_at rows i).side (row_at rows i).quantity (row_at rows i).price

  good-fields : (i : ℕ) → GoodRow rows prices i → (n : ℕ) → n < order_fields → T (not (fault i n))
  unfolding row_fault
  good-fields i g zero k = below-nleb (length prices) (row_at rows i).zone g.zone-in
  good-fields i g (suc zero) k = within-nltb 1 (row_at rows i).side g.side-in
  good-fields i g (suc (suc zero)) k = nat-inside 1 100000 (row_at rows i).quantity g.quantity-in.0 g.quantity-in.1
  good-fields i g (suc (suc (suc n))) k = inside limits.order_price (row_at rows i).price (record { least-le = g.price-in.0; le-greatest = g.price-in.1 })

  pub good-passes : (i : ℕ) → GoodRow rows prices i → T (not (bad_book_row rows prices i))
  unfolding bad_book_row bad_row
  good-passes i g = is_false (any_none order_fields (fault i) (good-fields i g))

  pub passes-good : (i : ℕ) → T (not (bad_book_row rows prices i)) → GoodRow rows prices i
  unfolding bad_book_row bad_row row_fault
  passes-good i t =
      let ok : (n : ℕ) → n < order_fields → T (not (fault i n)) = no_place order_fields (fault i) t in
      let w = within limits.order_price (row_at rows i).price (ok 3 (omega arith)) in
      record {
        zone-in = nleb→lt (length prices) (row_at rows i).zone (ok 0 (omega arith));
        side-in = nltb→le 1 (row_at rows i).side (ok 1 (omega arith));
        quantity-in = nat-within 1 100000 (row_at rows i).quantity (ok 2 (omega arith));
        price-in = (w.least-le, w.le-greatest);
      }

  pub price-passes : (z : ℕ) → GoodPrice prices z → T (not (wrong_price z))
  price-passes z g = inside limits.zone_price (price_at prices z) (record { least-le = g.0; le-greatest = g.1 })

  pub passes-price : (z : ℕ) → T (not (wrong_price z)) → GoodPrice prices z
  passes-price z t = let w = within limits.zone_price (price_at prices z) t in (w.least-le, w.le-greatest)

  -- THE ROWS OF THE TABLE, from the first: each passes where its fact holds
  abbrev asked : List Cause
  asked = book_causes rows prices

  passes : (i : ℕ) → (i ≡ 0 → PricesCounted prices) → (i ≡ 1 → length rows ≤ 512) → (i ≡ 2 → GoodRows rows prices)
      → (i ≡ 3 → (z : ℕ) → z < length prices → GoodPrice prices z) → Pass (get_or asked i empty)
  unfolding book_causes
  passes zero a b c d = record { pass = λ k h. count-passes (a refl) }
  passes (suc zero) a b c d = record { pass = λ k h. rows_pass (b refl) }
  passes (suc (suc zero)) a b c d = record { pass = λ k h. good-passes k (c refl k h) }
  passes (suc (suc (suc zero))) a b c d = record { pass = λ k h. price-passes k (d refl k h) }
  passes (suc (suc (suc (suc i)))) a b c d = record { pass = λ k h. absurd (no_less k h) }

  facts-none : BookFacts rows prices → book_refusal rows prices ≡ none
  unfolding book_refusal
  facts-none f = passes_none asked (λ i. passes i (λ e. f.prices-in) (λ e. f.rows_in) (λ e. f.rows-good) (λ e. f.prices-good))

  none-facts : book_refusal rows prices ≡ none → BookFacts rows prices
  unfolding book_refusal book_causes
  none-facts e = record {
    prices-in = passes_count ((all_pass asked e 0).pass 0 (omega arith));
    rows_in = pass-rows ((all_pass asked e 1).pass 0 (omega arith));
    rows-good = λ i h. passes-good i ((all_pass asked e 2).pass i h);
    prices-good = λ z h. passes-price z ((all_pass asked e 3).pass z h);
  }

  -- ANSWERED: number 0, index 0 and the sum
  pub book-answers : BookFacts rows prices → book_answer rows prices ≡ record { number = 0; index = 0; sum = book_surplus rows prices }
  unfolding book_answer
  book-answers f = ap (book_answer_by (book_surplus rows prices)) (facts-none f)

  -- only such a book is answered 0; with any other number the sum is 0
  pub book-answered-facts : (book_answer rows prices).number ≡ 0 → BookFacts rows prices
  unfolding book_answer book_refusal book_causes lacks
  book-answered-facts e = none-facts (by (refusal (book_causes rows prices)) refl e)
    where
      by : (o : Option Outcome) → refusal (book_causes rows prices) ≡ o → (book_answer_by (book_surplus rows prices) o).number ≡ 0 → refusal (book_causes rows prices) ≡ none
      by (some x) q z = absurd (not-refused 0 (book_causes rows prices) tt x q z)
      by none q z = q

  pub book-refused-sum : (BookFacts rows prices → ⊥) → (book_answer rows prices).sum ≡ pos 0
  unfolding book_answer book_refusal
  book-refused-sum n = by (book_refusal rows prices) refl
    where
      by : (o : Option Outcome) → book_refusal rows prices ≡ o → (book_answer_by (book_surplus rows prices) o).sum ≡ pos 0
      by (some x) q = refl
      by none q = absurd (n (none-facts q))

  -- REFUSED, for its cause
  at_row : (j k : ℕ) → j < length asked → ((i : ℕ) → i < j → Pass (get_or asked i empty)) → First (get_or asked j empty).places (get_or asked j empty).fails k
      → Refused rows prices (get_or asked j empty).number ((get_or asked j empty).index k)
  unfolding book_causes
  at_row zero k l e f = miscounted-prices (of-fails wrong_count count-passes f.holds)
  at_row (suc zero) k l e f = many-rows (passes_count ((e 0 (omega arith)).pass 0 (omega arith))) (over (of-fails wrong_rows rows_pass f.holds))
    where
      over : (length rows ≤ 512 → ⊥) → 512 < length rows
      over n = elim (dec_lt 512 (length rows)) [ yes h ↦ h | no h ↦ absurd (n (omega (arith, h))) ]
  at_row (suc (suc zero)) k l e f = bad-row k (passes_count ((e 0 (omega arith)).pass 0 (omega arith))) (pass-rows ((e 1 (omega arith)).pass 0 (omega arith)))
      (record { is_row = f.place_in; not_good = of-fails (bad_book_row rows prices k) (good-passes k) f.holds; good-before = λ j h. passes-good j (f.none_before j h) })
  at_row (suc (suc (suc zero))) k l e f = bad-price k (passes_count ((e 0 (omega arith)).pass 0 (omega arith))) (pass-rows ((e 1 (omega arith)).pass 0 (omega arith))) (λ i h. passes-good i ((e 2 (omega arith)).pass i h))
      (record { is-price = f.place_in; not_good = of-fails (wrong_price k) (price-passes k) f.holds; good-before = λ y h. passes-price y (f.none_before y h) })
  at_row (suc (suc (suc (suc j)))) k l e f = absurd (no_less k f.place_in)

  pub book-refused : 0 < (book_answer rows prices).number → Refused rows prices (book_answer rows prices).number (book_answer rows prices).index
  unfolding book_answer book_refusal
  book-refused h = by (refusal asked) refl h
    where
      by : (o : Option Outcome) → refusal asked ≡ o → 0 < (book_answer_by (book_surplus rows prices) o).number
          → Refused rows prices (book_answer_by (book_surplus rows prices) o).number (book_answer_by (book_surplus rows prices) o).index
      by (some x) q l =
          let w = caused asked x q in
          subst (λ (y : Outcome). Refused rows prices y.number y.index) (sym w.is) (at_row w.position w.place w.position_in w.earlier-pass w.first-place)
      by none q l = absurd (no_less 0 l)

  -- where the cause holds the book is refused, with sum 0
  by-cause : (o : Outcome) → CausedBy asked o → book_answer rows prices ≡ refused_book o.number o.index
  unfolding book_answer book_refusal
  by-cause o w = ap (book_answer_by (book_surplus rows prices)) (cause-refuses asked o w)

  pub refused-book : {n k : ℕ} → Refused rows prices n k → book_answer rows prices ≡ refused_book n k
  unfolding book_causes
  refused-book (miscounted-prices n) = by-cause (verdict 4 5) (record {
    position = 0;
    place = 0;
    position_in = omega arith;
    is = refl;
    earlier-pass = λ i l. absurd (no_less i l);
    first-place = record { place_in = omega arith; holds = fails_of wrong_count passes_count n; none_before = λ i l. absurd (no_less i l) };
  })
  refused-book (many-rows c h) = by-cause (verdict 4 8) (record {
    position = 1;
    place = 0;
    position_in = omega arith;
    is = refl;
    earlier-pass = λ i l. passes i (λ e. c) (λ e. absurd (omega arith)) (λ e. absurd (omega arith)) (λ e. absurd (omega arith));
    first-place = record { place_in = omega arith; holds = fails_of wrong_rows pass-rows (λ l. omega (arith, h, l)); none_before = λ i l. absurd (no_less i l) };
  })
  refused-book (bad-row k c r b) = by-cause (verdict 8 k) (record {
    position = 2;
    place = k;
    position_in = omega arith;
    is = refl;
    earlier-pass = λ i l. passes i (λ e. c) (λ e. r) (λ e. absurd (omega arith)) (λ e. absurd (omega arith));
    first-place = record { place_in = b.is_row; holds = fails_of (bad_book_row rows prices k) (passes-good k) b.not_good; none_before = λ i l. good-passes i (b.good-before i l) };
  })
  refused-book (bad-price z c r g b) = by-cause (verdict 25 z) (record {
    position = 3;
    place = z;
    position_in = omega arith;
    is = refl;
    earlier-pass = λ i l. passes i (λ e. c) (λ e. r) (λ e. g) (λ e. absurd (omega arith));
    first-place = record { place_in = b.is-price; holds = fails_of (wrong_price z) (passes-price z) b.not_good; none_before = λ y l. price-passes y (b.good-before y l) };
  })

  -- RULE 8 FOR A ROW, side 0 buying and side 1 selling: quantity times the order price (100,000 grains to the cent)
  -- above the zone price for a buy, below it for a sell; never below zero. The sum is over all rows
  pub bought-row : (i : ℕ) → (row_at rows i).side ≡ 0
      → row_surplus rows prices i ≡ positive (pos (row_at rows i).quantity *ℤ (pos 100000 *ℤ (row_at rows i).price -ℤ price_at prices (row_at rows i).zone))
  unfolding row_surplus surplus_of
  bought-row i e = ap (λ (n : ℕ). surplus_of (eqb n 0) (row_at rows i).quantity (row_at rows i).price (price_at prices (row_at rows i).zone)) e

  pub sold-row : (i : ℕ) → (row_at rows i).side ≡ 1
      → row_surplus rows prices i ≡ positive (pos (row_at rows i).quantity *ℤ (price_at prices (row_at rows i).zone -ℤ pos 100000 *ℤ (row_at rows i).price))
  unfolding row_surplus surplus_of
  sold-row i e = ap (λ (n : ℕ). surplus_of (eqb n 0) (row_at rows i).quantity (row_at rows i).price (price_at prices (row_at rows i).zone)) e

  pub book-sum : book_surplus rows prices ≡ sum_to (length rows) (λ i. row_surplus rows prices i)
  unfolding book_surplus
  book-sum = refl
