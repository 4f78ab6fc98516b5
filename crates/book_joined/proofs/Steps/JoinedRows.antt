-- Two lists of rows joined, in the terms of `rules`. Each row of the joined list is a row of one of the two, so its
-- rows are good and its surplus is the sum of theirs. With good rows, and few, only its prices can refuse a book.
-- Assumes nothing.
use Rattle.std.specs.Prelude.{◌≡◌, Bool, false, not, ◌||◌, ℕ, ◌+◌, ◌-◌, ◌≤◌, ◌<◌, eqb, ℤ, pos, ◌+ℤ◌}
use Rattle.std.proofs.Common.{sym, ◌∙◌, arith, le-ltb, get_or-append-add}
use Rattle.std.proofs.Math.Path.{ap, subst}
use mathlib.Core.List.{List, [], ◌∷◌, ◌++◌}
use Rattle.std.proofs.Math.Option.{Option, none}
use Rattle.std.proofs.Math.Decide.{dec_lt}
use Rattle.std.proofs.Math.Dec.{T}
use Rattle.std.proofs.Math.ListN.{length, length-append, get_or-append}
use Rattle.base_integers.specs.Meaning.Ranges.{outside}
use Rattle.base_integers.specs.Steps.Ranges.{not_is}
use Rattle.base_integers.specs.Meaning.Sums.{sum_to}
use Rattle.base_integers.specs.Steps.Sums.{sum-ext, sum-split}
use Rattle.base_limits.specs.Meaning.Limits as limits
use Rattle.rules.specs.Meaning.Layout.{zone_counts, order_counts}
use Rattle.rules.specs.Meaning.Hour.{surplus_of}
use Rattle.base_causes.specs.declared.Outcome.{Outcome}
use Rattle.base_causes.specs.Meaning.Causes.{Cause, failing, cause_else, refusal, field, each}
use Rattle.base_causes.proofs.Promised.CauseLaws.{field-passes, row-passes}
use Rattle.rules.specs.Meaning.Verdict.{bad_row}
use Rattle.rules.specs.Meaning.Book.{BookRow, row_at, price_at, bad_book_row, book_causes, book_refusal, row_surplus, book_surplus, no_row}
use Rattle.book_joined.specs.Meaning.GoodBook.{GoodPrices}

abbrev pub AllGood : List BookRow → List ℤ → Type 0
AllGood rows prices = (i : ℕ) → i < length rows → T (not (bad_book_row rows prices i))

-- a row's test and its surplus, from the row alone
bad_of : List ℤ → BookRow → Bool
bad_of prices r = bad_row (length prices) r.zone r.side r.quantity r.price

earned : List ℤ → BookRow → ℤ
earned prices r = surplus_of (eqb r.side 0) r.quantity r.price (price_at prices r.zone)

-- a row of the first book, and of the second
module _ (a b : List BookRow) (prices : List ℤ) where
  row_first : (i : ℕ) → i < length a → row_at (a ++ b) i ≡ row_at a i
  row_first i h = get_or-append a b no_row i h

  row-second : (i : ℕ) → row_at (a ++ b) (length a + i) ≡ row_at b i
  row-second i = get_or-append-add a b i no_row

  pub joined-surplus : book_surplus (a ++ b) prices ≡ book_surplus a prices +ℤ book_surplus b prices
  unfolding book_surplus row_surplus earned
  joined-surplus =
      ap (λ (n : ℕ). sum_to n (row_surplus (a ++ b) prices)) (length-append a b)
      ∙ sum-split (length a) (length b) (row_surplus (a ++ b) prices)
      ∙ (λ j. sum-ext (length a) (row_surplus (a ++ b) prices) (row_surplus a prices) (λ i h. ap (earned prices) (row_first i h)) j
      +ℤ sum-ext (length b) (λ i. row_surplus (a ++ b) prices (length a + i)) (row_surplus b prices) (λ i h. ap (earned prices) (row-second i)) j)

  pub joined-good : AllGood a prices → AllGood b prices → AllGood (a ++ b) prices
  unfolding bad_book_row bad_of
  joined-good g h i l = elim (dec_lt i (length a)) [
    | yes k ↦ subst (λ (r : BookRow). T (not (bad_of prices r))) (sym (row_first i k)) (g i k)
    | no k ↦ second (i - length a) (omega arith) (omega (arith, length-append a b))
  ]
    where
      second : (k : ℕ) → length a + k ≡ i → k < length b → T (not (bad_book_row (a ++ b) prices i))
      second k e l = subst (λ (r : BookRow). T (not (bad_of prices r))) (sym (ap (row_at (a ++ b)) (sym e) ∙ row-second k)) (h k l)

-- REFUSED BY THE PRICES ALONE
few : (n : ℕ) → n ≤ 512 → outside order_counts (pos n) ≡ false
unfolding outside
few n h = λ j. le-ltb n 0 (omega arith) j || le-ltb 512 n h j

after-row : (r : Cause) (rs rs' : List Cause) → refusal rs ≡ refusal rs' → refusal (r ∷ rs) ≡ refusal (r ∷ rs')
unfolding refusal
after-row r rs rs' e = ap (cause_else r (failing r)) e

module _ (prices : List ℤ) where
  abbrev price_causes : List Cause
  price_causes = each 25 (length prices) (λ z. outside limits.zone_price (price_at prices z)) ∷ []

  abbrev pub price_refusal : Option Outcome
  price_refusal = refusal (field 4 5 (outside zone_counts (pos (length prices))) ∷ price_causes)

  pub by-prices : (rows : List BookRow) → AllGood rows prices → length rows ≤ 512 → book_refusal rows prices ≡ price_refusal
  unfolding book_refusal book_causes
  by-prices rows g l = after-row (field 4 5 (outside zone_counts (pos (length prices)))) _ price_causes
      (field-passes 4 8 (each 8 (length rows) (bad_book_row rows prices) ∷ price_causes) (few (length rows) l) ∙ row-passes (each 8 (length rows) (bad_book_row rows prices)) price_causes (record { pass = g }))

  pub good-prices : GoodPrices prices → price_refusal ≡ none
  unfolding refusal
  good-prices p = field-passes 4 5 price_causes (not_is (outside zone_counts (pos (length prices))) p.count-in)
      ∙ row-passes (each 25 (length prices) (λ z. outside limits.zone_price (price_at prices z))) [] (record { pass = p.price-in })
