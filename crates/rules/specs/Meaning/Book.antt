-- An order book lent in memory: rows with zone, side, quantity and price, and zone prices in grains. Its refusals
-- as a table of causes, and its sum of rule 8. Assumes nothing.
use Rattle.std.specs.Prelude.{Bool, List, [], ◌∷◌, ℕ, length, get_or, eqb, ℤ, pos}
use Rattle.std.proofs.Math.Option.{Option, none, some}
use Rattle.base_integers.specs.Meaning.Ranges.{outside}
use Rattle.base_integers.specs.Meaning.Sums.{sum_to}
use Rattle.base_limits.specs.Meaning.Limits as limits
use Rattle.rules.specs.Meaning.Layout.{zone_counts, order_counts}
use Rattle.rules.specs.Meaning.Hour.{surplus_of}
use Rattle.base_causes.specs.declared.Outcome.{Outcome}
use Rattle.base_causes.specs.Meaning.Causes.{Cause, refusal, field, each}
use Rattle.rules.specs.Meaning.Verdict.{bad_row}

pub record BookRow : Type 0 where
  pub zone : ℕ
  pub side : ℕ
  pub quantity : ℕ
  pub price : ℤ

-- the row past the last; nothing reads it
abbrev pub no_row : BookRow
no_row = record { zone = 0; side = 0; quantity = 0; price = pos 0 }

abbrev pub row_at : List BookRow → ℕ → BookRow
row_at rows i = get_or rows i no_row

abbrev pub price_at : List ℤ → ℕ → ℤ
price_at prices z = get_or prices z (pos 0)

unfoldable pub bad_book_row : List BookRow → List ℤ → ℕ → Bool
bad_book_row rows prices i = bad_row (length prices) (row_at rows i).zone (row_at rows i).side (row_at rows i).quantity (row_at rows i).price

-- 4 index 5 for no price or over 16 prices, 4 index 8 for over 512 rows, then 8 with the row (also after S-2), then
-- 25 with the zone
unfoldable pub book_causes : List BookRow → List ℤ → List Cause
book_causes rows prices =
    field 4 5 (outside zone_counts (pos (length prices)))
    ∷ field 4 8 (outside order_counts (pos (length rows)))
    ∷ each 8 (length rows) (bad_book_row rows prices)
    ∷ each 25 (length prices) (λ z. outside limits.zone_price (price_at prices z))
    ∷ []

unfoldable pub book_refusal : List BookRow → List ℤ → Option Outcome
book_refusal rows prices = refusal (book_causes rows prices)

-- rule 8 of one row
unfoldable pub row_surplus : List BookRow → List ℤ → ℕ → ℤ
row_surplus rows prices i = surplus_of (eqb (row_at rows i).side 0) (row_at rows i).quantity (row_at rows i).price (price_at prices (row_at rows i).zone)

unfoldable pub book_surplus : List BookRow → List ℤ → ℤ
book_surplus rows prices = sum_to (length rows) (λ i. row_surplus rows prices i)

-- THE ANSWER: number, index and sum; a refusal's sum is 0
pub record BookAnswer : Type 0 where
  pub number : ℕ
  pub index : ℕ
  pub sum : ℤ

abbrev pub book_answer_by : ℤ → Option Outcome → BookAnswer
book_answer_by sum (some o) = record { number = o.number; index = o.index; sum = pos 0 }
book_answer_by sum none = record { number = 0; index = 0; sum = sum }

unfoldable pub book_answer : List BookRow → List ℤ → BookAnswer
book_answer rows prices = book_answer_by (book_surplus rows prices) (book_refusal rows prices)
