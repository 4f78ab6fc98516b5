-- THE SURPLUS OF TWO BOOKS JOINED IS THE SUM OF THEIRS (request S-9), in the entry's own answer: for good rows at
-- the same prices, at most 512 together, in either order. Where the prices are refused all three sums are 0, so the
-- law of the sums needs no good prices. Assumes nothing.
use Rattle.std.specs.Prelude.{◌≡◌, List, ◌++◌, map, ◌+◌, ◌≤◌, length, ℤ, ◌+ℤ◌}
use Rattle.std.proofs.Common.{sym, ◌∙◌, arith}
use Rattle.std.proofs.Math.Path.{ap}
use Rattle.std.proofs.Math.Option.{Option, none}
use Rattle.base_integers.specs.Steps.Difference.{at, ◌⊕◌, eq-by}
use Rattle.base_causes.specs.declared.Outcome.{Outcome}
use Rattle.base_causes.specs.Meaning.Causes.{refusal}
use Rattle.base_causes.proofs.Promised.CauseLaws.{is_cause, row_of, lacks, zero-none, cause_numbered, number-passes, field-at-passes}
use Rattle.rules.proofs.Promised.Causes.{book-outcome}
use Rattle.rules.specs.Meaning.Book.{book_causes, book_refusal}
use Rattle.book_surplus.specs.Meaning.Lent.{book_row, lent_answer}
use Rattle.book_surplus.specs.Meaning.BookState.{answered}
use Rattle.book_surplus.specs.declared.OrderRow.{OrderRow}
use Rattle.book_joined.specs.Meaning.GoodBook.{GoodRows, GoodPrices}
use Rattle.book_joined.proofs.Steps.JoinedRows.{price_refusal, good-prices}
use Rattle.book_joined.proofs.Promised.Rows.{sum_of, earned, answer_with}
use Rattle.book_joined.proofs.Promised.Together.{joined_is}
use Rattle.book_joined.proofs.Promised.Sum.{joined-sum}

module _ (prices : List ℤ) (a b : List OrderRow) (g : GoodRows a prices) (h : GoodRows b prices) (together : length a + length b ≤ 512) where
  -- THE ANSWER, at good prices: number 0, index 0 and the sum of both sums
  pub joined-answer : GoodPrices prices → lent_answer (a ++ b) prices ≡ answered 0 0 (sum_of a prices +ℤ sum_of b prices)
  joined-answer p = (λ j. record { number = (accepted j).number; index = (accepted j).index; sum = record { 0 = joined-sum prices a b g h together j } })
    where
      accepted : lent_answer (a ++ b) prices ≡ answered 0 0 (earned prices a +ℤ earned prices b)
      accepted = joined_is prices a b g h together ∙ ap (λ (o : Option Outcome). answer_with prices (earned prices a +ℤ earned prices b) o) (good-prices prices p)

-- IN EITHER ORDER, at any prices
pub either_order : (prices : List ℤ) (a b : List OrderRow) → GoodRows a prices → GoodRows b prices → length a + length b ≤ 512
    → lent_answer (b ++ a) prices ≡ lent_answer (a ++ b) prices
either_order prices a b g h l =
    let turned = eq-by (at (earned prices b) ⊕ at (earned prices a)) (at (earned prices a) ⊕ at (earned prices b)) (omega arith) in
    joined_is prices b a h g (omega arith) ∙ ap (λ (x : ℤ). answer_with prices x (price_refusal prices)) turned ∙ sym (joined_is prices a b g h l)

-- FOR A HOST: two books that are answered 0 at the same prices, with at most 512 rows together, are answered 0
-- joined
pub accepted-good : (prices : List ℤ) (orders : List OrderRow) → (lent_answer orders prices).number ≡ 0 → GoodRows orders prices × GoodPrices prices
unfolding lent_answer book_refusal book_causes lacks cause_numbered row_of is_cause
accepted-good prices orders e =
    let rows = book_causes (map book_row orders) prices in
    let passed : refusal rows ≡ none = zero-none rows tt (sym (ap (λ (o : Outcome). o.number) (book-outcome (map book_row orders) prices)) ∙ e) in (
      record { good = (number-passes rows passed 8).pass },
      record { count-in = (field-at-passes rows passed 4 5).pass 0 (omega arith); price-in = (number-passes rows passed 25).pass },
    )

pub accepted-joined : (prices : List ℤ) (a b : List OrderRow) → (lent_answer a prices).number ≡ 0 → (lent_answer b prices).number ≡ 0 → length a + length b ≤ 512
    → lent_answer (a ++ b) prices ≡ answered 0 0 (sum_of a prices +ℤ sum_of b prices)
accepted-joined prices a b e f l = joined-answer prices a b (accepted-good prices a e).0 (accepted-good prices b f).0 l (accepted-good prices a e).1
