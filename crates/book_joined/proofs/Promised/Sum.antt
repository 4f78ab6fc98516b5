-- THE SUM OF TWO BOOKS JOINED, at any prices. Assumes nothing.
use Rattle.std.specs.Prelude.{◌≡◌, refl, List, ◌++◌, ◌+◌, ◌≤◌, length, ℤ, ◌+ℤ◌}
use Rattle.std.proofs.Common.{sym, ◌∙◌, arith}
use Rattle.std.proofs.Math.Option.{Option, none, some}
use Rattle.base_causes.specs.declared.Outcome.{Outcome}
use Rattle.book_surplus.specs.declared.OrderRow.{OrderRow}
use Rattle.book_joined.specs.Meaning.GoodBook.{GoodRows}
use Rattle.book_joined.proofs.Steps.JoinedRows.{price_refusal}
use Rattle.book_joined.proofs.Promised.Rows.{sum_of, earned, answer_with, answer-is}
use Rattle.book_joined.proofs.Promised.Together.{joined_is}

module _ (prices : List ℤ) (a b : List OrderRow) (g : GoodRows a prices) (h : GoodRows b prices) (together : length a + length b ≤ 512) where
  -- THE SUM, at any prices
  pub joined-sum : sum_of (a ++ b) prices ≡ sum_of a prices +ℤ sum_of b prices
  joined-sum = (λ j. (joined_is prices a b g h together j).sum.0) ∙ split (earned prices a) (earned prices b) (price_refusal prices)
      ∙ (λ j. (sym (answer-is prices a g (omega arith)) j).sum.0 +ℤ (sym (answer-is prices b h (omega arith)) j).sum.0)
    where
      split : (x y : ℤ) (o : Option Outcome) → (answer_with prices (x +ℤ y) o).sum.0 ≡ (answer_with prices x o).sum.0 +ℤ (answer_with prices y o).sum.0
      split x y none = refl
      split x y (some o) = refl
