-- THE ANSWER FOR TWO BOOKS JOINED, with at most 512 rows together. Assumes nothing.
use Rattle.std.specs.Prelude.{◌≡◌, List, ◌++◌, ◌+◌, ◌≤◌, length, ℤ, ◌+ℤ◌}
use Rattle.std.proofs.Common.{◌∙◌, arith, length-append}
use Rattle.std.proofs.Math.Path.{ap}
use Rattle.book_surplus.specs.Meaning.Lent.{lent_answer}
use Rattle.book_surplus.specs.declared.OrderRow.{OrderRow}
use Rattle.book_joined.specs.Meaning.GoodBook.{GoodRows}
use Rattle.book_joined.proofs.Steps.JoinedRows.{price_refusal}
use Rattle.book_joined.proofs.Promised.Rows.{earned, answer_with, answer-is, joined-rows-good, surplus-is}

module _ (prices : List ℤ) (a b : List OrderRow) (g : GoodRows a prices) (h : GoodRows b prices) where
  module _ (together : length a + length b ≤ 512) where
    pub joined_is : lent_answer (a ++ b) prices ≡ answer_with prices (earned prices a +ℤ earned prices b) (price_refusal prices)
    joined_is = answer-is prices (a ++ b) (joined-rows-good prices a b g h) (omega (arith, length-append a b)) ∙ ap (λ (x : ℤ). answer_with prices x (price_refusal prices)) (surplus-is prices a b g h)
