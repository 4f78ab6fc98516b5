-- TWO BOOKS OF GOOD ROWS JOINED have good rows, and earn the sum of what each earns. Assumes nothing.
use Rattle.std.specs.Prelude.{◌≡◌, refl, List, [], ◌∷◌, ◌++◌, map, ◌≤◌, length, ℤ, ◌+ℤ◌}
use Rattle.std.proofs.Common.{sym, subst, ◌∙◌, arith}
use Rattle.std.proofs.Math.Path.{ap}
use Rattle.std.proofs.Math.Option.{Option}
use Rattle.std.proofs.Math.ListN.{length-map}
use Rattle.base_causes.specs.declared.Outcome.{Outcome}
use Rattle.rules.specs.Meaning.Book.{BookRow, book_surplus, book_answer_by, book_answer}
use Rattle.book_surplus.specs.Meaning.Lent.{book_row, given, lent_answer}
use Rattle.book_surplus.specs.declared.OrderRow.{OrderRow}
use Rattle.book_surplus.specs.declared.Surplus.{Surplus}
use Rattle.book_joined.specs.Meaning.GoodBook.{GoodRows}
use Rattle.book_joined.proofs.Steps.JoinedRows.{AllGood, joined-surplus, joined-good, price_refusal, by-prices}

map-joined : (a b : List OrderRow) → map book_row (a ++ b) ≡ map book_row a ++ map book_row b
map-joined [] b = refl
map-joined (o ∷ a) b = ap (λ (l : List BookRow). book_row o ∷ l) (map-joined a b)

abbrev pub sum_of : List OrderRow → List ℤ → ℤ
sum_of orders prices = (lent_answer orders prices).sum.0

module _ (prices : List ℤ) where
  -- the surplus of a book, and the answer with it
  abbrev pub earned : List OrderRow → ℤ
  earned orders = book_surplus (map book_row orders) prices

  abbrev pub answer_with : ℤ → Option Outcome → Surplus
  answer_with x o = given (book_answer_by x o)

  -- the answer for one book of good rows
  pub answer-is : (orders : List OrderRow) → GoodRows orders prices → length orders ≤ 512 → lent_answer orders prices ≡ answer_with (earned orders) (price_refusal prices)
  unfolding lent_answer book_answer
  answer-is orders g l = ap (λ (o : Option Outcome). answer_with (earned orders) o) (by-prices prices (map book_row orders) g.good (omega (arith, length-map orders book_row)))

  module _ (a b : List OrderRow) (g : GoodRows a prices) (h : GoodRows b prices) where
    -- ITS ROWS ARE GOOD
    pub joined-rows-good : GoodRows (a ++ b) prices
    joined-rows-good = record { good = subst (λ (l : List BookRow). AllGood l prices) (sym (map-joined a b)) (joined-good (map book_row a) (map book_row b) prices g.good h.good) }

    pub surplus-is : earned (a ++ b) ≡ earned a +ℤ earned b
    surplus-is = ap (λ (l : List BookRow). book_surplus l prices) (map-joined a b) ∙ joined-surplus (map book_row a) (map book_row b) prices
