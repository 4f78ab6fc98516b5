-- The verdict table: the order in which its numbers are asked; a refusal is given for its own cause and no other;
-- no cause asked earlier holds. Assumes nothing.
use Rattle.std.specs.Prelude.{◌≡◌, refl, not, cond, List, [], ◌∷◌, ◌++◌, map, ℕ, ◌<◌, get_or, drop, T, eqb, ◌<ℤ◌, ℤ, pos}
use Rattle.std.proofs.Math.Option.{Option, none, some}
use Rattle.std.proofs.Common.{arith}
use Rattle.std.specs.Int.Signed.{lt_z_yes}
use Rattle.base_limits.specs.Meaning.Limits as limits
use Rattle.rules.specs.Meaning.Hour.{Case, Plan, Prices, case_of, plan_of, prices_of, gap}
use Rattle.base_causes.specs.declared.Outcome.{Outcome}
use Rattle.base_causes.proofs.Promised.Asked.{unnamed, at_offset, the-place, a-field, Asked, ask, Asks, asks, ascending}
use Rattle.base_causes.specs.Meaning.Causes.{Cause, verdict, answer}
use Rattle.base_causes.proofs.Promised.CauseLaws.{empty, Answered, answered, Soonest, soonest, lacks, numbers_below, number-below, before, cause_numbered, row-by-number}
use Rattle.rules.specs.Meaning.Book.{BookRow, book_causes, book_refusal, book_surplus, book_answer, book_answer_by}
use Rattle.rules.specs.Meaning.Verdict.{room_causes, case_causes, proposal_causes, clearing_causes, table, outcome, family_outcome}

-- 30 is asked first. Then the numbers ascend, and within a number the offsets; only 27 is out of turn, between 22
-- and 23 (S-6)
unfoldable pub asked : List Asked
asked =
    ask 30 unnamed
    ∷ ask 1 unnamed
    ∷ ask 2 unnamed
    ∷ ask 3 unnamed
    ∷ ask 4 (at_offset 5)
    ∷ ask 4 (at_offset 6)
    ∷ ask 4 (at_offset 7)
    ∷ ask 4 (at_offset 8)
    ∷ ask 4 (at_offset 10)
    ∷ ask 5 unnamed
    ∷ ask 6 a-field
    ∷ ask 7 a-field
    ∷ ask 8 a-field
    ∷ ask 9 unnamed
    ∷ ask 10 unnamed
    ∷ ask 11 unnamed
    ∷ ask 12 unnamed
    ∷ ask 13 unnamed
    ∷ ask 14 a-field
    ∷ ask 15 unnamed
    ∷ ask 21 the-place
    ∷ ask 22 unnamed
    ∷ ask 27 unnamed
    ∷ ask 23 the-place
    ∷ ask 24 the-place
    ∷ ask 25 the-place
    ∷ ask 26 unnamed
    ∷ []

-- the rows without that of a number, those before it, and those from it on
unfoldable pub without : ℕ → List Asked → List Asked
without n [] = []
without n (a ∷ rest) = cond (eqb a.number n) (without n rest) (a ∷ without n rest)

unfoldable pub until : ℕ → List Asked → List Asked
until n [] = []
until n (a ∷ rest) = cond (eqb a.number n) [] (a ∷ until n rest)

unfoldable pub from : ℕ → List Asked → List Asked
from n [] = []
from n (a ∷ rest) = cond (eqb a.number n) (a ∷ rest) (from n rest)

-- THE ORDER: after 30, only 27 is out of turn. Without it the numbers ascend, with it they do not; it stands
-- between 22 and 23
pub others-ascending : T (ascending (without 27 (drop 1 asked)))
unfolding asked without ascending
others-ascending = tt

pub not-in-turn : T (not (ascending (drop 1 asked)))
unfolding asked ascending
not-in-turn = tt

pub between-22-and-23 : map (λ (a : Asked). a.number) (until 24 (from 22 asked)) ≡ 22 ∷ 27 ∷ 23 ∷ []
unfolding asked until from
between-22-and-23 = refl

pub table-order : (s t : List ℕ) (room : ℕ) (c : Case) (p : Plan) (d : Prices) → Asks (table none s t room c p d) asked
unfolding table room_causes case_causes proposal_causes clearing_causes asked
table-order s t room c p d = asks (table none s t room c p d) asked refl

-- without a family list and with one: no row has the number 0, and every number is below 256
no_zero : (fs : Option (List ℕ)) (s t : List ℕ) (room : ℕ) (c : Case) (p : Plan) (d : Prices) → T (lacks 0 (table fs s t room c p d))
unfolding table room_causes case_causes proposal_causes clearing_causes lacks
no_zero none s t room c p d = tt
no_zero (some f) s t room c p d = tt

small-numbers : (fs : Option (List ℕ)) (s t : List ℕ) (room : ℕ) (c : Case) (p : Plan) (d : Prices) → T (numbers_below 256 (table fs s t room c p d))
unfolding table room_causes case_causes proposal_causes clearing_causes numbers_below
small-numbers none s t room c p d = tt
small-numbers (some f) s t room c p d = tt

module _ (s t : List ℕ) (room : ℕ) where
  abbrev rows : List Cause
  rows = table none s t room (case_of s) (plan_of s t) (prices_of s t)

  -- 0 IF AND ONLY IF EVERY ROW PASSES at every place; else the first row that fails, at its first place. So no
  -- other cause gives an answer.
  pub outcome-answered : Answered rows (outcome s t room)
  unfolding outcome
  outcome-answered = answered rows (no_zero none s t room (case_of s) (plan_of s t) (prices_of s t))

  -- if a cause holds, in row j at place k, then it is not asked before the outcome's cause: rows in the order of
  -- `asked`, then places from the first
  pub outcome-first : (j k : ℕ) → k < (get_or rows j empty).places → T ((get_or rows j empty).fails k) → Soonest rows (outcome s t room) j k
  unfolding outcome
  outcome-first j k h f = soonest rows j k h f

  -- the answer 0 has index 0
  pub accepted-is : (outcome s t room).number ≡ 0 → outcome s t room ≡ verdict 0 0
  accepted-is e = outcome-answered.passes-zero (outcome-answered.zero-passes e)

  -- a number is below 256, so number + 256 * index determines both
  pub outcome-below : (outcome s t room).number < 256
  unfolding outcome
  outcome-below = number-below 256 rows (omega arith) (small-numbers none s t room (case_of s) (plan_of s t) (prices_of s t))

  -- 26: the gap is above the tolerance
  pub over-tolerance : (outcome s t room).number ≡ 26 → limits.microcents_of (pos (case_of s).tolerance) <ℤ gap (case_of s) (plan_of s t) (prices_of s t)
  unfolding outcome table room_causes case_causes proposal_causes clearing_causes lacks before cause_numbered
  over-tolerance e = lt_z_yes (row-by-number 26 rows (omega arith) tt tt e).first-place.holds

-- WITH A FAMILY LIST (S-11): 16 to 18 after 14 and 15, and 28 after 21. In this order only 27 and 28 are out of
-- turn
unfoldable pub family_asked : List Asked
family_asked = until 21 asked ++ (ask 16 unnamed ∷ ask 17 the-place ∷ ask 18 the-place ∷ []) ++ until 22 (from 21 asked) ++ (ask 28 the-place ∷ from 22 asked)

pub family-numbers : map (λ (a : Asked). a.number) (from 14 family_asked) ≡ 14 ∷ 15 ∷ 16 ∷ 17 ∷ 18 ∷ 21 ∷ 28 ∷ 22 ∷ 27 ∷ 23 ∷ 24 ∷ 25 ∷ 26 ∷ []
unfolding family_asked asked until from
family-numbers = refl

pub family-order : (s t f : List ℕ) (room : ℕ) (c : Case) (p : Plan) (d : Prices) → Asks (table (some f) s t room c p d) family_asked
unfolding table room_causes case_causes proposal_causes clearing_causes family_asked asked until from
family-order s t f room c p d = asks (table (some f) s t room c p d) family_asked refl

module _ (s t f : List ℕ) (room : ℕ) where
  abbrev family-rows : List Cause
  family-rows = table (some f) s t room (case_of s) (plan_of s t) (prices_of s t)

  pub family-answered : Answered family-rows (family_outcome s t f room)
  unfolding family_outcome
  family-answered = answered family-rows (no_zero (some f) s t room (case_of s) (plan_of s t) (prices_of s t))

  pub family-first : (j k : ℕ) → k < (get_or family-rows j empty).places → T ((get_or family-rows j empty).fails k) → Soonest family-rows (family_outcome s t f room) j k
  unfolding family_outcome
  family-first j k h q = soonest family-rows j k h q

  pub family-accepted-is : (family_outcome s t f room).number ≡ 0 → family_outcome s t f room ≡ verdict 0 0
  family-accepted-is e = family-answered.passes-zero (family-answered.zero-passes e)

  pub family-below : (family_outcome s t f room).number < 256
  unfolding family_outcome
  family-below = number-below 256 family-rows (omega arith) (small-numbers (some f) s t room (case_of s) (plan_of s t) (prices_of s t))

-- THE LENT BOOK, whose refusals are rows of the same kind
unfoldable pub book_asked : List Asked
book_asked = ask 4 (at_offset 5) ∷ ask 4 (at_offset 8) ∷ ask 8 the-place ∷ ask 25 the-place ∷ []

pub book-order : (rows : List BookRow) (prices : List ℤ) → Asks (book_causes rows prices) book_asked
unfolding book_causes book_asked
book-order rows prices = asks (book_causes rows prices) book_asked refl

pub book-ascending : T (ascending book_asked)
unfolding book_asked ascending
book-ascending = tt

-- 0 if and only if no row refuses, else the first that does, at its first place
pub book-answered : (rows : List BookRow) (prices : List ℤ) → Answered (book_causes rows prices) (answer (book_refusal rows prices))
unfolding book_refusal book_causes lacks
book-answered rows prices = answered (book_causes rows prices) tt

-- the answer is that outcome, with the sum of rule 8 where no row refuses, and zero where one does
pub book-outcome : (rows : List BookRow) (prices : List ℤ) → verdict (book_answer rows prices).number (book_answer rows prices).index ≡ answer (book_refusal rows prices)
unfolding book_answer
book-outcome rows prices = by (book_refusal rows prices)
  where
    by : (o : Option Outcome) → verdict (book_answer_by (book_surplus rows prices) o).number (book_answer_by (book_surplus rows prices) o).index ≡ answer o
    by (some o) = refl
    by none = refl
