-- The table's numbers in the order asked; a refusal is given for its own cause and no other and writes nothing; no
-- cause asked earlier holds. Assumes nothing.
use Rattle.std.specs.Prelude.{◌≡◌, List, [], ◌∷◌, ◌++◌, ℕ, ◌<◌, length, get_or, drop, replicate, T, ℤ, pos}
use Rattle.std.proofs.Math.Path.{refl, ap}
use Rattle.std.proofs.Math.Option.{Option, none, some}
use Rattle.std.proofs.Common.{arith}
use Rattle.base_causes.specs.declared.Outcome.{Outcome}
use Rattle.base_causes.proofs.Promised.Asked.{unnamed, the-place, ask, Asks}
use Rattle.base_causes.specs.Meaning.Causes.{Cause, verdict, answer}
use Rattle.base_causes.proofs.Promised.CauseLaws.{empty, CausedBy, answer-caused, Answered, answered, Soonest, soonest, lacks, zero-none, numbers_below, number-below}
use Rattle.flow_intuitive.specs.Meaning.Intuitive.{intuitive_causes, intuitive_refusal, intuitive_outcome, scratch_by, intuitive_scratch}

module _ (net_exports prices : List ℤ) (pairs : List ℕ) (n room : ℕ) where
  abbrev rows : List Cause
  rows = intuitive_causes net_exports prices pairs n room

  -- 81 to 85, in this order; 82 (except for the sum) and 83 name the zone, 84 the pair
  pub intuitive-order : Asks rows (ask 81 unnamed ∷ ask 82 the-place ∷ ask 82 unnamed ∷ ask 83 the-place ∷ ask 84 the-place ∷ ask 85 unnamed ∷ [])
  unfolding intuitive_causes
  intuitive-order = (refl, (λ k. refl, (refl, (λ k. refl, (refl, (λ k. refl, (refl, (λ k. refl, (refl, (λ k. refl, (refl, (λ k. refl, tt))))))))))))

  -- 0 if and only if every row passes at every place, else the first row that fails, at its first place
  pub intuitive-answers : Answered rows (intuitive_outcome net_exports prices pairs n room)
  unfolding intuitive_outcome intuitive_refusal intuitive_causes lacks
  intuitive-answers = answered rows tt

  -- a refusal has a row of its number that fails at its place, and nothing asked before fails
  pub intuitive-caused : 0 < (intuitive_outcome net_exports prices pairs n room).number → CausedBy rows (intuitive_outcome net_exports prices pairs n room)
  unfolding intuitive_outcome intuitive_refusal
  intuitive-caused h = answer-caused rows h

  -- if a cause holds, in row j at place k, it is not asked before the outcome's
  pub intuitive-first : (j k : ℕ) → k < (get_or rows j empty).places → T ((get_or rows j empty).fails k) → Soonest rows (intuitive_outcome net_exports prices pairs n room) j k
  unfolding intuitive_outcome intuitive_refusal
  intuitive-first j k h f = soonest rows j k h f

  -- the answer 0 has index 0 and is given where no row fails; no number is above 85
  pub intuitive-none : (intuitive_outcome net_exports prices pairs n room).number ≡ 0 → intuitive_refusal net_exports prices pairs n room ≡ none
  unfolding intuitive_outcome intuitive_refusal intuitive_causes lacks
  intuitive-none e = zero-none rows tt e

  pub intuitive-answered : (intuitive_outcome net_exports prices pairs n room).number ≡ 0 → intuitive_outcome net_exports prices pairs n room ≡ verdict 0 0
  unfolding intuitive_outcome
  intuitive-answered e = ap answer (intuitive-none e)

  pub intuitive-below : (intuitive_outcome net_exports prices pairs n room).number < 86
  unfolding intuitive_outcome intuitive_refusal intuitive_causes numbers_below
  intuitive-below = number-below 86 rows (omega arith) tt

module _ (net_exports prices : List ℤ) (pairs : List ℕ) (n : ℕ) (s : List ℤ) where
  -- a refusal leaves every number of the scratch unchanged
  pub scratch-refused : 0 < (intuitive_outcome net_exports prices pairs n (length s)).number → intuitive_scratch net_exports prices pairs n s ≡ s
  unfolding intuitive_outcome intuitive_scratch
  scratch-refused h = by (intuitive_refusal net_exports prices pairs n (length s)) h
    where
      by : (o : Option Outcome) → 0 < (answer o).number → scratch_by o n s ≡ s
      by (some x) h = refl
      by none h = absurd (omega arith)

  -- after an answer the first n numbers are zero, and all past them unchanged
  pub scratch-answered : (intuitive_outcome net_exports prices pairs n (length s)).number ≡ 0 → intuitive_scratch net_exports prices pairs n s ≡ replicate n (pos 0) ++ drop n s
  unfolding intuitive_scratch
  scratch-answered e = ap (λ (o : Option Outcome). scratch_by o n s) (intuitive-none net_exports prices pairs n (length s) e)
