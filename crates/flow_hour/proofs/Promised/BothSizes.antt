-- BOTH SIZES OF SCRATCH GIVE AN HOUR ONE ANSWER (S-13). In any two results that meet the two contracts with number
-- 0, the yes or no and the total are equal. What the wide entry takes, the smaller takes too. Every refusal except
-- 85 is the same. Assumes nothing.
use Rattle.std.specs.Prelude.{◌≡◌, ℕ, ◌≤◌, ◌<◌, length, ℤ}
use Rattle.std.proofs.Common.{sym, ◌∙◌, arith}
use Rattle.std.proofs.Math.Path.{ap}
use mathlib.Core.List.{List, ◌++◌}
use Rattle.std.proofs.Math.Option.{none}
use Rattle.std.proofs.Math.Decide.{dec_lt}
use Rattle.base_causes.specs.declared.Outcome.{Outcome}
use Rattle.base_causes.specs.Meaning.Causes.{Cause, refusal, answer}
use Rattle.base_causes.proofs.Promised.CauseLaws.{lacks, later}
use Rattle.rules.specs.Meaning.Layout.{report_room}
use Rattle.rules.specs.Meaning.Hour.{case_of, plan_of, prices_of}
use Rattle.rules.specs.Meaning.Verdict.{room_causes, case_causes, proposal_causes, clearing_causes, table, outcome}
use Rattle.flow_intuitive.specs.declared.Carried.{Carried}
use Rattle.flow_intuitive.specs.Meaning.Intuitive.{scratch_room, intuitive_causes, intuitive_refusal, intuitive_outcome}
use Rattle.flow_intuitive.specs.Meaning.SmallScratch.{small_room}
use Rattle.flow_intuitive.proofs.Promised.Causes.{intuitive-none}
use Rattle.flow_intuitive.proofs.Promised.BothSizes.{entries-agree, same_rows, refused-alike}
use Rattle.flow_intuitive.proofs.Steps.Sizes.{placed, room_in}
use Rattle.flow_hour.specs.Meaning.Hour.{hour_exports, hour_prices, hour_network, asked_causes, hour_outcome, HourAnswer}
use Rattle.flow_hour.proofs.Promised.Asked.{not-accepted, accepted-asks}

module _ (s t pairs : List ℕ) where
  abbrev judged : List Cause
  judged = table none s t report_room (case_of s) (plan_of s t) (prices_of s t)

  -- if an hour is answered, so are its exports, prices and pairs
  pub answered : (n room : ℕ) → (hour_outcome s t pairs n room).number ≡ 0 → intuitive_refusal (hour_exports s t) (hour_prices s t) pairs n room ≡ none
  unfolding hour_outcome asked_causes intuitive_outcome intuitive_refusal table room_causes case_causes proposal_causes clearing_causes lacks
  answered n room e = intuitive-none (hour_exports s t) (hour_prices s t) pairs n room (later 0 judged (intuitive_causes (hour_exports s t) (hour_prices s t) pairs n room) tt e).then-second

  -- YES OR NO AND THE TOTAL ARE EQUAL on each hour that both take, with any scratches
  pub answers_agree : (a b : List ℤ) (r q : Carried) (a' b' : List ℤ) → HourAnswer s t pairs scratch_room a r a' → HourAnswer s t pairs small_room b q b' → r.number ≡ 0 → q.number ≡ 0
      → (r.intuitive ≡ q.intuitive) × (r.total.0 ≡ q.total.0)
  answers_agree a b r q a' b' x y e f =
      let taken = answered scratch_room (length a) (sym (ap (λ (o : Outcome). o.number) x.outcome) ∙ e) in
      entries-agree (hour_network s t pairs) (placed (hour_exports s t) (hour_prices s t) pairs scratch_room (length a) taken) _ _ _ _ r q a' b' x y e f

  -- WHAT IS TAKEN: with a scratch that the wide entry takes, both answer alike, refused or not
  pub wide-is-small : (room : ℕ) → scratch_room ≤ room → hour_outcome s t pairs small_room room ≡ hour_outcome s t pairs scratch_room room
  unfolding hour_outcome asked_causes
  wide-is-small room h = ap (λ (rows : List Cause). answer (refusal (judged ++ rows))) (same_rows (hour_exports s t) (hour_prices s t) pairs small_room scratch_room room room (omega arith) h)

  pub small-takes : (room : ℕ) → (hour_outcome s t pairs scratch_room room).number ≡ 0 → (hour_outcome s t pairs small_room room).number ≡ 0
  small-takes room e = ap (λ (o : Outcome). o.number) (wide-is-small room (room_in (hour_exports s t) (hour_prices s t) pairs scratch_room room (answered scratch_room room e))) ∙ e

  -- EVERY REFUSAL EXCEPT 85, with any scratch, including the index
  pub refused-but-85 : (m n room other : ℕ) → 0 < (hour_outcome s t pairs m room).number → (hour_outcome s t pairs m room).number < 85 → hour_outcome s t pairs n other ≡ hour_outcome s t pairs m room
  refused-but-85 m n room other h l = by (dec_lt 0 (outcome s t report_room).number)
    where
      by : Dec (0 < (outcome s t report_room).number) → hour_outcome s t pairs n other ≡ hour_outcome s t pairs m room
      by (yes k) = not-accepted s t pairs n other k ∙ sym (not-accepted s t pairs m room k)
      by (no k) =
          let e : (outcome s t report_room).number ≡ 0 = omega arith in
          let a = accepted-asks s t pairs m room e in
          accepted-asks s t pairs n other e ∙ refused-alike (hour_exports s t) (hour_prices s t) pairs m n room other (rw a at h) (rw a at l) ∙ sym a
