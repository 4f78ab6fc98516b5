-- Wide tolerances (S-12): what 15 says, and that no reader refuses by it. Assumes nothing.
use Rattle.std.specs.Prelude.{◌≡◌, refl, Bool, true, false, List, ◌++◌, ℕ, ◌≤◌, ◌<◌, T, pos}
use Rattle.std.proofs.Math.Path.{ap}
use Rattle.std.proofs.Common.{◌∙◌, arith, le-ltb, T_not}
use Rattle.std.proofs.Math.Option.{Option, none, some}
use Rattle.std.proofs.Math.Decide.{dec_lt}
use Rattle.base_integers.specs.Meaning.Ranges.{outside}
use Rattle.base_integers.specs.Steps.Ranges.{is_false, nat-within, nat-inside}
use Rattle.base_limits.specs.Meaning.Limits as limits
use Rattle.rules.specs.Meaning.Layout.{report_room}
use Rattle.rules.specs.Meaning.Hour.{Case, Plan, Prices, case_of, plan_of, prices_of}
use Rattle.base_causes.specs.declared.Outcome.{Outcome}
use Rattle.base_causes.specs.Meaning.Causes.{Cause, Pass, verdict, refusal, answer}
use Rattle.base_causes.proofs.Promised.CauseLaws.{else-refusal, refusal-append, row-found, field-passes, once-fails, lacks, before, cause_numbered, row-by-number}
use Rattle.rules.specs.Meaning.Verdict.{room_causes, case_causes, proposal_causes, wide_tolerance, clearing_causes, judgement_causes, table, outcome, family_outcome, Readable, case_refusal, proposal_refusal}

-- above 10,000 cents, the paper's number; 10,000 itself passes
above : (cents : ℕ) → T (outside limits.accepted_tolerance (pos cents)) → 10000 < cents
above cents t = elim (dec_lt 10000 cents) [ yes h ↦ h | no g ↦ absurd (T_not (outside limits.accepted_tolerance (pos cents)) (nat-inside 0 10000 cents (omega arith) (omega arith)) t) ]

pub narrow-passes : (c : Case) → c.tolerance ≤ 10000 → Pass (wide_tolerance c)
narrow-passes c h = record { pass = λ k l. nat-inside 0 10000 c.tolerance (omega arith) h }

-- 15 IS ANSWERED only for a tolerance above 10,000 cents, with and without a family list
pub only-wide : (s t : List ℕ) (room : ℕ) → (outcome s t room).number ≡ 15 → 10000 < (case_of s).tolerance
unfolding outcome table room_causes case_causes proposal_causes clearing_causes lacks before cause_numbered
only-wide s t room e = above (case_of s).tolerance (row-by-number 15 (table none s t room (case_of s) (plan_of s t) (prices_of s t)) (omega arith) tt tt e).first-place.holds

pub only-wide-family : (s t f : List ℕ) (room : ℕ) → (family_outcome s t f room).number ≡ 15 → 10000 < (case_of s).tolerance
unfolding family_outcome table room_causes case_causes proposal_causes clearing_causes lacks before cause_numbered
only-wide-family s t f room e = above (case_of s).tolerance (row-by-number 15 (table (some f) s t room (case_of s) (plan_of s t) (prices_of s t)) (omega arith) tt tt e).first-place.holds

-- conversely, such a tolerance is 15 where the report has room and case and proposal are read
wide-fails : (cents : ℕ) → 10000 < cents → outside limits.accepted_tolerance (pos cents) ≡ true
wide-fails cents h = by (outside limits.accepted_tolerance (pos cents)) refl
  where
    never : cents ≤ 10000 → ⊥
    never l = omega (arith, h, l)

    by : (b : Bool) → outside limits.accepted_tolerance (pos cents) ≡ b → b ≡ true
    by true e = refl
    by false e = absurd (never (nat-within 0 10000 cents (is_false e)).1)

passes : (qs rs : List Cause) → refusal qs ≡ none → refusal (qs ++ rs) ≡ refusal rs
passes qs rs e = refusal-append qs rs ∙ ap (λ (x : Option Outcome). else-refusal x (refusal rs)) e

module _ (s t : List ℕ) (room : ℕ) (enough : report_room ≤ room) (readable : Readable s) (proposed : proposal_refusal s t ≡ none) (wide : 10000 < (case_of s).tolerance) where
  by-15 : (fs : Option (List ℕ)) → refusal (table fs s t room (case_of s) (plan_of s t) (prices_of s t)) ≡ some (verdict 15 0)
  unfolding table room_causes case_refusal proposal_refusal
  by-15 fs =
      field-passes 30 0 (case_causes s (case_of s) ++ (proposal_causes s t (case_of s) (plan_of s t) (prices_of s t) ++ judgement_causes fs (case_of s) (plan_of s t) (prices_of s t))) (le-ltb room report_room enough)
      ∙ passes (case_causes s (case_of s)) _ readable.none-holds
      ∙ passes (proposal_causes s t (case_of s) (plan_of s t) (prices_of s t)) _ proposed
      ∙ row-found (wide_tolerance (case_of s)) _ 0 (once-fails (wide-fails (case_of s).tolerance wide))

  pub wide-is-15 : outcome s t room ≡ verdict 15 0
  unfolding outcome
  wide-is-15 = ap answer (by-15 none)

  pub wide-is-15-family : (f : List ℕ) → family_outcome s t f room ≡ verdict 15 0
  unfolding family_outcome
  wide-is-15-family f = ap answer (by-15 (some f))

-- NO READER ASKS IT: such a case is readable as before, and so is its proposal. It can be columned and restored,
-- its book summed, and its dump turned into a proposal
pub readers-never-15 : (s t : List ℕ) (c : Case) (p : Plan) (d : Prices) → T (lacks 15 (case_causes s c)) × T (lacks 15 (proposal_causes s t c p d))
unfolding case_causes proposal_causes lacks
readers-never-15 s t c p d = (tt, tt)
