-- The judgement first: if it refuses, that is the answer, except 30, which cannot occur; if it accepts, only the
-- room is asked. A refusal is given for its own cause and no other, and writes nothing. Assumes nothing.
use Rattle.std.specs.Prelude.{◌≡◌, ℕ, ◌*◌, ◌≤◌, ◌<◌, length, get_or, drop, T, ℤ}
use Rattle.std.proofs.Math.Path.{refl, ap}
use Rattle.std.proofs.Common.{sym, ◌∙◌, arith, lt-ltb, le-ltb}
use mathlib.Core.List.{List, [], ◌∷◌, ◌++◌}
use Rattle.std.proofs.Math.Option.{Option, none, some}
use Rattle.base_causes.specs.declared.Outcome.{Outcome}
use Rattle.base_causes.specs.Meaning.Causes.{Cause, verdict, refusal, answer, once}
use Rattle.base_causes.proofs.Promised.CauseLaws.{empty, CausedBy, answer-caused, Answered, answered, Soonest, soonest, lacks, later, not-refused, zero-none, else-refusal, refusal-append, field-passes, once-passes, once-fails, row-clear, row-found}
use Rattle.rules.specs.Meaning.Layout.{report_room}
use Rattle.rules.specs.Meaning.Hour.{case_of, plan_of, prices_of}
use Rattle.rules.specs.Meaning.Verdict.{◌under◌, room_causes, case_causes, proposal_causes, clearing_causes, judgement_causes, table, outcome}
use Rattle.short_rules.specs.Meaning.Answer.{shortfall_numbers, shortfall_count, shortfall_causes, shortfall_outcome, written_by, shortfall_written, shortfall_output}

module _ (s t : List ℕ) (room : ℕ) where
  abbrev judged : List Cause
  judged = table none s t report_room (case_of s) (plan_of s t) (prices_of s t)

  abbrev asked : List Cause
  asked = once 86 (room under (2 * shortfall_count (case_of s))) ∷ []

  -- the table from row 1 on: with room for a report 30 passes
  abbrev from-row-1 : List Cause
  from-row-1 = case_causes s (case_of s) ++ (proposal_causes s t (case_of s) (plan_of s t) (prices_of s t) ++ judgement_causes none (case_of s) (plan_of s t) (prices_of s t))

  pub room-passes : refusal judged ≡ refusal from-row-1
  unfolding table room_causes
  room-passes = field-passes 30 0 from-row-1 refl

  -- THE JUDGEMENT FIRST
  pub refused-first : (o : Outcome) → refusal judged ≡ some o → refusal (shortfall_causes s t room) ≡ some o
  unfolding shortfall_causes
  refused-first o e = refusal-append judged asked ∙ ap (λ (x : Option Outcome). else-refusal x (refusal asked)) e

  asked-then : refusal judged ≡ none → refusal (shortfall_causes s t room) ≡ refusal asked
  unfolding shortfall_causes
  asked-then e = refusal-append judged asked ∙ ap (λ (x : Option Outcome). else-refusal x (refusal asked)) e

  pub none-refused : (outcome s t report_room).number ≡ 0 → refusal judged ≡ none
  unfolding outcome table room_causes case_causes proposal_causes clearing_causes lacks
  none-refused e = zero-none judged tt e

  -- an hour that is not accepted is answered by the judgement's number and index
  pub not-accepted : 0 < (outcome s t report_room).number → shortfall_outcome s t room ≡ outcome s t report_room
  unfolding outcome shortfall_outcome
  not-accepted h = by (refusal judged) refl
    where
      never : (o : Option Outcome) → 0 < (answer o).number → o ≡ none → ⊥
      never o h e = omega (arith, ap (λ (x : Option Outcome). (answer x).number) e)

      by : (o : Option Outcome) → refusal judged ≡ o → answer (refusal (shortfall_causes s t room)) ≡ answer (refusal judged)
      by (some x) e = ap answer (refused-first x e ∙ sym e)
      by none e = absurd (never (refusal judged) h e)

  -- an accepted hour gets 86 where the output is too short, else 0
  pub short-output : (outcome s t report_room).number ≡ 0 → room < 2 * shortfall_count (case_of s) → refusal (shortfall_causes s t room) ≡ some (verdict 86 0)
  short-output e h = asked-then (none-refused e) ∙ row-found (once 86 (room under (2 * shortfall_count (case_of s)))) [] 0 (once-fails (lt-ltb room (2 * shortfall_count (case_of s)) h))

  pub enough-room : (outcome s t report_room).number ≡ 0 → 2 * shortfall_count (case_of s) ≤ room → refusal (shortfall_causes s t room) ≡ none
  unfolding refusal
  enough-room e h = asked-then (none-refused e) ∙ row-clear (once 86 (room under (2 * shortfall_count (case_of s)))) [] (once-passes (le-ltb room (2 * shortfall_count (case_of s)) h))

  -- 0 if and only if every row passes, else the first row that fails, at its first place
  pub shortfall-answers : Answered (shortfall_causes s t room) (shortfall_outcome s t room)
  unfolding shortfall_outcome shortfall_causes table room_causes case_causes proposal_causes clearing_causes lacks
  shortfall-answers = answered (shortfall_causes s t room) tt

  pub shortfall-caused : 0 < (shortfall_outcome s t room).number → CausedBy (shortfall_causes s t room) (shortfall_outcome s t room)
  unfolding shortfall_outcome
  shortfall-caused h = answer-caused (shortfall_causes s t room) h

  pub shortfall-first : (j k : ℕ) → k < (get_or (shortfall_causes s t room) j empty).places → T ((get_or (shortfall_causes s t room) j empty).fails k) → Soonest (shortfall_causes s t room) (shortfall_outcome s t room) j k
  unfolding shortfall_outcome
  shortfall-first j k h f = soonest (shortfall_causes s t room) j k h f

  -- 0 is given where no row fails, only for an accepted hour, has index 0, and writes the numbers
  pub shortfall-none : (shortfall_outcome s t room).number ≡ 0 → refusal (shortfall_causes s t room) ≡ none
  unfolding shortfall_outcome shortfall_causes table room_causes case_causes proposal_causes clearing_causes lacks
  shortfall-none e = zero-none (shortfall_causes s t room) tt e

  pub answered-accepted : (shortfall_outcome s t room).number ≡ 0 → (outcome s t report_room).number ≡ 0
  unfolding shortfall_outcome shortfall_causes outcome table room_causes case_causes proposal_causes clearing_causes lacks
  answered-accepted e = ap (λ (x : Option Outcome). (answer x).number) (later 0 judged asked tt e).none_first

  pub shortfall-answered : (shortfall_outcome s t room).number ≡ 0 → shortfall_outcome s t room ≡ verdict 0 0
  unfolding shortfall_outcome
  shortfall-answered e = ap answer (shortfall-none e)

  pub shortfall-writes : (shortfall_outcome s t room).number ≡ 0 → shortfall_written s t room ≡ shortfall_numbers (case_of s) (plan_of s t) (prices_of s t)
  unfolding shortfall_written
  shortfall-writes e = ap (λ (o : Option Outcome). written_by o (shortfall_numbers (case_of s) (plan_of s t) (prices_of s t))) (shortfall-none e)

  -- 30 cannot occur: its row passes, and no other has its number
  pub never-30 : (shortfall_outcome s t room).number ≡ 30 → ⊥
  unfolding shortfall_outcome shortfall_causes table room_causes case_causes proposal_causes clearing_causes lacks
  never-30 e = by (refusal (from-row-1 ++ asked)) refl
    where
      passed : refusal (shortfall_causes s t room) ≡ refusal (from-row-1 ++ asked)
      passed = field-passes 30 0 (from-row-1 ++ asked) refl

      number : (o : Option Outcome) → refusal (from-row-1 ++ asked) ≡ o → (answer o).number ≡ 30
      number o q = ap (λ (x : Option Outcome). (answer x).number) (sym (passed ∙ q)) ∙ e

      by : (o : Option Outcome) → refusal (from-row-1 ++ asked) ≡ o → ⊥
      by (some x) q = not-refused 30 (from-row-1 ++ asked) tt x q (number (some x) q)
      by none q = omega (arith, number none q)

-- a refusal leaves every number unchanged
pub shortfall-refused : (s t : List ℕ) (out : List ℤ) → 0 < (shortfall_outcome s t (length out)).number → (length (shortfall_written s t (length out)) ≡ 0) × (shortfall_output s t out ≡ out)
unfolding shortfall_outcome shortfall_written shortfall_output
shortfall-refused s t out h = by (refusal (shortfall_causes s t (length out))) h
  where
    numbers : List ℤ
    numbers = shortfall_numbers (case_of s) (plan_of s t) (prices_of s t)

    by : (o : Option Outcome) → 0 < (answer o).number → (length (written_by o numbers) ≡ 0) × (written_by o numbers ++ drop (length (written_by o numbers)) out ≡ out)
    by (some x) h = (refl, refl)
    by none h = absurd (omega arith)
