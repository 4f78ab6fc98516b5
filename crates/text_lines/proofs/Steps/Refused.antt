-- A refused hour prints one line: one refused by its header, and one whose proposal is too long. Assumes nothing.
use Rattle.std.specs.Prelude.{◌≡◌, Bool, not, ◌||◌, ℕ, ◌≤◌, ◌<◌, length, T}
use Rattle.std.proofs.Math.Path.{refl, ap}
use Rattle.std.proofs.Common.{sym, subst, ◌∙◌, le-ltb, ne_eqb}
use Rattle.std.proofs.Math.Bool.{true, false}
use mathlib.Core.List.{List, ◌∷◌, ◌++◌}
use Rattle.std.proofs.Math.Option.{Option, none, some}
use native.Mathlib.Omega.{arith}
use Rattle.rules.specs.Meaning.Layout.{proposal_version, proposal_length, report_room}
use Rattle.rules.specs.Meaning.Hour.{case_of, plan_of, prices_of}
use Rattle.base_causes.specs.declared.Outcome.{Outcome}
use Rattle.base_causes.specs.Meaning.Causes.{Cause, verdict, first_below, refusal, answer, once}
use Rattle.base_causes.proofs.Promised.CauseLaws.{field-passes, else-refusal, refusal-append, lacks, not-refused, behind}
use Rattle.rules.specs.Meaning.Verdict.{◌under◌, differ, not_mark, room_causes, case_causes, proposal_causes, judgement_causes, table, outcome, case_refusal, header_refusal}
use Rattle.rules.specs.Meaning.Report.{reports}
use Rattle.text_lines.proofs.Steps.Header.{header_causes, later_causes, outcome-by-header}
use Rattle.text_lines.proofs.Steps.Judged.{one_line}
use Rattle.rules.specs.Meaning.Lines.{verdict_line, hour_text}

-- A REFUSED HOUR: one line
not-reported : (rs : List Cause) → T (lacks 0 rs) → T (lacks 26 rs) → (o : Outcome) → refusal rs ≡ some o → reports o.number ≡ false
unfolding reports
not-reported rs h l o e = λ i. ne_eqb o.number 0 (not-refused 0 rs h o e) i || ne_eqb o.number 26 (not-refused 26 rs l o e) i

refused-line : (s t : List ℕ) (o : Outcome) → outcome s t report_room ≡ o → reports o.number ≡ false → hour_text s t ≡ verdict_line o
refused-line s t o e r = one_line s t (ap (λ (x : Outcome). reports x.number) e ∙ r) ∙ ap verdict_line e

pub header_refused : (s t : List ℕ) (o : Outcome) → header_refusal s ≡ some o → hour_text s t ≡ verdict_line o
unfolding header_refusal lacks
header_refused s t o e =
    refused-line s t o (outcome-by-header s t ∙ ap (λ (x : Option Outcome). answer (else-refusal x (refusal (later_causes s t)))) e) (not-reported (header_causes s) tt tt o e)

-- A PROPOSAL THAT IS TOO LONG: refused by 10, 11 or 12, unless the case is refused
unfoldable pub long : Bool → Bool → Outcome
long true version = verdict 10 0
long false true = verdict 11 0
long false false = verdict 12 0

long-refused : (mark version : Bool) (short wrong : Bool) (rest : List Cause) → short ≡ false → wrong ≡ true
    → refusal (once 9 short ∷ once 10 mark ∷ once 11 version ∷ once 12 wrong ∷ rest) ≡ some (long mark version)
unfolding refusal first_below long
long-refused mark version true wrong rest e f = absurd (subst T e tt)
long-refused mark version false false rest e f = absurd (subst T (sym f) tt)
long-refused true version false true rest e f = refl
long-refused false true false true rest e f = refl
long-refused false false false true rest e f = refl

module _ (s t : List ℕ) (h : proposal_length s < length t) where
  enough : 13 ≤ length t
  unfolding proposal_length
  enough = omega arith

  abbrev pub answered : Option Outcome
  answered = else-refusal (case_refusal s) (some (long (not_mark 76 84 80 t) (differ (proposal_version t) 1)))

  long-outcome : outcome s t report_room ≡ answer answered
  unfolding outcome table room_causes case_refusal proposal_causes
  long-outcome = ap (λ (x : Option Outcome). answer x) (
      field-passes 30 0 (case_causes s (case_of s) ++ later) refl
      ∙ refusal-append (case_causes s (case_of s)) later
      ∙ ap (λ (x : Option Outcome). else-refusal (case_refusal s) x) (long-refused (not_mark 76 84 80 t) (differ (proposal_version t) 1) (length t under 13) (differ (length t) (proposal_length s)) (behind 12 later) (le-ltb (length t) 13 enough) wrong)
      )
    where
      later : List Cause
      later = proposal_causes s t (case_of s) (plan_of s t) (prices_of s t) ++ judgement_causes none (case_of s) (plan_of s t) (prices_of s t)

      wrong : differ (length t) (proposal_length s) ≡ true
      wrong = ap not (ne_eqb (length t) (proposal_length s) (λ e. omega arith))

  long-not-reported : (x : Option Outcome) (mark version : Bool) → case_refusal s ≡ x → reports (answer (else-refusal x (some (long mark version)))).number ≡ false
  unfolding case_refusal case_causes lacks long reports
  long-not-reported (some o) mark version e = not-reported (case_causes s (case_of s)) tt tt o e
  long-not-reported none true version e = refl
  long-not-reported none false true e = refl
  long-not-reported none false false e = refl

  pub too_long : hour_text s t ≡ verdict_line (answer answered)
  too_long = refused-line s t (answer answered) long-outcome (long-not-reported (case_refusal s) (not_mark 76 84 80 t) (differ (proposal_version t) 1) refl)
