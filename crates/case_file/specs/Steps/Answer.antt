-- What a case's answer implies. Assumes nothing.
use Rattle.std.specs.Prelude.{◌≡◌, refl, List, ℕ, Ok, Err}
use Rattle.std.proofs.Common.{◌∙◌}
use Rattle.std.proofs.Math.Option.{Option, none, some}
use Rattle.base_causes.specs.declared.Outcome.{Outcome}
use Rattle.rules.specs.Meaning.Verdict.{case_refusal}
use Rattle.case_header.specs.declared.Counts.{Counts}
use Rattle.case_header.specs.Meaning.Answer.{counts_of}
use Rattle.case_header.specs.Meaning.CaseReadable.{CaseReadable}
use Rattle.case_file.specs.Meaning.Answer.{case_by, case_answer}

-- WHAT AN ANSWER IMPLIES
pub opened_of : (s : List ℕ) {k : Counts} → case_answer s ≡ Ok k → CaseReadable s k
opened_of s {k} e = by (case_refusal s) refl e
  where
    by : (o : Option Outcome) → case_refusal s ≡ o → case_by (counts_of s) o ≡ Ok k → CaseReadable s k
    by (some o) q e = record { readable = record { none-holds = cc }; counts = cc }
    by none q e = record { readable = record { none-holds = q }; counts = cc }

pub refused-of : (s : List ℕ) {r : Outcome} → case_answer s ≡ Err r → case_refusal s ≡ some r
refused-of s {r} e = by (case_refusal s) refl e
  where
    by : (o : Option Outcome) → case_refusal s ≡ o → case_by (counts_of s) o ≡ Err r → case_refusal s ≡ some r
    by (some o) q e = q ∙ cc
    by none q e = cc
