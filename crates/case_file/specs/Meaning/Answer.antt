-- What reading a case answers: the refusal by rows 1 to 8 of the verdict table, or the counts of a readable case.
-- Assumes nothing.
use Rattle.std.specs.Prelude.{List, ℕ, Result, Ok, Err}
use Rattle.std.proofs.Math.Option.{Option, none, some}
use Rattle.base_causes.specs.declared.Outcome.{Outcome}
use Rattle.rules.specs.Meaning.Verdict.{case_refusal}
use Rattle.case_header.specs.declared.Counts.{Counts}
use Rattle.case_header.specs.Meaning.Answer.{counts_of}

-- ROWS 1 TO 8
abbrev pub case_by : Counts → Option Outcome → Result Counts Outcome
case_by k (some o) = Err o
case_by k none = Ok k

abbrev pub case_answer : List ℕ → Result Counts Outcome
case_answer s = case_by (counts_of s) (case_refusal s)
