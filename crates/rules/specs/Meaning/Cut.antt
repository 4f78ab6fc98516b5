-- Where the desk cuts its input, a case directly followed by its proposal. Assumes nothing.
use Rattle.std.specs.Prelude.{Bool, true, false, cond, ◌&&◌, List, ℕ, length, take, drop, leb}
use Rattle.std.proofs.Math.Option.{Option, none, some}
use Rattle.base_causes.specs.declared.Outcome.{Outcome}
use Rattle.rules.specs.Meaning.Layout.{case_length}
use Rattle.rules.specs.Meaning.Verdict.{header_refusal}

-- a header is good where none of rows 1 to 4 refuses it
abbrev pub good : Option Outcome → Bool
good (some o) = false
good none = true

-- Where the header is good and there are enough bytes, the case ends at the length that the header demands and the
-- proposal follows; else all is the case.
unfoldable pub case_end : List ℕ → ℕ
case_end input = cond (good (header_refusal input) && leb (case_length input) (length input)) (case_length input) (length input)

unfoldable pub case_part : List ℕ → List ℕ
case_part input = take (case_end input) input

unfoldable pub proposal_part : List ℕ → List ℕ
proposal_part input = drop (case_end input) input
