-- THE ANSWER TO A SHEET: number and index, the length written, and every byte of the output afterwards.
-- Assumes nothing.
use Rattle.std.specs.Prelude.{◌≡◌, List, ℕ, length}
use Rattle.base_causes.specs.Meaning.Causes.{verdict}
use Rattle.base_output.specs.declared.Written.{Written}
use Rattle.sheet_lines.specs.Meaning.Sheet.{sheet_outcome, sheet_written, sheet_output}

-- r answers the sheet, and the output `old` is `new` afterwards
pub record SheetAnswered (zones : ℕ) (sheet old new : List ℕ) (r : Written) : Type 0 where
  pub outcome : verdict r.number r.index ≡ sheet_outcome zones sheet (length old)
  pub length-is : r.length ≡ length (sheet_written zones sheet (length old))
  pub output : new ≡ sheet_output zones sheet old
