-- What one walk over the lines of a sheet finds and stores.
use Rattle.std.specs.Prelude.{◌≡◌, Bool, List, ℕ, ◌≤◌}
use Rattle.std.proofs.Math.Option.{none}
use Rattle.std.proofs.lemmas.List.Edits.{sets}
use Rattle.base_causes.specs.Meaning.Causes.{first_below}
use Rattle.base_causes.specs.Meaning.Place.{place_of}
use Rattle.sheet_lines.specs.declared.SheetFaults.{SheetFaults}
use Rattle.sheet_lines.specs.Meaning.Sheet.{malformed, too_fine, out_of_range, line_of, line_count, sheet_bytes}

-- a cause of line i
abbrev pub malformed_at : ℕ → List ℕ → ℕ → Bool
malformed_at zones sheet i = malformed zones (line_of sheet i)

abbrev pub too_fine_at : ℕ → List ℕ → ℕ → Bool
too_fine_at zones sheet i = too_fine zones (line_of sheet i)

abbrev pub out_of_range_at : ℕ → List ℕ → ℕ → Bool
out_of_range_at zones sheet i = out_of_range zones (line_of sheet i)

-- A SHEET read into the table `old`. The first malformed line ends the reading. Else every line was read, and the
-- first 64 stand at the start if no number is out of range
pub record LinesRead (zones : ℕ) (sheet old new : List ℕ) (r : SheetFaults) : Type 0 where
  pub count : r.lines ≡ line_count sheet
  pub finer-is : place_of r.finer ≡ first_below (line_count sheet) (too_fine_at zones sheet)
  pub outside-is : place_of r.outside ≡ first_below (line_count sheet) (out_of_range_at zones sheet)
  pub bytes-are : place_of r.outside ≡ none → line_count sheet ≤ 64 → new ≡ sets old 0 (sheet_bytes zones sheet)

pub record SheetRead (zones : ℕ) (sheet old new : List ℕ) (r : SheetFaults) : Type 0 where
  pub malformed-is : place_of r.malformed ≡ first_below (line_count sheet) (malformed_at zones sheet)
  pub lines-read : place_of r.malformed ≡ none → LinesRead zones sheet old new r
