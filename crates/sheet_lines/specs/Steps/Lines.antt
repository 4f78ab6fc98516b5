-- The walk over a line's fields and over a sheet's lines: where it stands, and what it has found so far.
-- Assumes nothing.
use Rattle.std.specs.Prelude.{◌≡◌, Bool, true, false, cond, ℕ, ◌+◌, ltb, leb, drop, Option, None, Some}
use Rattle.std.proofs.Math.Bool.{not}
use mathlib.Core.List.{List}
use Rattle.std.proofs.Math.Option.{none, some}
use Rattle.std.proofs.Math.Option as math
use Rattle.std.proofs.lemmas.List.Edits.{sets}
use Rattle.sheet_numbers.specs.declared.TextCursor.{TextCursor}
use Rattle.sheet_numbers.specs.Meaning.Numeral.{before, is_number}
use Rattle.sheet_numbers.specs.Meaning.Pieces.{piece_at}
use Rattle.sheet_lines.specs.declared.Flaws.{Flaws}
use Rattle.sheet_lines.specs.Meaning.Sheet.{field_of, malformed, too_fine, out_of_range, entry_bytes}

-- MALFORMED
abbrev pub no_number : List ℕ → ℕ → Bool
no_number line j = not (is_number (field_of line j))

-- THE LINE AT A PLACE of a sheet. The mark that ends its field j: a comma or, for the last, a newline. And the test
-- that no comma follows a field before the last, which ends at `end` in a sheet of n bytes
abbrev pub line_at : List ℕ → ℕ → List ℕ
line_at sheet start = before 10 (drop start sheet)

abbrev pub mark_of : ℕ → ℕ → ℕ
mark_of zones j = cond (ltb j zones) 44 10

abbrev pub comma_missing : ℕ → ℕ → ℕ → ℕ → Bool
comma_missing zones j end n = cond (ltb j zones) (leb n end) false

-- a line whose numbers can be written, and a sheet of them
pub record LineValid (zones : ℕ) (line : List ℕ) : Type 0 where
  pub wellformed : malformed zones line ≡ false
  pub in-range : out_of_range zones line ≡ false

-- THE ANSWER FOR A LINE, and where the next one starts
abbrev pub line_by : Flaws → TextCursor → Bool → Option (Flaws × TextCursor)
line_by f next true = None
line_by f next false = Some (f, next)

abbrev pub line_flaws : ℕ → List ℕ → Flaws
line_flaws zones line = record { finer = too_fine zones line; outside = out_of_range zones line }

-- the line at `start`, read into the table `old` at `base`
pub record LineRead (zones : ℕ) (sheet : List ℕ) (start base : ℕ) (old new : List ℕ) (r : Option (Flaws × TextCursor)) : Type 0 where
  pub answer-is : r ≡ line_by (line_flaws zones (line_at sheet start)) (piece_at 10 sheet start).next (malformed zones (line_at sheet start))
  pub bytes-are : LineValid zones (line_at sheet start) → new ≡ sets old base (entry_bytes (zones + 1) (line_at sheet start))

-- the row of the table for line n: all lines past the 64th share one more, which is not written
abbrev pub row_of : ℕ → ℕ
row_of n = cond (ltb n 64) n 64

-- the first place so far, with one place more
abbrev pub first_with : math.Option ℕ → ℕ → Bool → math.Option ℕ
first_with (some k) n b = some k
first_with none n b = cond b (some n) none
