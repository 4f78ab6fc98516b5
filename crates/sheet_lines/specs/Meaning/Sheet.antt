-- REQUEST S-1: a published margin sheet as text, and the branch part of a case that it turns into. One line per
-- branch: the margin in MW to one decimal, then one PTDF per zone to five, comma separated. Sheets count export
-- positive, as 001 does; document 01 counts import positive, so PTDFs change sign and margins do not.
-- Assumes nothing.
use Rattle.std.specs.Prelude.{◌≡◌, Bool, not, cond, ◌||◌, List, [], ◌∷◌, ◌++◌, ℕ, zero, suc, ◌+◌, ◌*◌, ◌<◌, length, get_or, eqb, ℤ, pos, neg_ℤ}
use Rattle.std.proofs.Math.Option.{Option}
use Rattle.base_integers.specs.Meaning.Ranges.{Range, outside}
use Rattle.base_integers.specs.Meaning.Bytes.{signed32}
use Rattle.base_limits.specs.Meaning.Limits as limits
use Rattle.rules.specs.Meaning.Layout.{case_header, zones_in, branches_in, zone_counts}
use Rattle.rules.specs.Meaning.Hour.{case_of}
use Rattle.base_causes.specs.declared.Outcome.{Outcome}
use Rattle.base_causes.specs.Meaning.Causes.{Cause, any_below, refusal, answer, once, each, Pass}
use Rattle.rules.specs.Meaning.Verdict.{◌under◌, ◌over◌, differ, bad_branch_field}
use Rattle.base_output.specs.Meaning.Output.{written_by, output_after}
use Rattle.sheet_numbers.specs.Meaning.Numeral.{is_number, value, finer}

-- LINES AND FIELDS. A byte put in front of the first of some pieces
abbrev pub onto : ℕ → List (List ℕ) → List (List ℕ)
onto b [] = (b ∷ []) ∷ []
onto b (p ∷ ps) = (b ∷ p) ∷ ps

-- a newline (10) ends a line, and the last line may lack it; an empty sheet has no line
unfoldable pub lines : List ℕ → List (List ℕ)
lines [] = []
lines (b ∷ bs) = cond (eqb b 10) ([] ∷ lines bs) (onto b (lines bs))

-- a comma (44) stands between two fields; a line has one field more than commas
unfoldable pub fields : List ℕ → List (List ℕ)
fields [] = [] ∷ []
fields (b ∷ bs) = cond (eqb b 44) ([] ∷ fields bs) (onto b (fields bs))

-- ENTRY j OF A BRANCH: entry 0 is its margin in tenths; entry z + 1 is the PTDF of zone z in hundred-thousandths,
-- with its sign turned
abbrev pub decimal_count : ℕ → ℕ
decimal_count zero = 1
decimal_count (suc z) = 5

abbrev pub limit : ℕ → Range
limit zero = limits.margin
limit (suc z) = limits.ptdf

unfoldable pub entry : ℕ → List ℕ → ℤ
entry zero field = value (decimal_count zero) field
entry (suc z) field = neg_ℤ (value (decimal_count (suc z)) field)

unfoldable pub field_of : List ℕ → ℕ → List ℕ
field_of line j = get_or (fields line) j []

unfoldable pub entry_of : List ℕ → ℕ → ℤ
entry_of line j = entry j (field_of line j)

-- THE CAUSES of one line: a wrong number of fields or a field that is no number; a decimal after ours that is not
-- zero; a number out of document 01's range. Each has a value on any bytes; it counts only where the rows before it
-- passed.
unfoldable pub malformed : ℕ → List ℕ → Bool
malformed zones line = differ (length (fields line)) (zones + 1) || any_below (zones + 1) (λ j. not (is_number (field_of line j)))

unfoldable pub too_fine : ℕ → List ℕ → Bool
too_fine zones line = any_below (zones + 1) (λ j. finer (decimal_count j) (field_of line j))

unfoldable pub out_of_range : ℕ → List ℕ → Bool
out_of_range zones line = any_below (zones + 1) (λ j. outside (limit j) (entry_of line j))

-- line i, from 0
unfoldable pub line_of : List ℕ → ℕ → List ℕ
line_of sheet i = get_or (lines sheet) i []

abbrev pub line_count : List ℕ → ℕ
line_count sheet = length (lines sheet)

-- the bytes of some branches: a margin and one PTDF per zone, 4 bytes each
abbrev pub branch_part : ℕ → ℕ → ℕ
branch_part zones n = 4 * (zones + 1) * n

-- THE TABLE, for an output of `room` bytes: each row is asked over the whole sheet before the next
unfoldable pub sheet_causes : ℕ → List ℕ → ℕ → List Cause
sheet_causes zones sheet room =
    once 50 (outside zone_counts (pos zones))
    ∷ each 51 (line_count sheet) (λ i. malformed zones (line_of sheet i))
    ∷ each 52 (line_count sheet) (λ i. too_fine zones (line_of sheet i))
    ∷ each 53 (line_count sheet) (λ i. out_of_range zones (line_of sheet i))
    ∷ once 54 (line_count sheet over 64)
    ∷ once 55 (room under branch_part zones (line_count sheet))
    ∷ []

unfoldable pub sheet_refusal : ℕ → List ℕ → ℕ → Option Outcome
sheet_refusal zones sheet room = refusal (sheet_causes zones sheet room)

unfoldable pub sheet_outcome : ℕ → List ℕ → ℕ → Outcome
sheet_outcome zones sheet room = answer (sheet_refusal zones sheet room)

-- THE BYTES: each entry signed 32, little-endian; the first n entries of a line; the first m lines
unfoldable pub entry_bytes : ℕ → List ℕ → List ℕ
entry_bytes zero line = []
entry_bytes (suc n) line = entry_bytes n line ++ signed32 (entry_of line n)

unfoldable pub line_bytes : ℕ → ℕ → List ℕ → List ℕ
line_bytes zones zero sheet = []
line_bytes zones (suc m) sheet = line_bytes zones m sheet ++ entry_bytes (zones + 1) (line_of sheet m)

unfoldable pub sheet_bytes : ℕ → List ℕ → List ℕ
sheet_bytes zones sheet = line_bytes zones (line_count sheet) sheet

-- what is written into an output: the branches; nothing for a refusal
unfoldable pub sheet_written : ℕ → List ℕ → ℕ → List ℕ
sheet_written zones sheet room = written_by (sheet_refusal zones sheet room) (sheet_bytes zones sheet)

-- the output afterwards: what is written, then the old bytes past it
unfoldable pub sheet_output : ℕ → List ℕ → List ℕ → List ℕ
sheet_output zones sheet out = output_after (sheet_written zones sheet (length out)) out

-- READ BACK: an answer after a header and before any bytes. A header with these zones and that many branches, of
-- either case version (S-4)
pub record Header (zones branches : ℕ) (header : List ℕ) : Type 0 where
  pub size : length header ≡ case_header
  pub zones-in : zones_in header ≡ zones
  pub branches-in : branches_in header ≡ branches

-- the case s holds the sheet: the margins as they are, the PTDFs with their sign turned, and row 6 passes
pub record SheetInCase (zones : ℕ) (sheet s : List ℕ) : Type 0 where
  pub zones-are : (case_of s).zones ≡ zones
  pub branches-are : (case_of s).branches ≡ line_count sheet
  pub margins-are : (m : ℕ) → m < line_count sheet → (case_of s).ram m ≡ value 1 (field_of (line_of sheet m) 0)
  pub ptdfs-are : (m z : ℕ) → m < line_count sheet → z < zones → (case_of s).ptdf m z ≡ neg_ℤ (value 5 (field_of (line_of sheet m) (suc z)))
  pub row-6 : Pass (bad_branch_field s (case_of s))
