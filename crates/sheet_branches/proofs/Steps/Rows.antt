-- THE LAST TWO ROWS of the table, from what the rows before them found. Assumes nothing.
use Rattle.std.specs.Prelude.{◌≡◌, false, List, ℕ, ◌≤◌, ◌<◌, pos}
use Rattle.std.proofs.Common.{◌∙◌, lt-ltb, le-ltb}
use Rattle.std.proofs.Math.Option.{some, none}
use Rattle.base_integers.specs.Meaning.Ranges.{outside}
use Rattle.rules.specs.Meaning.Layout.{zone_counts}
use Rattle.base_causes.specs.Meaning.Causes.{first_below, verdict, each}
use Rattle.base_causes.proofs.Promised.CauseLaws.{row-clear, field-fails, field-passes}
use Rattle.sheet_lines.specs.Meaning.Sheet.{line_count, branch_part, sheet_causes, sheet_refusal}
use Rattle.sheet_lines.specs.Meaning.Lines.{malformed_at, too_fine_at, out_of_range_at}

pub row_54 : (zones : ℕ) (sheet : List ℕ) (room : ℕ) → outside zone_counts (pos zones) ≡ false
    → first_below (line_count sheet) (malformed_at zones sheet) ≡ none → first_below (line_count sheet) (too_fine_at zones sheet) ≡ none → first_below (line_count sheet) (out_of_range_at zones sheet) ≡ none
    → 64 < line_count sheet → sheet_refusal zones sheet room ≡ some (verdict 54 0)
unfolding sheet_refusal sheet_causes
row_54 zones sheet room z m f o h =
    field-passes 50 0 _ z
    ∙ row-clear (each 51 (line_count sheet) (malformed_at zones sheet)) _ m
    ∙ row-clear (each 52 (line_count sheet) (too_fine_at zones sheet)) _ f
    ∙ row-clear (each 53 (line_count sheet) (out_of_range_at zones sheet)) _ o
    ∙ field-fails 54 0 _ (lt-ltb 64 (line_count sheet) h)

pub row_55 : (zones : ℕ) (sheet : List ℕ) (room : ℕ) → outside zone_counts (pos zones) ≡ false
    → first_below (line_count sheet) (malformed_at zones sheet) ≡ none → first_below (line_count sheet) (too_fine_at zones sheet) ≡ none → first_below (line_count sheet) (out_of_range_at zones sheet) ≡ none
    → line_count sheet ≤ 64 → room < branch_part zones (line_count sheet) → sheet_refusal zones sheet room ≡ some (verdict 55 0)
unfolding sheet_refusal sheet_causes
row_55 zones sheet room z m f o h l =
    field-passes 50 0 _ z
    ∙ row-clear (each 51 (line_count sheet) (malformed_at zones sheet)) _ m
    ∙ row-clear (each 52 (line_count sheet) (too_fine_at zones sheet)) _ f
    ∙ row-clear (each 53 (line_count sheet) (out_of_range_at zones sheet)) _ o
    ∙ field-passes 54 0 _ (le-ltb 64 (line_count sheet) h)
    ∙ field-fails 55 0 _ (lt-ltb room (branch_part zones (line_count sheet)) l)
