-- A SHEET THAT IS ANSWERED: at most 64 lines, each with a margin and one PTDF per zone, all of them numbers, taken
-- exactly and within document 01's range; the length written is that of so many branches. Assumes nothing.
use Rattle.std.specs.Prelude.{◌≡◌, true, false, List, ◌++◌, ℕ, ◌+◌, ◌*◌, ◌^◌, ◌≤◌, ◌<◌, T, eqb, get_or}
use Rattle.std.proofs.Math.Path.{ap}
use Rattle.std.proofs.Common.{◌∙◌, arith}
use Rattle.std.proofs.Math.Bool.{not}
use borrow.Author.Tests.{eqb-true, not-false}
use Rattle.std.proofs.Math.Dec.{nltb→le}
use Rattle.std.proofs.Math.ListN.{length}
use Rattle.base_integers.specs.Meaning.Ranges.{outside, Within}
use Rattle.base_integers.specs.Steps.Ranges.{within, nat-within, nor-left, nor-right, not_is}
use Rattle.base_causes.specs.Meaning.Causes.{Pass}
use Rattle.base_causes.proofs.Promised.CauseLaws.{empty, all_pass, no_place}
use Rattle.text_rules.specs.Meaning.Text.{value_of}
use Rattle.sheet_numbers.specs.Meaning.Numeral.{whole, decimals, is_number, units, finer}
use Rattle.sheet_numbers.proofs.Promised.Exact.{exact}
use Rattle.sheet_lines.specs.Meaning.Sheet.{fields, decimal_count, limit, field_of, entry_of, malformed, too_fine, out_of_range, line_of, line_count, branch_part, sheet_causes, sheet_refusal, sheet_outcome, sheet_bytes, sheet_written}
use Rattle.sheet_branches.specs.Promised.Causes.{sheet-none, sheet-writes}
use Rattle.sheet_lines.proofs.Steps.Lines.{lines-length}

module _ (zones : ℕ) (sheet : List ℕ) (room : ℕ) (answered : (sheet_outcome zones sheet room).number ≡ 0) where
  -- every row of the table passed
  passed : (i : ℕ) → Pass (get_or (sheet_causes zones sheet room) i empty)
  unfolding sheet_refusal
  passed i = all_pass (sheet_causes zones sheet room) (sheet-none zones sheet room answered) i

  pub zones-in : (1 ≤ zones) × (zones ≤ 16)
  unfolding sheet_causes
  zones-in = nat-within 1 16 zones ((passed 0).pass 0 (omega arith))

  pub lines-in : line_count sheet ≤ 64
  unfolding sheet_causes
  lines-in = nltb→le 64 (line_count sheet) ((passed 4).pass 0 (omega arith))

  pub room-enough : branch_part zones (line_count sheet) ≤ room
  unfolding sheet_causes
  room-enough = nltb→le room (branch_part zones (line_count sheet)) ((passed 5).pass 0 (omega arith))

  pub length-is : length (sheet_written zones sheet room) ≡ branch_part zones (line_count sheet)
  unfolding sheet_bytes
  length-is = ap length (sheet-writes zones sheet room answered) ∙ lines-length zones (line_count sheet) sheet

  module _ (m : ℕ) (h : m < line_count sheet) where
    abbrev line : List ℕ
    line = line_of sheet m

    wellformed : T (not (malformed zones line))
    unfolding sheet_causes
    wellformed = (passed 1).pass m h

    pub fields-are : length (fields line) ≡ zones + 1
    unfolding malformed
    fields-are = eqb-true (length (fields line)) (zones + 1) (not-false _ (not_is _ (nor-left (not (eqb (length (fields line)) (zones + 1))) _ wellformed)))

    module _ (j : ℕ) (k : j < zones + 1) where
      abbrev field : List ℕ
      field = field_of line j

      pub number : is_number field ≡ true
      unfolding malformed
      number = not-false _ (not_is _ (no_place (zones + 1) (λ j. not (is_number (field_of line j))) (nor-right (not (eqb (length (fields line)) (zones + 1))) _ wellformed) j k))

      -- nothing is rounded: all digits of the field over ten to its decimals are the entry's units over ten to ours
      pub exactly : units (decimal_count j) field * 10 ^ length (decimals field) ≡ value_of (whole field ++ decimals field) * 10 ^ decimal_count j
      unfolding sheet_causes too_fine
      exactly = exact (decimal_count j) field (not_is _ (no_place (zones + 1) (λ j. finer (decimal_count j) (field_of line j)) ((passed 2).pass m h) j k))

      not-out : T (not (outside (limit j) (entry_of line j)))
      unfolding sheet_causes out_of_range
      not-out = no_place (zones + 1) (λ j. outside (limit j) (entry_of line j)) ((passed 3).pass m h) j k

      pub not-outside : outside (limit j) (entry_of line j) ≡ false
      not-outside = not_is _ not-out

      pub in-range : Within (limit j) (entry_of line j)
      in-range = within (limit j) (entry_of line j) not-out
