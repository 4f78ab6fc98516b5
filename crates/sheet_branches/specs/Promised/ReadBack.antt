-- WHAT IS WRITTEN IS READ BACK. Put the branch part that a sheet turns into after any header of 14 bytes with these
-- zones and that many branches, and before anything: it holds the sheet's numbers, and row 6 of the verdict table
-- passes. Assumes nothing.
use Rattle.std.specs.Prelude.{◌≡◌, get_or, drop, ℤ}
use Rattle.std.proofs.Common.{sym, ◌∙◌, subst, arith}
use Rattle.std.proofs.Math.Path.{ap}
use Rattle.std.proofs.Math.Bool.{false}
use mathlib.Core.List.{List, ◌++◌}
use Prim.Native.Nat.{ℕ, zero, suc, ◌+◌, ◌*◌, ◌<◌}
use Rattle.std.proofs.Math.ListN.{length, take, get_or-append}
use Rattle.std.proofs.Math.Seq.{drop-append-add, take-append_seam}
use mir.Syntax.{w32}
use Rattle.base_integers.specs.Meaning.Ranges.{outside}
use Rattle.base_integers.specs.Steps.Ranges.{within, is_false}
use Rattle.base_integers.specs.Steps.Size.{Near, near-pos, near-neg, near_le, near_within, near_fits}
use Rattle.base_limits.specs.Meaning.Limits as limits
use Rattle.rules.specs.Meaning.Layout.{u8_at, i32_at, zones_in, branches_in, branch_size, branch_at, ram_in, ptdf_in}
use Rattle.rules.proofs.Steps.LayoutLaws.{signed-there}
use Rattle.rules.specs.Meaning.Hour.{case_of}
use Rattle.base_causes.proofs.Promised.CauseLaws.{any_none}
use Rattle.rules.specs.Meaning.Verdict.{branch_fault}
use Rattle.sheet_lines.specs.Meaning.Sheet.{limit, entry, Header, SheetInCase, entry_of, line_of, line_count, branch_part, sheet_bytes, sheet_outcome, sheet_written, sheet_output}
use Rattle.sheet_branches.specs.Promised.Causes.{sheet-writes}
use Rattle.sheet_branches.specs.Promised.Answered.{not-outside}
use Rattle.sheet_lines.proofs.Steps.Stands.{line-there}

near-limit : (j : ℕ) (x : ℤ) → outside (limit j) x ≡ false → Near 500000 x
near-limit zero x e = near_within 500000 limits.margin x (near-neg (near-pos 500000)) (near-pos 500000) (within limits.margin x (is_false e))
near-limit (suc z) x e = near_le (omega arith) (near_within 200000 limits.ptdf x (near-neg (near-pos 200000)) (near-pos 200000) (within limits.ptdf x (is_false e)))

module _ (zones : ℕ) (sheet : List ℕ) (room : ℕ) (answered : (sheet_outcome zones sheet room).number ≡ 0) where
  in-range : (m j : ℕ) → m < line_count sheet → j < zones + 1 → outside (limit j) (entry_of (line_of sheet m) j) ≡ false
  in-range m j h k = not-outside zones sheet room answered m h j k

  module _ (header rest : List ℕ) (good : Header zones (line_count sheet) header) where
    abbrev pub sheet_case : List ℕ
    sheet_case = header ++ (sheet_bytes zones sheet ++ rest)

    head_byte : (i : ℕ) → i < 14 → get_or sheet_case i 0 ≡ get_or header i 0
    head_byte i h = get_or-append header (sheet_bytes zones sheet ++ rest) 0 i (omega (arith, good.size))

    has-zones : zones_in sheet_case ≡ zones
    unfolding zones_in u8_at
    has-zones = head_byte 5 (omega arith) ∙ good.zones-in

    has-branches : branches_in sheet_case ≡ line_count sheet
    unfolding branches_in u8_at
    has-branches = head_byte 6 (omega arith) ∙ good.branches-in

    -- entry j of branch m
    entry_read : (m j k : ℕ) → m < line_count sheet → j < zones + 1 → k ≡ 14 + (branch_part zones m + 4 * j) → i32_at sheet_case k ≡ entry_of (line_of sheet m) j
    unfolding sheet_bytes
    entry_read m j k h l e = signed-there sheet_case k (entry_of (line_of sheet m) j) (near_fits w32 (omega arith) (near-limit j _ (in-range m j h l))) (
        ap (λ (i : ℕ). take 4 (drop i sheet_case)) at
        ∙ ap (λ (r : List ℕ). take 4 r) (drop-append-add header (sheet_bytes zones sheet ++ rest) (branch_part zones m + 4 * j))
        ∙ line-there zones (line_count sheet) sheet rest m j h l
        )
      where
        at : k ≡ length header + (branch_part zones m + 4 * j)
        at = omega (arith, good.size)

    margin-at : (m : ℕ) → m < line_count sheet → ram_in sheet_case m ≡ entry_of (line_of sheet m) 0
    unfolding ram_in branch_at branch_size
    margin-at m h = entry_read m 0 _ h (omega arith) (ap (λ (n : ℕ). 14 + m * (4 + 4 * n)) has-zones ∙ omega arith)

    ptdf-at : (m z : ℕ) → m < line_count sheet → z < zones → ptdf_in sheet_case m z ≡ entry_of (line_of sheet m) (suc z)
    unfolding ptdf_in branch_at branch_size
    ptdf-at m z h l = entry_read m (suc z) _ h (omega arith) (ap (λ (n : ℕ). 14 + m * (4 + 4 * n) + 4 + 4 * z) has-zones ∙ omega arith)

    -- THE THEOREM
    pub read_back : SheetInCase zones sheet sheet_case
    unfolding entry_of entry branch_fault case_of
    read_back = record {
      zones-are = has-zones;
      branches-are = has-branches;
      margins-are = margin-at;
      ptdfs-are = ptdf-at;
      row-6 = record { pass = λ m h. is_false (any_none (1 + zones_in sheet_case) (branch_fault (case_of sheet_case) m) (λ n l. is_false (good-field m n (subst (λ (b : ℕ). m < b) has-branches h) l))) };
    }
      where
        good-field : (m n : ℕ) → m < line_count sheet → n < 1 + zones_in sheet_case → branch_fault (case_of sheet_case) m n ≡ false
        good-field m zero h l = ap (outside limits.margin) (margin-at m h) ∙ in-range m 0 h (omega arith)
        good-field m (suc z) h l = let k : z < zones = omega (arith, has-zones) in ap (outside limits.ptdf) (ptdf-at m z h k) ∙ in-range m (suc z) h (omega arith)

-- the same for the bytes in the output after the entry wrote them
pub written_back : (zones : ℕ) (sheet out : List ℕ) → (sheet_outcome zones sheet (length out)).number ≡ 0 → (header rest : List ℕ) → Header zones (line_count sheet) header
    → SheetInCase zones sheet (header ++ (take (length (sheet_written zones sheet (length out))) (sheet_output zones sheet out) ++ rest))
unfolding sheet_output
written_back zones sheet out e header rest good =
    subst (λ (b : List ℕ). SheetInCase zones sheet (header ++ (b ++ rest))) (sym stands) (read_back zones sheet (length out) e header rest good)
  where
    stands : take (length (sheet_written zones sheet (length out))) (sheet_output zones sheet out) ≡ sheet_bytes zones sheet
    stands = take-append_seam (sheet_written zones sheet (length out)) (drop (length (sheet_written zones sheet (length out))) out) ∙ sheet-writes zones sheet (length out) e
