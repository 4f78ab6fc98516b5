-- WHAT IS WRITTEN, IN PLAIN BYTES (S-1): where each number of a sheet answered 0 stands in the output; a refusal
-- leaves every byte unchanged. `get_or out i 0` is the byte at place i of the output, counted from 0. A branch takes
-- 4 + 4 * zones bytes: its margin, then each PTDF with its sign changed. Assumes nothing.
use Rattle.std.specs.Prelude.{◌≡◌, refl, ◌≢◌, ℕ, suc, ◌+◌, ◌*◌, ◌-◌, ◌/◌, ◌%◌, ◌^◌, ◌≤◌, ◌<◌, take, ℤ, pos, negsuc, ◌≤ℤ◌}
use Rattle.std.proofs.Math.Path.{sym, ap}
use Rattle.std.proofs.Common.{◌∙◌, arith, get_or-take, SFits, of_z}
use mathlib.Core.List.{List, [], ◌++◌}
use Rattle.std.proofs.Math.Option.{Option, none, some}
use Rattle.std.proofs.Math.ListN.{length, get_or, drop, length-append, length-drop}
use Rattle.std.proofs.Math.Seq.{get_or-drop, drop-append_seam}
use Rattle.std.proofs.Math.IntN.{neg_ℤ}
use Rattle.std.specs.Int.{w32}
use Rattle.base_integers.specs.Steps.Size.{Near, near-pos, near-neg, near_le, near_within, near_fits}
use Rattle.base_integers.specs.Meaning.Ranges.{range, minus}
use Rattle.base_integers.specs.Meaning.Bytes.{signed32}
use Rattle.base_integers.specs.Steps.Bytes.{byte_at}
use Rattle.base_causes.specs.declared.Outcome.{Outcome}
use Rattle.base_causes.specs.Meaning.Causes.{answer}
use Rattle.base_causes.proofs.Promised.CauseLaws.{zero-none, lacks}
use Rattle.base_output.specs.Meaning.Output.{written_by, output_after}
use Rattle.sheet_numbers.specs.Meaning.Numeral.{value}
use Rattle.sheet_numbers.proofs.Promised.PlainNumbers.{times-value}
use Rattle.sheet_lines.specs.Meaning.Sheet.{entry, field_of, entry_of, line_of, line_count, branch_part, line_bytes, sheet_causes, sheet_refusal, sheet_outcome, sheet_bytes, sheet_written, sheet_output}
use Rattle.sheet_lines.proofs.Steps.Lines.{lines-length}
use Rattle.sheet_lines.proofs.Steps.Stands.{line-there}
use Rattle.sheet_lines.specs.Promised.PlainText.{Cells}
use Rattle.sheet_lines.proofs.Promised.PlainText.{cells_are}
use Rattle.sheet_lines.specs.Promised.PlainCauses.{InRange, Before55}
use Rattle.sheet_lines.proofs.Promised.PlainCauses.{answers}
use Rattle.sheet_lines.specs.Promised.PlainBytes.{modulo32, Stands, Branches}

modulo-is : (x : ℤ) → SFits w32 x → of_z w32 x ≡ modulo32 x
modulo-is (pos n) f = omega (arith, f.sfits)
modulo-is (negsuc n) f = omega (arith, f.sfits)

four : (b : List ℕ) (k : ℕ) (x : ℤ) → SFits w32 x → take 4 (drop k b) ≡ signed32 x → Stands b k x
unfolding signed32
four b k x f e i h =
    sym (get_or-drop k b i 0) ∙ sym (get_or-take 4 (drop k b) i 0 h) ∙ ap (λ (l : List ℕ). get_or l i 0) e
    ∙ byte_at 4 (of_z w32 x) i h ∙ ap (λ (n : ℕ). n / 256 ^ i % 256) (modulo-is x f)

module _ (zones : ℕ) (sheet out : List ℕ) (rows : List (List (List ℕ))) (c : Cells sheet rows) (zero_is : (sheet_outcome zones sheet (length out)).number ≡ 0) where
  facts : Before55 zones rows × (length rows * (4 + 4 * zones) ≤ length out)
  facts = (answers zones sheet (length out) rows c).only-0 zero_is

  range-of : (k : ℕ) → k < length rows → InRange zones (get_or rows k [])
  range-of = facts.0.0.1

  written : sheet_written zones sheet (length out) ≡ line_bytes zones (line_count sheet) sheet
  unfolding sheet_written sheet_outcome sheet_refusal sheet_causes lacks sheet_bytes
  written = ap (λ (r : Option Outcome). written_by r (sheet_bytes zones sheet)) (zero-none (sheet_causes zones sheet (length out)) tt zero_is)

  abbrev bytes : List ℕ
  bytes = line_bytes zones (line_count sheet) sheet

  after_is : sheet_output zones sheet out ≡ bytes ++ drop (length bytes) out
  unfolding sheet_output
  after_is = ap (λ (b : List ℕ). output_after b out) written

  many : length bytes ≡ length rows * (4 + 4 * zones)
  many = lines-length zones (line_count sheet) sheet ∙ ap (branch_part zones) (sym (cells_are sheet rows c).0) ∙ omega arith

  -- entry j of line k
  entry_at : (k j p : ℕ) (x : ℤ) → k < length rows → j < zones + 1 → p ≡ k * (4 + 4 * zones) + 4 * j → entry_of (line_of sheet k) j ≡ x → Near 500000 x → Stands (sheet_output zones sheet out) p x
  entry_at k j p x h l e q n = four (sheet_output zones sheet out) p x (near_fits w32 (omega arith) n)
      (ap (λ (b : List ℕ). take 4 (drop p b)) after_is
      ∙ ap (λ (i : ℕ). take 4 (drop i (bytes ++ drop (length bytes) out))) place
      ∙ line-there zones (line_count sheet) sheet (drop (length bytes) out) k j (omega (arith, h, (cells_are sheet rows c).0)) l
      ∙ ap signed32 q)
    where
      place : p ≡ branch_part zones k + 4 * j
      place = e ∙ omega arith

  field_is : (k j : ℕ) → k < length rows → field_of (line_of sheet k) j ≡ get_or (get_or rows k []) j []
  unfolding field_of
  field_is k j h = ap (λ (l : List (List ℕ)). get_or l j []) (sym ((cells_are sheet rows c).1 k h))

  margin-near : (x : ℤ) → (neg_ℤ (pos 500000) ≤ℤ x) × (x ≤ℤ pos 500000) → Near 500000 x
  margin-near x w = near_within 500000 (range (minus 500000) (pos 500000)) x (near-neg (near-pos 500000)) (near-pos 500000) (record { least-le = w.0; le-greatest = w.1 })

  ptdf-near : (x : ℤ) → (neg_ℤ (pos 200000) ≤ℤ x) × (x ≤ℤ pos 200000) → Near 500000 (neg_ℤ x)
  ptdf-near x w = near-neg (near_le (omega arith) (near_within 200000 (range (minus 200000) (pos 200000)) x (near-neg (near-pos 200000)) (near-pos 200000) (record { least-le = w.0; le-greatest = w.1 })))

  -- THE THEOREM
  pub branches-written : Branches zones rows (length (sheet_written zones sheet (length out))) out (sheet_output zones sheet out)
  unfolding entry_of entry
  branches-written = record {
    size_is = ap length written ∙ many;
    margin-at = λ k h x t. entry_at k 0 (k * (4 + 4 * zones)) x h (omega arith) (omega arith)
        (ap (value 1) (field_is k 0 h) ∙ (times-value 1 (get_or (get_or rows k []) 0 []) x t).1) (margin-near x ((range-of k h).margin-in x t));
    ptdf-at = λ k z h l x t. entry_at k (suc z) (k * (4 + 4 * zones) + 4 + 4 * z) (neg_ℤ x) h (omega arith) (omega arith)
        (ap (λ (f : List ℕ). neg_ℤ (value 5 f)) (field_is k (suc z) h) ∙ ap neg_ℤ (times-value 5 (get_or (get_or rows k []) (suc z) []) x t).1) (ptdf-near x ((range-of k h).ptdf-in z l x t));
    past-it = past;
    same_length = ap length after_is ∙ length-append bytes (drop (length bytes) out) ∙ omega (arith, many, length-drop (length bytes) out, facts.1);
  }
    where
      past : (i : ℕ) → length rows * (4 + 4 * zones) ≤ i → get_or (sheet_output zones sheet out) i 0 ≡ get_or out i 0
      past i h =
          let there : length bytes + (i - length bytes) ≡ i = omega (arith, many, h) in
          ap (λ (b : List ℕ). get_or b i 0) after_is
          ∙ ap (λ (j : ℕ). get_or (bytes ++ drop (length bytes) out) j 0) (sym there)
          ∙ sym (get_or-drop (length bytes) (bytes ++ drop (length bytes) out) (i - length bytes) 0)
          ∙ ap (λ (b : List ℕ). get_or b (i - length bytes) 0) (drop-append_seam bytes (drop (length bytes) out))
          ∙ get_or-drop (length bytes) out (i - length bytes) 0
          ∙ ap (λ (j : ℕ). get_or out j 0) there

-- A REFUSAL leaves every byte unchanged, and writes none
pub refusal-leaves : (zones : ℕ) (sheet out : List ℕ) → (sheet_outcome zones sheet (length out)).number ≢ 0 → (length (sheet_written zones sheet (length out)) ≡ 0) × (sheet_output zones sheet out ≡ out)
unfolding sheet_outcome sheet_written sheet_output
refusal-leaves zones sheet out n = by (sheet_refusal zones sheet (length out)) n
  where
    by : (r : Option Outcome) → (answer r).number ≢ 0 → (length (written_by r (sheet_bytes zones sheet)) ≡ 0) × (output_after (written_by r (sheet_bytes zones sheet)) out ≡ out)
    by (some x) n = (refl, refl)
    by none n = absurd (n refl)
