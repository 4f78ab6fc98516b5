-- Where an entry stands in the written bytes: in its line, and in the lines. Assumes nothing.
use Rattle.std.specs.Prelude.{◌≡◌, List, ◌++◌, ℕ, zero, suc, ◌+◌, ◌*◌, ◌<◌, length, take, drop}
use Rattle.std.proofs.Common.{sym, ap, ◌∙◌, append_assoc, arith}
use Rattle.std.proofs.Math.Decide.{dec_lt}
use Rattle.std.proofs.Math.Seq.{drop-append-add, drop-append_seam, take-append_seam}
use Rattle.base_integers.specs.Meaning.Bytes.{signed32}
use Rattle.sheet_lines.specs.Meaning.Sheet.{entry_of, line_of, branch_part, entry_bytes, line_bytes}
use Rattle.sheet_lines.proofs.Steps.Lines.{signed-length, entries-length, lines-length}

-- in its line
entry-last : (n : ℕ) (line rest : List ℕ) (j : ℕ) → j ≡ n → take 4 (drop (4 * j) (entry_bytes n line ++ (signed32 (entry_of line n) ++ rest))) ≡ signed32 (entry_of line j)
entry-last n line rest j e =
    let l : 4 * j ≡ length (entry_bytes n line) = omega (arith, entries-length n line) in
    ap (λ (k : ℕ). take 4 (drop k (entry_bytes n line ++ (signed32 (entry_of line n) ++ rest)))) l
    ∙ ap (λ (r : List ℕ). take 4 r) (drop-append_seam (entry_bytes n line) (signed32 (entry_of line n) ++ rest))
    ∙ ap (λ (k : ℕ). take k (signed32 (entry_of line n) ++ rest)) (sym (signed-length (entry_of line n)))
    ∙ take-append_seam (signed32 (entry_of line n)) rest
    ∙ ap (λ (k : ℕ). signed32 (entry_of line k)) (sym e)

entry-there : (n : ℕ) (line rest : List ℕ) (j : ℕ) → j < n → take 4 (drop (4 * j) (entry_bytes n line ++ rest)) ≡ signed32 (entry_of line j)
unfolding entry_bytes
entry-there zero line rest j h = absurd (omega arith)
entry-there (suc n) line rest j h = ap (λ (l : List ℕ). take 4 (drop (4 * j) l)) (append_assoc (entry_bytes n line) (signed32 (entry_of line n)) rest)
    ∙ elim (dec_lt j n) [ yes l ↦ entry-there n line (signed32 (entry_of line n) ++ rest) j l | no g ↦ entry-last n line rest j (omega arith) ]

-- in the lines
line-last : (zones n : ℕ) (sheet rest : List ℕ) (m j : ℕ) → m ≡ n → j < zones + 1
    → take 4 (drop (branch_part zones m + 4 * j) (line_bytes zones n sheet ++ (entry_bytes (zones + 1) (line_of sheet n) ++ rest))) ≡ signed32 (entry_of (line_of sheet m) j)
line-last zones n sheet rest m j e h =
    let l : branch_part zones n ≡ length (line_bytes zones n sheet) = sym (lines-length zones n sheet) in
    ap (λ (i : ℕ). take 4 (drop (branch_part zones i + 4 * j) (line_bytes zones n sheet ++ (entry_bytes (zones + 1) (line_of sheet n) ++ rest)))) e
    ∙ ap (λ (i : ℕ). take 4 (drop (i + 4 * j) (line_bytes zones n sheet ++ (entry_bytes (zones + 1) (line_of sheet n) ++ rest)))) l
    ∙ ap (λ (r : List ℕ). take 4 r) (drop-append-add (line_bytes zones n sheet) (entry_bytes (zones + 1) (line_of sheet n) ++ rest) (4 * j))
    ∙ entry-there (zones + 1) (line_of sheet n) rest j h
    ∙ ap (λ (i : ℕ). signed32 (entry_of (line_of sheet i) j)) (sym e)

pub line-there : (zones n : ℕ) (sheet rest : List ℕ) (m j : ℕ) → m < n → j < zones + 1 → take 4 (drop (branch_part zones m + 4 * j) (line_bytes zones n sheet ++ rest)) ≡ signed32 (entry_of (line_of sheet m) j)
unfolding line_bytes
line-there zones zero sheet rest m j h k = absurd (omega arith)
line-there zones (suc n) sheet rest m j h k = ap (λ (l : List ℕ). take 4 (drop (branch_part zones m + 4 * j) l)) (append_assoc (line_bytes zones n sheet) (entry_bytes (zones + 1) (line_of sheet n)) rest)
    ∙ elim (dec_lt m n) [ yes l ↦ line-there zones n sheet (entry_bytes (zones + 1) (line_of sheet n) ++ rest) m j l k | no g ↦ line-last zones n sheet rest m j (omega arith) k ]
