-- WHAT IS WRITTEN, IN PLAIN BYTES (S-1): where each number of a sheet answered 0 stands in the output; a refusal
-- leaves every byte unchanged. `get_or out i 0` is the byte at place i of the output, counted from 0. A branch takes
-- 4 + 4 * zones bytes: its margin, then each PTDF with its sign changed. Assumes nothing.
use Rattle.std.specs.Prelude.{◌≡◌, ℕ, suc, ◌+◌, ◌*◌, ◌-◌, ◌/◌, ◌%◌, ◌^◌, ◌≤◌, ◌<◌, ℤ, pos, negsuc}
use mathlib.Core.List.{List, []}
use Rattle.std.proofs.Math.ListN.{length, get_or}
use Rattle.std.proofs.Math.IntN.{neg_ℤ}
use Rattle.sheet_numbers.proofs.Promised.PlainNumbers.{Times}
use Rattle.sheet_lines.specs.Promised.PlainText.{Cells}

-- a number modulo 2 ^ 32 (two's complement): -1 is 2 ^ 32 - 1
abbrev pub modulo32 : ℤ → ℕ
modulo32 (pos n) = n % 4294967296
modulo32 (negsuc n) = 4294967295 - n % 4294967296

-- the four bytes from place k on are the number's, the lowest first
abbrev pub Stands : List ℕ → ℕ → ℤ → Type 0
Stands out k x = (i : ℕ) → i < 4 → get_or out (k + i) 0 ≡ modulo32 x / 256 ^ i % 256

-- THE BYTES `after`, in an output that held `before`, once a sheet of these rows was answered 0 and `size` bytes
-- written
pub record Branches (zones : ℕ) (rows : List (List (List ℕ))) (size : ℕ) (before after : List ℕ) : Type 0 where
  pub size_is : size ≡ length rows * (4 + 4 * zones)
  pub margin-at : (k : ℕ) → k < length rows → (x : ℤ) → Times 10 (get_or (get_or rows k []) 0 []) x → Stands after (k * (4 + 4 * zones)) x
  pub ptdf-at : (k z : ℕ) → k < length rows → z < zones → (x : ℤ) → Times 100000 (get_or (get_or rows k []) (suc z) []) x → Stands after (k * (4 + 4 * zones) + 4 + 4 * z) (neg_ℤ x)
  -- all past the branches is unchanged
  pub past-it : (i : ℕ) → length rows * (4 + 4 * zones) ≤ i → get_or after i 0 ≡ get_or before i 0
  pub same_length : length after ≡ length before

-- the same for a sheet as text
abbrev pub BranchesOf : ℕ → List ℕ → ℕ → List ℕ → List ℕ → Type 0
BranchesOf zones sheet size before after = (rows : List (List (List ℕ))) → Cells sheet rows → Branches zones rows size before after
