-- THE ANSWER TO A SHEET IN PLAIN NUMBERS (S-1), both ways: which sheets give 50 to 55, which line is named, and which
-- sheets give 0. `rows` are the sheet's fields, line by line (`Cells` of `PlainText`). Every limit is the paper's own
-- number: 1 to 16 zones, tenths of a MW, hundred-thousandths, 64 lines, 4 bytes for each number. Assumes nothing.
use Rattle.std.specs.Prelude.{◌≡◌, ◌⊎◌, List, [], get_or, ℤ, neg_ℤ, ◌≤ℤ◌}
use Prim.Native.Nat.{ℕ, suc, ◌+◌, ◌*◌, ◌≤◌, ◌<◌}
use Rattle.std.proofs.Math.ListN.{length}
use Rattle.std.proofs.Math.IntN.{pos}
use Rattle.base_causes.specs.declared.Outcome.{Outcome}
use Rattle.base_causes.specs.Meaning.Causes.{verdict}
use Rattle.sheet_numbers.proofs.Promised.PlainNumbers.{Number, Times}
use Rattle.sheet_lines.specs.Promised.PlainText.{Cells}

-- A LINE OF GOOD FORM: a margin and one PTDF for each zone, every one a number
pub record Formed (zones : ℕ) (cells : List (List ℕ)) : Type 0 where
  pub count : length cells ≡ 1 + zones
  pub numbers : (j : ℕ) → j < 1 + zones → Number (get_or cells j [])

-- NOTHING IS LOST: the margin is a whole number of tenths, each PTDF one of hundred-thousandths
pub record Whole (zones : ℕ) (cells : List (List ℕ)) : Type 0 where
  pub margin-whole : (x : ℤ) × Times 10 (get_or cells 0 []) x
  pub ptdf-whole : (z : ℕ) → z < zones → (x : ℤ) × Times 100000 (get_or cells (suc z) []) x

-- IN RANGE: -50,000 to 50,000 MW, and -2 to 2
pub record InRange (zones : ℕ) (cells : List (List ℕ)) : Type 0 where
  pub margin-in : (x : ℤ) → Times 10 (get_or cells 0 []) x → (neg_ℤ (pos 500000) ≤ℤ x) × (x ≤ℤ pos 500000)
  pub ptdf-in : (z : ℕ) → z < zones → (x : ℤ) → Times 100000 (get_or cells (suc z) []) x → (neg_ℤ (pos 200000) ≤ℤ x) × (x ≤ℤ pos 200000)

-- for every line, and the first line for which it fails
abbrev pub Each : (List (List ℕ) → Type 0) → List (List (List ℕ)) → Type 0
Each P rows = (k : ℕ) → k < length rows → P (get_or rows k [])

pub record FirstNot (P : List (List ℕ) → Type 0) (rows : List (List (List ℕ))) (k : ℕ) : Type 0 where
  pub is-line : k < length rows
  pub not_so : P (get_or rows k []) → ⊥
  pub so-before : (i : ℕ) → i < k → P (get_or rows i [])

-- WHAT HOLDS BEFORE A CAUSE IS ASKED
abbrev pub Before51 : ℕ → Type 0
Before51 zones = (1 ≤ zones) × (zones ≤ 16)

abbrev pub Before52 : ℕ → List (List (List ℕ)) → Type 0
Before52 zones rows = Before51 zones × Each (Formed zones) rows

abbrev pub Before53 : ℕ → List (List (List ℕ)) → Type 0
Before53 zones rows = Before52 zones rows × Each (Whole zones) rows

abbrev pub Before54 : ℕ → List (List (List ℕ)) → Type 0
Before54 zones rows = Before53 zones rows × Each (InRange zones) rows

abbrev pub Before55 : ℕ → List (List (List ℕ)) → Type 0
Before55 zones rows = Before54 zones rows × (length rows ≤ 64)

-- THE ANSWER o to a sheet of these rows, with this many bytes of room: each number where its cause holds, and only
-- there
pub record Answers (zones : ℕ) (rows : List (List (List ℕ))) (room : ℕ) (o : Outcome) : Type 0 where
  -- 50: no zone, or more than 16
  pub is-50 : (zones ≡ 0) ⊎ (16 < zones) → o ≡ verdict 50 0
  pub only-50 : o.number ≡ 50 → (zones ≡ 0) ⊎ (16 < zones)
  -- 51: the first line with another number of fields than 1 + zones, or with a field that is no number
  pub is-51 : (k : ℕ) → Before51 zones → FirstNot (Formed zones) rows k → o ≡ verdict 51 k
  pub only-51 : o.number ≡ 51 → Before51 zones × FirstNot (Formed zones) rows o.index
  -- 52: the first line with a margin that is no whole number of tenths, or a PTDF that is none of hundred-thousandths
  pub is-52 : (k : ℕ) → Before52 zones rows → FirstNot (Whole zones) rows k → o ≡ verdict 52 k
  pub only-52 : o.number ≡ 52 → Before52 zones rows × FirstNot (Whole zones) rows o.index
  -- 53: the first line with a number out of range
  pub is-53 : (k : ℕ) → Before53 zones rows → FirstNot (InRange zones) rows k → o ≡ verdict 53 k
  pub only-53 : o.number ≡ 53 → Before53 zones rows × FirstNot (InRange zones) rows o.index
  -- 54: more than 64 lines; 64 pass and 65 do not
  pub is-54 : Before54 zones rows → 64 < length rows → o ≡ verdict 54 0
  pub only-54 : o.number ≡ 54 → Before54 zones rows × (64 < length rows)
  -- 55: fewer bytes than the branches take
  pub is-55 : Before55 zones rows → room < length rows * (4 + 4 * zones) → o ≡ verdict 55 0
  pub only-55 : o.number ≡ 55 → Before55 zones rows × (room < length rows * (4 + 4 * zones))
  -- 0: none of them
  pub is-0 : Before55 zones rows → length rows * (4 + 4 * zones) ≤ room → o ≡ verdict 0 0
  pub only-0 : o.number ≡ 0 → Before55 zones rows × (length rows * (4 + 4 * zones) ≤ room)

-- the same for a sheet as text
abbrev pub AnswersTo : ℕ → List ℕ → ℕ → Outcome → Type 0
AnswersTo zones sheet room o = (rows : List (List (List ℕ))) → Cells sheet rows → Answers zones rows room o
