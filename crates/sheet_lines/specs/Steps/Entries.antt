-- Entries of a branch, by sign and size. Assumes nothing.
use Rattle.std.specs.Prelude.{Bool, not, ℕ, zero, suc, ℤ}
use Rattle.sheet_numbers.specs.declared.Number.{Number}
use Rattle.sheet_numbers.specs.Meaning.Numeral.{sign}
use Rattle.sheet_lines.specs.declared.Entry.{Entry}
use Rattle.sheet_lines.specs.declared.Entry.TheVariants.{Margin, Ptdf}

-- entry j of a branch, and the first place of such an entry
abbrev pub entry_at : ℕ → Entry
entry_at zero = Margin
entry_at (suc z) = Ptdf

abbrev pub place : Entry → ℕ
place Margin = 0
place Ptdf = 1

-- a PTDF's sign is turned, a margin's is not
abbrev pub turned : ℕ → Bool → Bool
turned zero b = b
turned (suc z) b = not b

-- an entry as the walk has it
abbrev pub entry_of_number : ℕ → Number → ℤ
entry_of_number j x = sign (turned j x.negative) x.units
