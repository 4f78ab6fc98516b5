-- A piece of a text up to its mark, and its number.
use Rattle.std.specs.Prelude.{Bool, true, false, cond, List, ℕ, ◌+◌, ltb, length, drop, Option, None, Some}
use Rattle.sheet_numbers.specs.declared.Piece.{Piece}
use Rattle.sheet_numbers.specs.declared.Number.{Number}
use Rattle.sheet_numbers.specs.Meaning.Numeral.{before, negative, is_number, units, finer}
use Rattle.sheet_numbers.specs.Steps.Capped.{capped}

-- A PIECE that ends at `end` in a text of n bytes, the one that starts at `at` in s, and what holds of it
abbrev pub piece_to : ℕ → ℕ → Piece
piece_to n end = record { end = end; next = record { at = cond (ltb end n) (end + 1) end } }

abbrev pub piece_at : ℕ → List ℕ → ℕ → Piece
piece_at mark s at = piece_to (length s) (at + length (before mark (drop at s)))

-- A NUMBER: the piece that starts there, read as one
abbrev pub held_number : ℕ → List ℕ → Number
held_number k text = record { negative = negative text; units = capped (units k text); finer = finer k text }

abbrev pub number_by : Bool → Number → Piece → Option (Number × Piece)
number_by true x p = Some (x, p)
number_by false x p = None

abbrev pub number_at : ℕ → ℕ → List ℕ → ℕ → Option (Number × Piece)
number_at k mark s at = number_by (is_number (before mark (drop at s))) (held_number k (before mark (drop at s))) (piece_at mark s at)
