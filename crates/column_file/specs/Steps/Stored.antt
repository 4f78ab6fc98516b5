-- The parts of a file in the other arrangement as runs of stores. Assumes nothing.
use Rattle.std.specs.Prelude.{ℕ, ◌+◌, ◌*◌}
use mathlib.Core.List.{List}
use Rattle.std.proofs.Math.ListN.{get_or}
use Rattle.column_file.specs.Meaning.Columns.{listed, transposed}

-- every step-th byte from a place on
unfoldable pub every : (from step count : ℕ) → List ℕ → List ℕ
every from step count s = listed count (λ j. get_or s (from + j * step) 0)

-- the first n bytes of the orders in the other arrangement
unfoldable pub orders : (start rows columns n : ℕ) → List ℕ → List ℕ
orders start rows columns n s = listed n (λ q. get_or s (start + transposed rows columns q) 0)
