-- REQUEST S-13, A FLOW AS 96 NUMBERS: one per pair, one per zone for export used, one per zone for import used.
-- Assumes nothing.
use Rattle.std.specs.Prelude.{List, ℕ, ◌+◌, get_or, ℤ, pos}
use Rattle.base_integers.specs.Meaning.Difference.{up}
use Rattle.flow_network.specs.Meaning.Network.{Flow}

-- the amount at a place: the number there, or 0 where that is negative
abbrev pub amount_at : List ℤ → ℕ → ℕ
amount_at s i = up (get_or s i (pos 0))

-- the flow along pair k is at k, the export used of zone z at 64 + z, its import used at 80 + z
abbrev pub flow_of : List ℤ → Flow
flow_of s = record { flow = λ k. amount_at s k; export-used = λ z. amount_at s (64 + z); import-used = λ z. amount_at s (80 + z) }
