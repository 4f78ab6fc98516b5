-- REQUEST S-3: net positions lent by the host, in tenths and with export positive, and the tests of row 82.
-- Assumes nothing.
use Rattle.std.specs.Prelude.{Bool, not, List, ℕ, length, get_or, ℤ, pos}
use Rattle.base_integers.specs.Meaning.Ranges.{outside, is_zero}
use Rattle.base_integers.specs.Meaning.Sums.{sum_to}
use Rattle.base_limits.specs.Meaning.Limits as limits

abbrev pub position_at : List ℤ → ℕ → ℤ
position_at net_exports z = get_or net_exports z (pos 0)

-- a position exceeds 51,200,000 either way
abbrev pub position_outside : List ℤ → ℕ → Bool
position_outside net_exports z = outside limits.net_position (position_at net_exports z)

-- asked next: their sum is not zero
abbrev pub unbalanced : List ℤ → Bool
unbalanced net_exports = not (is_zero (sum_to (length net_exports) (position_at net_exports)))
