-- The place that a search answers, as the first place of a row. Assumes nothing.
use Rattle.std.proofs.Math.Option as math
use Rattle.std.specs.Prelude.{ℕ, Option, None, Some}

-- the first place that a search in code answers with
abbrev pub place_of : Option ℕ → math.Option ℕ
place_of (Some k) = math.some k
place_of None = math.none
