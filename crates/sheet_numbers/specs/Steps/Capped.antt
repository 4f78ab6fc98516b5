-- A number's size cut at a cap that is above every limit, so that no count of digits overflows it; and digits as
-- the walk takes them. Assumes nothing.
use Rattle.std.specs.Prelude.{cond, ℕ, ltb}

abbrev pub cap : ℕ
cap = 1000000000

unfoldable pub capped : ℕ → ℕ
capped n = cond (ltb cap n) cap n
