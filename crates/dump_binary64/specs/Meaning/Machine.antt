-- A value in the machine, and the code's answers. Assumes nothing.
use Rattle.std.specs.Prelude.{ℕ, false, pos, Float}
use Rattle.std.specs.Float.{fin, binary64}
use Rattle.std.specs.Float.Ieee.{mul, of_int}

abbrev pub zero64 : Float
zero64 = fin false 0 (pos 0)

abbrev pub one64 : Float
one64 = fin false 1 (pos 0)

-- one product
abbrev pub times : Float → ℕ → Float
times x q = mul binary64 x (of_int binary64 (pos q))
