-- A fraction rounded to a format and cut to a whole number, against whole numbers: if it is at most n before, it is
-- at most n after, and if at least n, at least n after. So the product that is rounded once and cut is within one
-- of the exact one. Assumes nothing.
use Rattle.std.specs.Prelude.{true, false, T, pos, Float}
use Rattle.std.specs.Float.{fin}
use Rattle.std.specs.Float.Ieee.{lt}

abbrev pub Ranged : Float → Type 0
Ranged x = T (lt (fin true 1 (pos 0)) x) × T (lt x (fin false 1 (pos 64)))
