-- What taking a product to a whole number answers: a number of 32 bits, or that it has none. Assumes nothing.
use Rattle.std.specs.Prelude.{ℕ, Bool, true, false, ◌&&◌, pos, nat_le, Float, Option, Some, None}
use Rattle.std.specs.Float.{fin}
use Rattle.std.specs.Float.Ieee.{lt}
use Rattle.std.specs.Float.Ieee.Scale as float
use Rattle.dump_binary64.specs.Meaning.Value.{cut, nearest}

abbrev pub whole_by : Bool → ℕ → Option ℕ
whole_by true n = Some n
whole_by false n = None

abbrev pub whole_below : Float → Option ℕ
whole_below p = whole_by (lt p (fin false 1 (pos 32))) (cut p)

abbrev pub whole_up_to : Float → ℕ → Option ℕ
whole_up_to p most = whole_by (float.finite p && nat_le (nearest p) most) (nearest p)
