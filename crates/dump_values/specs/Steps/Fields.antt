-- What a value becomes by the machine's float. Assumes nothing.
use Rattle.std.specs.Prelude.{not, ◌&&◌, pos, Float, Option}
use Rattle.std.specs.Float.Ieee.{le, lt}
use Rattle.std.specs.Float.Ieee.Scale as float
use Rattle.base_integers.specs.Meaning.Ranges.{outside}
use Rattle.base_limits.specs.Meaning.Limits as limits
use Rattle.dump_binary64.specs.Meaning.Value.{cut, nearest}
use Rattle.dump_binary64.specs.Meaning.Machine.{zero64, times}
use Rattle.dump_binary64.proofs.Steps.Whole.{word_end}
use Rattle.base_integers.specs.declared.Bits.{Bits}
use Rattle.dump_values.specs.Meaning.Answer.{field_by}

abbrev pub flow_field : Float → Option Bits
flow_field x = field_by (le zero64 x && lt (times x 10) word_end) (pos (cut (times x 10)))

abbrev pub shadow_field : Float → Option Bits
shadow_field x = field_by (le zero64 x && (float.finite (times x 100) && not (outside limits.shadow_price (pos (nearest (times x 100)))))) (pos (nearest (times x 100)))
