-- The field of a proposal that a float of a dump becomes, by the machine's own product.
use Rattle.std.specs.Prelude.{Bool, false, not, cond, ◌&&◌, ℕ, ℤ, pos, neg_ℤ, Float, Option}
use Rattle.std.specs.Float.{nan, inf, fin}
use Rattle.std.specs.Float.Ieee.{le}
use Rattle.std.specs.Float.Ieee.Scale as float
use Rattle.base_integers.specs.Meaning.Ranges.{outside}
use Rattle.base_limits.specs.Meaning.Limits as limits
use Rattle.dump_binary64.specs.Meaning.Value.{cut, nearest}
use Rattle.dump_binary64.specs.Meaning.Machine.{zero64, one64, times}
use Rattle.base_integers.specs.declared.Bits.{Bits}
use Rattle.dump_values.specs.declared.DumpOpening.{DumpOpening}
use Rattle.dump_values.specs.declared.OpeningFields.{OpeningFields}
use Rattle.dump_values.specs.Meaning.Answer.{field_by}

-- by the machine's value
abbrev pub share_field : Float → ℕ → Option Bits
share_field x q = field_by (le zero64 x && le x one64) (pos (cut (times x q)))

-- the sign of a price's product
abbrev pub sign_of : Float → Bool
sign_of nan = false
sign_of (inf s) = s
sign_of (fin s m e) = s

abbrev pub signed_of : Float → ℤ
signed_of p = cond (sign_of p) (neg_ℤ (pos (nearest p))) (pos (nearest p))

abbrev pub system_by : Float → Option Bits
system_by p = field_by (float.finite p && not (outside limits.system_price (signed_of p))) (signed_of p)

abbrev pub system_field : Float → Option Bits
system_field x = system_by (times x 100)

-- THE OPENING: the LTA share in hundred-thousandths, and the system price
abbrev pub opening_fields : DumpOpening → OpeningFields (Option Bits)
opening_fields o = record { share = share_field o.share 100000; system = system_field o.system }
