-- What a value of a dump becomes: the number of its field, or that it does not fit. Assumes nothing.
use Rattle.std.specs.Prelude.{Bool, true, false, not, ℕ, ℤ, Option, Some, None}
use Rattle.std.specs.Int.{w64}
use Rattle.std.proofs.Common.{of_z}
use Rattle.base_integers.specs.declared.Bits.{Bits}
use Rattle.dump_values.specs.Meaning.Field.{Kind, converted, fault}

abbrev pub field_by : Bool → ℤ → Option Bits
field_by true z = Some (record { 0 = of_z w64 z })
field_by false z = None

-- by the bits
abbrev pub field_of : Kind → ℕ → Option Bits
field_of k b = field_by (not (fault k b)) (converted k b)
