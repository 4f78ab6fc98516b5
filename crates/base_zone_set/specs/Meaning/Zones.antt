-- A set of zones as sixteen bits: bit z is set if and only if zone z is a member.
use Rattle.std.specs.Prelude.{Bool, ◌&&◌, ℕ, ◌/◌, ◌%◌, ◌^◌, eqb, ltb}
use Rattle.std.specs.Int.Bits.{bit_or}

abbrev pub member : ℕ → ℕ → Bool
member x b = ltb b 16 && eqb (x / 2 ^ b % 2) 1

-- with one zone more
abbrev pub added : ℕ → ℕ → ℕ
added x b = bit_or x (2 ^ b)
