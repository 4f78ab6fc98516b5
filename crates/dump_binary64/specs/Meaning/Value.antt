-- A VALUE OF A DUMP BY ITS 64 BITS (S-5): an exact fraction, and its product with a whole number, rounded once to
-- binary64. No machine float enters. `round` is the library's: the value of the format nearest to a fraction; of
-- two equally near, the even one. Assumes nothing.
use Rattle.std.specs.Prelude.{ℕ, ◌+◌, ◌-◌, ◌*◌, ◌/◌, ◌%◌, ◌^◌, ◌<◌, ◌≤◌, Bool, cond, not, ◌&&◌, List, ◌==◌, nat_le, nat_lt, Float}
use Rattle.std.specs.Float.{binary64}
use Rattle.std.specs.Float.Ieee.{round}
use Rattle.std.specs.Float.Ieee.Positive.{num, den}
use Rattle.rules.specs.Meaning.Layout.{u32_at}

-- value n of a dump: eight bytes, little-endian
unfoldable pub bits_at : List ℕ → ℕ → ℕ
bits_at dump n = u32_at dump (8 * n) + 4294967296 * u32_at dump (8 * n + 4)

-- its sign, one bit; the exponent field, 11 bits; the fraction field, 52 bits
abbrev pub minus : ℕ → Bool
minus b = nat_le (2 ^ 63) b

abbrev pub exponent : ℕ → ℕ
exponent b = b % 2 ^ 63 / 2 ^ 52

abbrev pub fraction : ℕ → ℕ
fraction b = b % 2 ^ 52

-- an exponent field of all ones means an infinity or a NaN
unfoldable pub finite : ℕ → Bool
finite b = not (exponent b == 2047)

-- a finite value is units b / 2 ^ 1074, with its sign; at exponent field 0 there is no implied leading one
unfoldable pub units : ℕ → ℕ
units b = cond (exponent b == 0) (fraction b) ((2 ^ 52 + fraction b) * 2 ^ (exponent b - 1))

-- below zero, which minus zero is not; above one
unfoldable pub negative : ℕ → Bool
negative b = minus b && nat_lt 0 (units b)

unfoldable pub above_one : ℕ → Bool
above_one b = nat_lt (2 ^ 1074) (units b)

-- the product with a whole number, rounded once; above the format's greatest value it is an infinity
unfoldable pub product : ℕ → ℕ → Float
product b factor = round binary64 (minus b) (units b * factor) (2 ^ 1074)

-- the size of a finite product, which is the fraction num p / den p: cut to a whole number, and taken to the
-- nearest, halves away from zero
unfoldable pub cut : Float → ℕ
cut p = num p / den p

unfoldable pub nearest : Float → ℕ
nearest p = (2 * num p + den p) / (2 * den p)

-- THE EXACT PRODUCT of the share b and the whole q is the fraction units b * q / 2 ^ 1074: v is at most the whole,
-- and differs from the product by less than one
pub record ShareWithin (b q v : ℕ) : Type 0 where
  pub most : v ≤ q
  pub over : v * 2 ^ 1074 < units b * q + 2 ^ 1074
  pub under : units b * q < v * 2 ^ 1074 + 2 ^ 1074
