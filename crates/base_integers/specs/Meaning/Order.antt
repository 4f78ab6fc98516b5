-- The larger of two integers, and the positive part of an integer.
use Rattle.std.specs.Prelude.{cond, ℤ, pos}
use Rattle.std.specs.Int.Signed.{lt_z}

-- the larger of two; the positive part, zero below zero
abbrev pub larger : ℤ → ℤ → ℤ
larger a b = cond (lt_z a b) b a

abbrev pub positive : ℤ → ℤ
positive x = larger (pos 0) x
