-- An integer as a difference of two natural numbers, one of them zero.
use Rattle.std.specs.Prelude.{ℕ, zero, suc, ℤ, pos, negsuc}

abbrev pub up : ℤ → ℕ
up (pos n) = n
up (negsuc n) = zero

abbrev pub dn : ℤ → ℕ
dn (pos n) = zero
dn (negsuc n) = suc n
