-- Sums of natural numbers over the indices below a count.
use Rattle.std.specs.Prelude.{Bool, true, false, ℕ, zero, suc, ◌+◌}

unfoldable pub sum_nat : ℕ → (ℕ → ℕ) → ℕ
sum_nat zero f = 0
sum_nat (suc n) f = sum_nat n f + f n

-- x where the flag is set, else zero
abbrev pub only : Bool → ℕ → ℕ
only true x = x
only false x = 0
