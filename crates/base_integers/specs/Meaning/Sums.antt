-- Sums of integers over the indices below a count, in the order in which a loop adds them.
use Rattle.std.specs.Prelude.{Bool, true, false, ℕ, zero, suc, ◌+◌, ℤ, pos, ◌+ℤ◌}

unfoldable pub sum_to : ℕ → (ℕ → ℤ) → ℤ
sum_to zero f = pos 0
sum_to (suc n) f = sum_to n f +ℤ f n

-- x where the flag is set, else zero
abbrev pub only : Bool → ℤ → ℤ
only true x = x
only false x = pos 0
