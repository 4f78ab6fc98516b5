-- MONEY TO HUNDRED-THOUSANDTHS OF A MICROCENT (S-14): a load at a price in grains, as two numbers, since one would
-- exceed 64 bits. Assumes nothing.
use Rattle.std.specs.Prelude.{ℕ, ◌+◌, ◌*◌, ℤ, pos, ◌*ℤ◌, ◌≤ℤ◌}
use Rattle.base_limits.specs.Meaning.Limits.{parts_in_one}

-- whole microcents and parts of one, as one number of hundred-thousandths
abbrev pub exactly : ℕ → ℕ → ℕ
exactly whole parts = whole * parts_in_one + parts

-- what two such numbers can hold: neither factor is below zero, the price is at most the highest shadow price,
-- 1,000,000 cents, and the whole microcents fit 64 bits
pub record Costs (load price : ℤ) : Type 0 where
  pub load-in : pos 0 ≤ℤ load
  pub price-in : pos 0 ≤ℤ price
  pub price-small : price ≤ℤ pos 100000000000
  pub small : (load *ℤ price) ≤ℤ pos 900000000000000000000000
