-- MONEY IN TWO NUMBERS (S-14), in plain numbers: what whole microcents and parts of one are together; an amount has
-- one such pair; which loads and prices can be written so; the whole microcents fit 64 bits. Assumes nothing.
use Rattle.std.specs.Prelude.{◌≡◌, refl, ◌↔◌, ℕ, ◌+◌, ◌*◌, ◌/◌, ◌%◌, ◌≤◌, ◌<◌, ℤ, pos, ◌*ℤ◌, ◌≤ℤ◌}
use Rattle.std.proofs.Common.{arith}
use Rattle.base_integers.specs.Steps.Difference.{at, ◌⊗◌, eq-fact, le-fact}
use Rattle.base_limits.specs.Meaning.Exact.{exactly, Costs}

-- 100,000 parts are one microcent
pub exactly-is : (whole parts : ℕ) → exactly whole parts ≡ whole * 100000 + parts
exactly-is whole parts = refl

-- with under 100,000 parts an amount has one pair: quotient and remainder
pub one-pair : (whole parts amount : ℕ) → ((exactly whole parts ≡ amount) × (parts < 100000)) ↔ ((whole ≡ amount / 100000) × (parts ≡ amount % 100000))
one-pair whole parts amount = (λ h. (omega (arith, h.0, h.1), omega (arith, h.0, h.1)), λ h. (omega (arith, h.0, h.1), omega (arith, h.1)))

-- WHAT CAN BE WRITTEN: a load and a price from 0 on, the price at most 1,000,000 cents in grains, the product at
-- most 9 * 10^23
pub costs-are : (load price : ℤ)
    → Costs load price ↔ (((pos 0 ≤ℤ load) × (pos 0 ≤ℤ price)) × ((price ≤ℤ pos 100000000000) × ((load *ℤ price) ≤ℤ pos 900000000000000000000000)))
costs-are load price = (
  λ c. ((c.load-in, c.price-in), (c.price-small, c.small)),
  λ h. record { load-in = h.0.0; price-in = h.0.1; price-small = h.1.0; small = h.1.1 },
)

-- the pair that is the product has at most 9 * 10^18 whole microcents, less than 2^63
pub whole_below : (load price : ℤ) (whole parts : ℕ) → Costs load price → pos (exactly whole parts) ≡ load *ℤ price → whole ≤ 9000000000000000000
whole_below load price whole parts c e =
    omega (arith, eq-fact (at (pos (exactly whole parts))) (at load ⊗ at price) e, le-fact (at load ⊗ at price) (at (pos 900000000000000000000000)) c.small)
