-- DOCUMENT 01'S NUMBERS, for every integer: the test of a limit passes if and only if the integer is from the one
-- number to the other, both included. Also the laws that tie the four measures together. The numbers are the
-- paper's own and cite no name, so another limit or unit fails here. Assumes nothing.
use Rattle.std.specs.Prelude.{◌≡◌, refl, not, ◌↔◌, T, ℤ, pos, neg_ℤ, ◌*ℤ◌, ◌≤ℤ◌}
use Rattle.std.proofs.Common.{arith}
use Rattle.base_integers.specs.Steps.Difference.{at, ◌⊗◌, eq-by}
use Rattle.base_integers.specs.Meaning.Ranges.{Range, outside}
use Rattle.base_integers.specs.Steps.Ranges.{within, inside}
use Rattle.base_limits.specs.Meaning.Limits as limits

-- a limit allows the numbers from a to b, and nothing else
abbrev pub Allows : Range → ℤ → ℤ → Type 0
Allows r a b = (x : ℤ) → T (not (outside r x)) ↔ ((a ≤ℤ x) × (x ≤ℤ b))

both : (r : Range) → Allows r r.least r.greatest
both r x = (λ t. let w = within r x t in (w.least-le, w.le-greatest), λ h. inside r x (record { least-le = h.0; le-greatest = h.1 }))

-- TENTHS
pub margin-is : Allows limits.margin (neg_ℤ (pos 500000)) (pos 500000)
margin-is = both limits.margin

pub quantity-is : Allows limits.quantity (pos 1) (pos 100000)
quantity-is = both limits.quantity

pub capacity-is : Allows limits.capacity (pos 0) (pos 100000)
capacity-is = both limits.capacity

pub net-position-is : Allows limits.net_position (neg_ℤ (pos 51200000)) (pos 51200000)
net-position-is = both limits.net_position

-- CENTS
pub order-price-is : Allows limits.order_price (neg_ℤ (pos 50000)) (pos 400000)
order-price-is = both limits.order_price

pub shadow-price-is : Allows limits.shadow_price (pos 0) (pos 1000000)
shadow-price-is = both limits.shadow_price

pub system-price-is : Allows limits.system_price (neg_ℤ (pos 2147483648)) (pos 2147483647)
system-price-is = both limits.system_price

pub tolerance-is : Allows limits.tolerance (pos 0) (pos 1000000000)
tolerance-is = both limits.tolerance

pub accepted-tolerance-is : Allows limits.accepted_tolerance (pos 0) (pos 10000)
accepted-tolerance-is = both limits.accepted_tolerance

-- GRAINS: -50,000 and 400,000 cents
pub zone-price-is : Allows limits.zone_price (neg_ℤ (pos 5000000000)) (pos 40000000000)
zone-price-is = both limits.zone_price

-- MICROCENTS: 0 and 1,000,000,000 cents
pub tolerance-money-is : Allows limits.tolerance_money (pos 0) (pos 1000000000000000)
tolerance-money-is = both limits.tolerance_money

-- and 10,000 cents (S-12)
pub accepted-tolerance-money-is : Allows limits.accepted_tolerance_money (pos 0) (pos 10000000000)
accepted-tolerance-money-is = both limits.accepted_tolerance_money

-- HUNDRED-THOUSANDTHS
pub ptdf-is : Allows limits.ptdf (neg_ℤ (pos 200000)) (pos 200000)
ptdf-is = both limits.ptdf

pub share-is : Allows limits.share (pos 0) (pos 100000)
share-is = both limits.share

pub parts_are : limits.parts_in_one ≡ 100000
parts_are = refl

-- THE UNITS: a cent per MWh has 100,000 grains, a cent a million microcents
pub grains-are : (cents : ℤ) → limits.grains_of cents ≡ pos 100000 *ℤ cents
grains-are cents = refl

pub microcents-are : (cents : ℤ) → limits.microcents_of cents ≡ pos 1000000 *ℤ cents
microcents-are cents = refl

-- what ties the four: ten tenths, one MWh, at some cents per MWh cost as many cents; a tenth times a grain is a
-- microcent
pub ten-tenths-cost : (cents : ℤ) → pos 10 *ℤ limits.grains_of cents ≡ limits.microcents_of cents
ten-tenths-cost cents = eq-by (at (pos 10) ⊗ (at (pos 100000) ⊗ at cents)) (at (pos 1000000) ⊗ at cents) (omega arith)
