-- Document 01's limits, each with the measure that it bounds. Both ends are allowed. Assumes nothing.
use Rattle.std.specs.Prelude.{ℕ, ℤ, pos, ◌*ℤ◌}
use Rattle.base_integers.specs.Meaning.Ranges.{Range, range, minus}

-- PTDFs and the LTA share are in hundred-thousandths: this many are one
abbrev pub parts_in_one : ℕ
parts_in_one = 100000

-- cents per MWh in grains, 100,000 to the cent, and cents in microcents
abbrev pub grains_of : ℤ → ℤ
grains_of cents = pos parts_in_one *ℤ cents

abbrev pub microcents_of : ℤ → ℤ
microcents_of cents = pos 1000000 *ℤ cents

-- TENTHS: volumes
abbrev pub margin : Range
margin = range (minus 500000) (pos 500000)

abbrev pub quantity : Range
quantity = range (pos 1) (pos 100000)

abbrev pub capacity : Range
capacity = range (pos 0) (pos 100000)

-- a net position (S-3): the greatest count of orders, each of the largest quantity
abbrev pub net_position : Range
net_position = range (minus 51200000) (pos 51200000)

-- CENTS: prices per MWh. Any 32 signed bits are a system price.
abbrev pub order_price : Range
order_price = range (minus 50000) (pos 400000)

abbrev pub shadow_price : Range
shadow_price = range (pos 0) (pos 1000000)

abbrev pub system_price : Range
system_price = range (minus 2147483648) (pos 2147483647)

-- GRAINS: zone prices, which have the order prices' limits
abbrev pub zone_price : Range
zone_price = range (grains_of (minus 50000)) (grains_of (pos 400000))

-- MICROCENTS: the tolerance, which a case has in cents
abbrev pub tolerance : Range
tolerance = range (pos 0) (pos 1000000000)

abbrev pub tolerance_money : Range
tolerance_money = range (microcents_of tolerance.least) (microcents_of tolerance.greatest)

-- and the tolerance of an hour that may be accepted (S-12), in cents too
abbrev pub accepted_tolerance : Range
accepted_tolerance = range (pos 0) (pos 10000)

abbrev pub accepted_tolerance_money : Range
accepted_tolerance_money = range (microcents_of accepted_tolerance.least) (microcents_of accepted_tolerance.greatest)

-- HUNDRED-THOUSANDTHS: PTDFs and the LTA share
abbrev pub ptdf : Range
ptdf = range (minus 200000) (pos 200000)

abbrev pub share : Range
share = range (pos 0) (pos parts_in_one)
