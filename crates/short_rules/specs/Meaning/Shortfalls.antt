-- REQUEST S-14, who may be off, and by how much: the three shortfalls of an hour with the case c, the proposal p
-- and the prices d, in whole hundred-thousandths of a microcent, and the promises about them. A proposal's
-- denominator is 1. Assumes nothing.
use Rattle.std.specs.Prelude.{◌≡◌, cond, ℕ, ◌<◌, ℤ, pos, ◌+ℤ◌, ◌-ℤ◌, ◌*ℤ◌, ◌≤ℤ◌}
use Rattle.base_integers.specs.Meaning.Order.{positive}
use Rattle.base_integers.specs.Meaning.Sums.{sum_to}
use Rattle.base_limits.specs.Meaning.Limits.{parts_in_one}
use Rattle.rules.specs.Meaning.Hour.{Case, Plan, Prices, buys, above, branch_use, branch_room, zone_price, order_surplus, branch_total, spread, link_total, no_link}

-- what an order's accepted volume earns at the zone price, in microcents; below zero where the price is on the
-- wrong side
unfoldable pub earned : Case → Plan → Prices → ℕ → ℤ
earned c p d i = pos (p.volume i) *ℤ above (buys c i) (pos parts_in_one *ℤ c.price i) (zone_price c d (c.zone i))

-- EACH ORDER: 100,000 times its rule 8 surplus less what its accepted volume earns at the zone price
unfoldable pub order_shortfall : Case → Plan → Prices → ℕ → ℤ
order_shortfall c p d i = pos parts_in_one *ℤ (order_surplus c d i -ℤ earned c p d i)

-- EACH BRANCH: 100,000 times its shadow price times what the flow-based part leaves free of the margin scaled by
-- the flow-based share (rule 5)
unfoldable pub branch_shortfall : Case → Plan → Prices → ℕ → ℤ
branch_shortfall c p d m = pos parts_in_one *ℤ (pos (d.shadow m) *ℤ (branch_room c p m -ℤ branch_use c p m))

-- EACH LINK: capacity times the LTA share as stored times its positive spread, less 100,000 times flow times the spread
unfoldable pub link_shortfall : Case → Plan → Prices → ℕ → ℤ
link_shortfall c p d l = pos (c.capacity l) *ℤ pos p.share *ℤ positive (spread c d l) -ℤ pos parts_in_one *ℤ (pos (p.flow l) *ℤ spread c d l)

-- ALL TOGETHER
unfoldable pub all_shortfalls : Case → Plan → Prices → ℤ
all_shortfalls c p d =
    sum_to c.orders (λ i. order_shortfall c p d i)
    +ℤ sum_to c.branches (λ m. branch_shortfall c p d m)
    +ℤ sum_to c.links (λ l. link_shortfall c p d l)

-- THE LARGER TOTAL'S LEAD, weighed by the two shares: rule 10 takes the larger of branch total and link total, and
-- its lead over the other counts with the other's share
unfoldable pub weighed_lead : Case → Plan → Prices → ℤ
weighed_lead c p d =
    (pos parts_in_one -ℤ pos p.share) *ℤ positive (link_total c d -ℤ branch_total c d)
    +ℤ pos p.share *ℤ positive (branch_total c d -ℤ link_total c d)

-- WHAT IS LEFT OF THE GAP: without links there is only one total (S-6), and nothing is left
unfoldable pub lead_left : Case → Plan → Prices → ℤ
lead_left c p d = cond (no_link c) (pos 0) (weighed_lead c p d)

-- THE PROMISES for an accepted hour whose gap, in microcents, is g
pub record Accounted (c : Case) (p : Plan) (d : Prices) (g : ℤ) : Type 0 where
  -- none is negative
  pub order-in : (i : ℕ) → i < c.orders → pos 0 ≤ℤ order_shortfall c p d i
  pub branch_in : (m : ℕ) → m < c.branches → pos 0 ≤ℤ branch_shortfall c p d m
  pub link-in : (l : ℕ) → l < c.links → pos 0 ≤ℤ link_shortfall c p d l
  -- all together are at most the gap
  pub together : all_shortfalls c p d ≤ℤ (pos parts_in_one *ℤ g)
  -- and so is each
  pub order-within : (i : ℕ) → i < c.orders → order_shortfall c p d i ≤ℤ (pos parts_in_one *ℤ g)
  pub branch-within : (m : ℕ) → m < c.branches → branch_shortfall c p d m ≤ℤ (pos parts_in_one *ℤ g)
  pub link-within : (l : ℕ) → l < c.links → link_shortfall c p d l ≤ℤ (pos parts_in_one *ℤ g)
  -- at gap zero each is zero
  pub order-zero : g ≡ pos 0 → (i : ℕ) → i < c.orders → order_shortfall c p d i ≡ pos 0
  pub branch-zero : g ≡ pos 0 → (m : ℕ) → m < c.branches → branch_shortfall c p d m ≡ pos 0
  pub link-zero : g ≡ pos 0 → (l : ℕ) → l < c.links → link_shortfall c p d l ≡ pos 0
  -- the exact account; what is left is not negative either
  pub account : pos parts_in_one *ℤ g ≡ all_shortfalls c p d +ℤ lead_left c p d
  pub left_in : pos 0 ≤ℤ lead_left c p d
