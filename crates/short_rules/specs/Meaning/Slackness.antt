-- COMPLEMENTARY SLACKNESS in the terms of Annex 14.29, appendix A, for a solution x of (60) to (72) and multipliers
-- y. A variable above zero meets its dual condition with equality, and a multiplier above zero its constraint. l
-- and k are zones, i is an order, m a branch. Assumes nothing.
use Rattle.std.specs.Prelude.{◌≡◌, ℕ, ◌*◌, ◌<◌, ℤ, pos, ◌*ℤ◌, ◌≤ℤ◌, ◌<ℤ◌}
use Rattle.base_integers.specs.Meaning.Sums.{sum_to}
use Rattle.base_limits.specs.Meaning.Limits.{parts_in_one}
use Rattle.rules.specs.Meaning.Hour.{Case, buys, above}
use Rattle.rules.specs.Meaning.Annex.{Solution, Multipliers, Complementary, capacity_lta, margin_value, capacity_value}

-- how far an order's price, in grains, is on the good side of its zone's
unfoldable pub order_gain : Case → Multipliers → ℕ → ℤ
order_gain c y i = above (buys c i) (pos parts_in_one *ℤ c.price i) (y.price (c.zone i))

pub record Slackness (c : Case) (x : Solution) (y : Multipliers) : Type 0 where
  -- (61), x_i > 0: what is accepted of an order loses nothing at its zone's price
  pub accepted-earns : (i : ℕ) → i < c.orders → pos 0 <ℤ x.accepted i → pos 0 ≤ℤ order_gain c y i
  -- (61), x_i < 1: what is left of it would earn nothing
  pub left-earns-nothing : (i : ℕ) → i < c.orders → x.accepted i <ℤ pos (x.den * c.quantity i) → order_gain c y i ≤ℤ pos 0
  -- (67), ShadowPrice_m > 0: the branch is used up
  pub margin-used : (m : ℕ) → m < c.branches → 0 < y.shadow m → sum_to c.zones (λ l. c.ptdf m l *ℤ x.netpos_fb l) ≡ x.alpha1 *ℤ c.ram m
  -- (70), w^LTA_{l,k} > 0: the capacity is used up
  pub capacity-used : (l k : ℕ) → l < c.zones → k < c.zones → pos 0 <ℤ y.w l k → pos parts_in_one *ℤ x.flow_lta l k ≡ x.alpha2 *ℤ capacity_lta c l k
  -- (77), flow^LTA_{l,k} > 0
  pub flow-priced : Complementary c x y
  -- (66), α₁ > 0 and α₂ > 0: no weight above zero is on the smaller of the two totals
  pub flow-based-best : 0 < c.links → pos 0 <ℤ x.alpha1 → capacity_value c y ≤ℤ (pos parts_in_one *ℤ margin_value c y)
  pub long-term-best : pos 0 <ℤ x.alpha2 → (pos parts_in_one *ℤ margin_value c y) ≤ℤ capacity_value c y
