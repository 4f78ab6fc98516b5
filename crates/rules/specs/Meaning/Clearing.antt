-- A clearing of the case, and a case whose zones exist. Assumes nothing.
use Rattle.std.specs.Prelude.{◌≡◌, ℕ, ◌*◌, ◌≤◌, ◌<◌, pos}
use Rattle.base_limits.specs.Meaning.Limits.{parts_in_one}
use Rattle.rules.specs.Meaning.Hour.{Case, Plan, net_sum, Kept, KeptZ, link_rule, branch_rule}

-- EVERY ZONE EXISTS: each zone that a link or an order names is a zone of the case. Rows 7 and 8 ask for it.
pub record Placed (c : Case) : Type 0 where
  pub from-in : (l : ℕ) → l < c.links → c.from l < c.zones
  pub to-in : (l : ℕ) → l < c.links → c.to l < c.zones
  pub zone-in : (i : ℕ) → i < c.orders → c.zone i < c.zones

-- Volumes from zero to the order's quantity, flows that are not negative, and an LTA share from 0 to 100,000 that
-- meet rules 3, 4 and 5. All are whole numbers over the plan's common positive denominator. Without links the LTA
-- share is 0, so such a clearing is flow-based (S-6).
pub record Clearing (c : Case) (p : Plan) : Type 0 where
  pub den-positive : 0 < p.den
  -- (61)
  pub volume-in : (i : ℕ) → i < c.orders → p.volume i ≤ p.den * c.quantity i
  -- (65), (66)
  pub share-in : p.share ≤ parts_in_one * p.den
  -- S-6
  pub without-links : c.links ≡ 0 → p.share ≡ 0
  -- rule 3
  pub balance : net_sum c p ≡ pos 0
  -- rule 4
  pub link : (l : ℕ) → l < c.links → Kept (link_rule c p l)
  -- rule 5
  pub branch : (m : ℕ) → m < c.branches → KeptZ (branch_rule c p m)
