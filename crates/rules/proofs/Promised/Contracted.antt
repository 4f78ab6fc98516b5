-- S-4: WHAT CONTRACTED VOLUMES CHANGE. Change the contracted volumes of a case: clearings, welfare, bound, gap and
-- rent stay, so the accuracy rule does not depend on them. Owed is the link total where every capacity is
-- contracted, zero where nothing is, and never less where more is contracted. Assumes nothing.
use Rattle.std.specs.Prelude.{◌≡◌, ℕ, ◌≤◌, ◌<◌, ℤ, ◌*ℤ◌, ◌≤ℤ◌}
use Rattle.std.proofs.Math.Path.{refl}
use Rattle.std.proofs.Common.{◌∙◌, arith}
use Rattle.std.proofs.Math.IntN.{pos}
use Rattle.base_integers.specs.Steps.Difference.{at, ◌⊗◌, eq-by}
use Rattle.base_integers.specs.Meaning.Order.{positive}
use Rattle.base_integers.specs.Steps.Sums.{sum-ext, sum-zero, sum-le}
use Rattle.rules.specs.Meaning.Hour.{Case, Plan, Prices, buys, order_net, net, inflow, outflow, lta_part, fb_part, net_sum, link_use, link_room, branch_use, branch_room, branch_price, zone_price, order_welfare, welfare, order_surplus, surplus, branch_value, branch_total, spread, link_value, link_total, link_owed, owed, no_link, network_bound, bound, gap, rent}
use Rattle.rules.specs.Meaning.Clearing.{Clearing}
use Rattle.rules.proofs.Steps.Duality.{more-le}

-- the case with these contracted volumes
unfoldable pub contracting : (ℕ → ℕ) → Case → Case
contracting f c = record {
  zones = c.zones;
  branches = c.branches;
  links = c.links;
  orders = c.orders;
  tolerance = c.tolerance;
  ram = c.ram;
  ptdf = c.ptdf;
  from = c.from;
  to = c.to;
  capacity = c.capacity;
  contracted = f;
  zone = c.zone;
  side = c.side;
  quantity = c.quantity;
  price = c.price;
}

module _ (f : ℕ → ℕ) (c : Case) where
  -- what does not change
  pub same-bound : (d : Prices) → bound (contracting f c) d ≡ bound c d
  unfolding contracting bound surplus order_surplus buys zone_price branch_price no_link network_bound branch_total branch_value link_total link_value spread
  same-bound d = refl

  pub same-welfare : (p : Plan) → welfare (contracting f c) p ≡ welfare c p
  unfolding contracting welfare order_welfare buys
  same-welfare p = refl

  pub same_gap : (p : Plan) (d : Prices) → gap (contracting f c) p d ≡ gap c p d
  unfolding gap
  same_gap p d = cc (same-bound d, same-welfare p)

  pub same-rent : (p : Plan) (d : Prices) → rent (contracting f c) p d ≡ rent c p d
  unfolding contracting rent net order_net buys zone_price branch_price
  same-rent p d = refl

  pub same-clearings : (p : Plan) → Clearing c p → Clearing (contracting f c) p
  unfolding contracting net_sum net order_net buys link_use link_room branch_use branch_room fb_part lta_part inflow outflow
  same-clearings p cl = record {
    den-positive = cl.den-positive;
    volume-in = cl.volume-in;
    share-in = cl.share-in;
    without-links = cl.without-links;
    balance = cl.balance;
    link = cl.link;
    branch = cl.branch;
  }

  -- what changes: owed
  pub all-owed : (d : Prices) → ((l : ℕ) → l < c.links → f l ≡ c.capacity l) → owed (contracting f c) d ≡ link_total c d
  unfolding contracting owed link_owed link_total link_value spread zone_price branch_price
  all-owed d h = sum-ext c.links _ _ (λ l k. λ j. pos (h l k j) *ℤ positive (spread c d l))

  pub nothing-owed : (d : Prices) → ((l : ℕ) → l < c.links → f l ≡ 0) → owed (contracting f c) d ≡ pos 0
  unfolding contracting owed link_owed spread zone_price branch_price
  nothing-owed d h = sum-ext c.links _ _ (λ l k. (λ j. pos (h l k j) *ℤ positive (spread c d l)) ∙ none (positive (spread c d l))) ∙ sum-zero c.links
    where
      none : (t : ℤ) → pos 0 *ℤ t ≡ pos 0
      none t = eq-by (at (pos 0) ⊗ at t) (at (pos 0)) (omega arith)

  pub more-owed : (d : Prices) → ((l : ℕ) → l < c.links → c.contracted l ≤ f l) → owed c d ≤ℤ owed (contracting f c) d
  unfolding contracting owed link_owed spread zone_price branch_price
  more-owed d h = sum-le c.links _ _ (λ l k. more-le (c.contracted l) (f l) (spread c d l) (h l k))
