-- S-14: CONTRACTED VOLUMES DO NOT ENTER. Two cases that differ only in contracted volumes have the same shortfalls,
-- and the same is left. Assumes nothing.
use Rattle.std.specs.Prelude.{◌≡◌, ℕ}
use Rattle.std.proofs.Math.Path.{refl}
use Rattle.rules.specs.Meaning.Hour.{Case, Plan, Prices, buys, order_net, net, inflow, outflow, lta_part, fb_part, branch_use, branch_room, branch_price, zone_price, order_surplus, branch_value, branch_total, spread, link_value, link_total, no_link}
use Rattle.rules.proofs.Promised.Contracted.{contracting}
use Rattle.short_rules.specs.Meaning.Shortfalls.{earned, order_shortfall, branch_shortfall, link_shortfall, weighed_lead, lead_left}

module _ (f : ℕ → ℕ) (c : Case) (p : Plan) (d : Prices) where
  pub same-order : (i : ℕ) → order_shortfall (contracting f c) p d i ≡ order_shortfall c p d i
  unfolding contracting order_shortfall earned order_surplus buys zone_price branch_price
  same-order i = refl

  pub same_branch : (m : ℕ) → branch_shortfall (contracting f c) p d m ≡ branch_shortfall c p d m
  unfolding contracting branch_shortfall branch_room branch_use fb_part net order_net buys lta_part inflow outflow
  same_branch m = refl

  pub same-link : (l : ℕ) → link_shortfall (contracting f c) p d l ≡ link_shortfall c p d l
  unfolding contracting link_shortfall spread zone_price branch_price
  same-link l = refl

  pub same_left : lead_left (contracting f c) p d ≡ lead_left c p d
  unfolding contracting lead_left weighed_lead no_link branch_total branch_value link_total link_value spread zone_price branch_price
  same_left = refl
