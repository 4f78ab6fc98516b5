-- WHAT IS PROMISED IN THE ANNEX'S TERMS: when a clearing and a solution of (60) to (72) are the same, which
-- multipliers a proposal's prices are, and demand 3 of an accepted hour. Assumes nothing.
use Rattle.std.specs.Prelude.{◌≡◌, Bool, List, ℕ, ◌<◌, ℤ, pos, ◌+ℤ◌, ◌-ℤ◌, ◌*ℤ◌, ◌≤ℤ◌}
use Rattle.base_integers.specs.Meaning.Order.{positive}
use Rattle.rules.specs.Meaning.Hour.{Case, Plan, Prices, case_of, plan_of, prices_of, zone_price, net, lta_part, fb_part, welfare}
use Rattle.rules.specs.Meaning.Clearing.{Clearing}
use Rattle.rules.specs.Meaning.Annex.{Solution, Network, Feasible, AlongLines, Multipliers, Complementary, every_pair, PriceConditions, congestion_rent, liabilities, objective}
use Rattle.rules.specs.Meaning.Report.{reported_welfare, reported_gap, reported_rent, reported_owed, reported_price}
use Rattle.rules.specs.Meaning.Promise.{HasLink}

-- THE SAME CLEARING: volumes, LTA flows and share agree
pub record Same (c : Case) (p : Plan) (x : Solution) : Type 0 where
  pub den : p.den ≡ x.den
  pub share : pos p.share ≡ x.alpha2
  pub volume : (i : ℕ) → i < c.orders → pos (p.volume i) ≡ x.accepted i
  pub flow : (j : ℕ) → j < c.links → pos (p.flow j) ≡ x.flow_lta (c.from j) (c.to j)

-- then welfare, net positions and their two parts agree
pub record Agree (c : Case) (p : Plan) (x : Solution) : Type 0 where
  pub welfare-is : welfare c p ≡ objective c x
  pub net-is : (l : ℕ) → l < c.zones → net c p l ≡ x.netpos l
  pub lta-part-is : (l : ℕ) → l < c.zones → lta_part c p l ≡ x.netpos_lta l
  pub fb-part-is : (l : ℕ) → l < c.zones → fb_part c p l ≡ x.netpos_fb l

-- a clearing that is the solution x
pub record IsClearing (c : Case) (x : Solution) : Type 0 where
  pub plan : Plan
  pub clearing : Clearing c plan
  pub same : Same c plan x
  pub agree : Agree c plan x

-- a feasible solution that is the plan p, with commercial flow along lines only
pub record IsFeasible (c : Case) (line : ℕ → ℕ → Bool) (p : Plan) : Type 0 where
  pub solution : Solution
  pub feasible : Feasible c solution
  pub same : Same c p solution
  pub agree : Agree c p solution
  pub along-lines : AlongLines c line solution

-- THE PRICES of a proposal as the Annex's multipliers: rule 6's zone prices, with the positive spreads as w
unfoldable pub multipliers_of : Case → Prices → Multipliers
multipliers_of c d = record {
  price = zone_price c d;
  price_split = zone_price c d;
  price_fb = λ l. d.system;
  price_lta = zone_price c d;
  shadow = d.shadow;
  w = λ l k. positive (zone_price c d k -ℤ zone_price c d l);
}

-- DEMAND 3 IN THE ANNEX'S TERMS, in the numbers of an accepted hour's report
pub record AnnexDemand3 (s t : List ℕ) (report : List ℕ) : Type 0 where
  -- the proposal solves (60) to (72), with commercial flows between any two zones
  pub is-feasible : IsFeasible (case_of s) every_pair (plan_of s t)
  pub welfare-is : objective (case_of s) is-feasible.solution ≡ reported_welfare report
  -- (59): no solution has more than welfare and gap together
  pub is-accurate : (x : Solution) → Feasible (case_of s) x → objective (case_of s) x ≤ℤ (pos x.den *ℤ (reported_welfare report +ℤ reported_gap report))
  -- (73) to (79): the reported prices are multipliers, with the proposal's system and shadow prices. (77) holds at
  -- an optimum, so at a gap of zero.
  pub is-priced : PriceConditions (case_of s) every_pair (multipliers_of (case_of s) (prices_of s t))
  pub price-is : (l : ℕ) → l < (case_of s).zones → reported_price report l ≡ (multipliers_of (case_of s) (prices_of s t)).price l
  pub is-complementary : reported_gap report ≡ pos 0 → Complementary (case_of s) is-feasible.solution (multipliers_of (case_of s) (prices_of s t))
  -- (82): at these prices no exchange that the network allows earns more than rent and gap together
  pub is-network-best : (x : Solution) → Network (case_of s) x → congestion_rent (case_of s) x (reported_price report) ≤ℤ (pos x.den *ℤ (reported_rent report +ℤ reported_gap report))
  -- (81): its left side is the rent, its right side is over the capacities. The rent covers the right side up to
  -- the gap in an hour with a link (S-6). Owed, on the contracted volumes, is at most the right side (S-4), and
  -- equal to it where each contracted volume is its link's capacity.
  pub rent-is : congestion_rent (case_of s) is-feasible.solution (reported_price report) ≡ reported_rent report
  pub owed-within : reported_owed report ≤ℤ liabilities (case_of s) (reported_price report)
  pub owed_all : ((l : ℕ) → l < (case_of s).links → (case_of s).contracted l ≡ (case_of s).capacity l) → reported_owed report ≡ liabilities (case_of s) (reported_price report)
  pub is-covered : HasLink s → (liabilities (case_of s) (reported_price report) -ℤ reported_gap report) ≤ℤ congestion_rent (case_of s) is-feasible.solution (reported_price report)
