-- The hour: case, plan and prices, and the sums of rules 1 to 11. Equation numbers are those of Annex 14.29,
-- appendix A. Import is positive. Volumes are in tenths of a MWh; order, system and shadow prices in cents; zone
-- prices in grains; money in microcents. An unsigned field is a ℕ, a signed one a ℤ. A table is a function of the
-- index; its values at or above its count mean nothing. Assumes nothing.
use Rattle.std.specs.Prelude.{Bool, true, false, cond, List, ℕ, ◌*◌, ◌≤◌, eqb, ltb, ℤ, pos, neg_ℤ, ◌+ℤ◌, ◌-ℤ◌, ◌*ℤ◌, ◌≤ℤ◌}
use Rattle.std.specs.Int.Signed.{lt_z}
use Rattle.base_integers.specs.Meaning.Order.{larger, positive}
use Rattle.base_integers.specs.Meaning.Sums.{sum_to, only}
use Rattle.base_limits.specs.Meaning.Limits.{parts_in_one}
use Rattle.rules.specs.Meaning.Layout.{zones_in, branches_in, links_in, orders_in, tolerance_in, ram_in, ptdf_in, from_in, to_in, capacity_in, contracted_in, zone_in, side_in, quantity_in, price_in, share_in, system_in, volume_in, flow_in, shadow_in}

pub record Case : Type 0 where
  pub zones : ℕ
  pub branches : ℕ
  pub links : ℕ
  pub orders : ℕ
  -- cents
  pub tolerance : ℕ
  pub ram : ℕ → ℤ
  -- PTDF of a branch and a zone, hundred-thousandths
  pub ptdf : ℕ → ℕ → ℤ
  pub from : ℕ → ℕ
  pub to : ℕ → ℕ
  pub capacity : ℕ → ℕ
  -- the part of the capacity that was bought (S-4)
  pub contracted : ℕ → ℕ
  pub zone : ℕ → ℕ
  -- 0 buys, 1 sells
  pub side : ℕ → ℕ
  pub quantity : ℕ → ℕ
  pub price : ℕ → ℤ

-- Volumes, flows and LTA share, all over one denominator; a proposal's is 1. A share of 100,000 over the
-- denominator 1 is 1.
pub record Plan : Type 0 where
  pub den : ℕ
  pub share : ℕ
  pub volume : ℕ → ℕ
  pub flow : ℕ → ℕ

pub record Prices : Type 0 where
  pub system : ℤ
  pub shadow : ℕ → ℕ

-- read from the files: the case s, and the proposal t for it
unfoldable pub case_of : List ℕ → Case
case_of s = record {
  zones = zones_in s;
  branches = branches_in s;
  links = links_in s;
  orders = orders_in s;
  tolerance = tolerance_in s;
  ram = ram_in s;
  ptdf = ptdf_in s;
  from = from_in s;
  to = to_in s;
  capacity = capacity_in s;
  contracted = contracted_in s;
  zone = zone_in s;
  side = side_in s;
  quantity = quantity_in s;
  price = price_in s;
}

unfoldable pub plan_of : List ℕ → List ℕ → Plan
plan_of s t = record { den = 1; share = share_in t; volume = volume_in s t; flow = flow_in s t }

unfoldable pub prices_of : List ℕ → List ℕ → Prices
prices_of s t = record { system = system_in t; shadow = shadow_in s t }

-- buys counted positive and sells negative
unfoldable pub buys : Case → ℕ → Bool
buys c i = eqb (c.side i) 0

abbrev pub signed : Bool → ℤ → ℤ
signed true x = x
signed false x = neg_ℤ x

-- RULE 1, (60): net position of a zone = accepted buys minus accepted sells
unfoldable pub order_net : Case → Plan → ℕ → ℤ
order_net c p i = signed (buys c i) (pos (p.volume i))

-- each order counts once; the Annex's (2) has a misprint here
unfoldable pub net : Case → Plan → ℕ → ℤ
net c p z = sum_to c.orders (λ i. only (eqb (c.zone i) z) (order_net c p i))

-- RULE 2, (71) and (63): LTA part of a zone = flows in minus flows out over the links; flow-based part = net
-- position minus LTA part
unfoldable pub inflow : Case → Plan → ℕ → ℤ
inflow c p z = sum_to c.links (λ l. only (eqb (c.to l) z) (pos (p.flow l)))

unfoldable pub outflow : Case → Plan → ℕ → ℤ
outflow c p z = sum_to c.links (λ l. only (eqb (c.from l) z) (pos (p.flow l)))

-- a flow is in at its "to" and out at its "from"; the Annex's (9) has a misprint here
unfoldable pub lta_part : Case → Plan → ℕ → ℤ
lta_part c p z = inflow c p z -ℤ outflow c p z

unfoldable pub fb_part : Case → Plan → ℕ → ℤ
fb_part c p z = net c p z -ℤ lta_part c p z

-- RULE 3, (68) summed over the zones: balance, this sum is zero
unfoldable pub net_sum : Case → Plan → ℤ
net_sum c p = sum_to c.zones (λ z. net c p z)

-- AN INEQUALITY: an amount is at most the room for it. The verdict table asks whether it is broken, a clearing
-- whether it is kept.
pub record AtMost (A : Type 0) : Type 0 where
  pub amount : A
  pub room : A

abbrev pub Kept : AtMost ℕ → Type 0
Kept r = r.amount ≤ r.room

abbrev pub broken : AtMost ℕ → Bool
broken r = ltb r.room r.amount

abbrev pub KeptZ : AtMost ℤ → Type 0
KeptZ r = r.amount ≤ℤ r.room

abbrev pub broken_z : AtMost ℤ → Bool
broken_z r = lt_z r.room r.amount

-- RULE 4, (70): link, flow times 100,000 is at most LTA share times capacity
unfoldable pub link_use : Case → Plan → ℕ → ℕ
link_use c p l = p.flow l * parts_in_one

unfoldable pub link_room : Case → Plan → ℕ → ℕ
link_room c p l = p.share * c.capacity l

abbrev pub link_rule : Case → Plan → ℕ → AtMost ℕ
link_rule c p l = record { amount = link_use c p l; room = link_room c p l }

-- RULE 5, (67): branch, the sum over zones of PTDF times flow-based part is at most (100,000 minus LTA share) times RAM
unfoldable pub branch_use : Case → Plan → ℕ → ℤ
branch_use c p m = sum_to c.zones (λ z. c.ptdf m z *ℤ fb_part c p z)

unfoldable pub branch_room : Case → Plan → ℕ → ℤ
branch_room c p m = (pos (parts_in_one * p.den) -ℤ pos p.share) *ℤ c.ram m

abbrev pub branch_rule : Case → Plan → ℕ → AtMost ℤ
branch_rule c p m = record { amount = branch_use c p m; room = branch_room c p m }

-- RULE 6, (79): zone price = 100,000 times system price plus the sum over branches of PTDF times shadow price
unfoldable pub branch_price : Case → Prices → ℕ → ℕ → ℤ
branch_price c d z m = c.ptdf m z *ℤ pos (d.shadow m)

unfoldable pub zone_price : Case → Prices → ℕ → ℤ
zone_price c d z = pos parts_in_one *ℤ d.system +ℤ sum_to c.branches (λ m. branch_price c d z m)

-- RULE 7, (59): welfare = 100,000 times the sum of volume times order price, buys positive and sells negative
unfoldable pub order_welfare : Case → Plan → ℕ → ℤ
order_welfare c p i = signed (buys c i) (pos (p.volume i) *ℤ c.price i)

unfoldable pub welfare : Case → Plan → ℤ
welfare c p = pos parts_in_one *ℤ sum_to c.orders (λ i. order_welfare c p i)

-- RULE 8: order surplus = quantity times the order price (in grains) above the zone price for a buy, the zone price
-- above the order price for a sell; never below zero
abbrev pub above : Bool → ℤ → ℤ → ℤ
above true order zone = order -ℤ zone
above false order zone = zone -ℤ order

unfoldable pub surplus_of : Bool → ℕ → ℤ → ℤ → ℤ
surplus_of buy quantity price zone = positive (pos quantity *ℤ above buy (pos parts_in_one *ℤ price) zone)

unfoldable pub order_surplus : Case → Prices → ℕ → ℤ
order_surplus c d i = surplus_of (buys c i) (c.quantity i) (c.price i) (zone_price c d (c.zone i))

unfoldable pub surplus : Case → Prices → ℤ
surplus c d = sum_to c.orders (λ i. order_surplus c d i)

-- RULE 9: branch total = 100,000 times the sum of RAM times shadow price; it may be negative
unfoldable pub branch_value : Case → Prices → ℕ → ℤ
branch_value c d m = c.ram m *ℤ pos (d.shadow m)

unfoldable pub branch_total : Case → Prices → ℤ
branch_total c d = pos parts_in_one *ℤ sum_to c.branches (λ m. branch_value c d m)

-- (81), right side: link total = sum over links of capacity times (price at "to" minus price at "from"), where
-- positive, else zero
unfoldable pub spread : Case → Prices → ℕ → ℤ
spread c d l = zone_price c d (c.to l) -ℤ zone_price c d (c.from l)

unfoldable pub link_value : Case → Prices → ℕ → ℤ
link_value c d l = pos (c.capacity l) *ℤ positive (spread c d l)

unfoldable pub link_total : Case → Prices → ℤ
link_total c d = sum_to c.links (λ l. link_value c d l)

-- owed = the same sum over contracted volumes (S-4: owed uses contracted volumes)
unfoldable pub link_owed : Case → Prices → ℕ → ℤ
link_owed c d l = pos (c.contracted l) *ℤ positive (spread c d l)

unfoldable pub owed : Case → Prices → ℤ
owed c d = sum_to c.links (λ l. link_owed c d l)

-- NO LINK MEANS NO LTA DOMAIN (S-6; Annex 14.29, section 3.3)
unfoldable pub no_link : Case → Bool
no_link c = eqb c.links 0

-- RULE 10: bound = all order surpluses plus the larger of branch total and link total (S-4: the larger-of in the
-- bound keeps using capacities); without links plus the branch total alone, even a negative one (S-6). By (82) no
-- exchange that the network allows earns more at these prices.
unfoldable pub network_bound : Case → Prices → ℤ
network_bound c d = cond (no_link c) (branch_total c d) (larger (branch_total c d) (link_total c d))

unfoldable pub bound : Case → Prices → ℤ
bound c d = surplus c d +ℤ network_bound c d

-- RULE 11: gap = bound minus welfare; (81), left side: rent = sum of net position times zone price
unfoldable pub gap : Case → Plan → Prices → ℤ
gap c p d = bound c d -ℤ welfare c p

unfoldable pub rent : Case → Plan → Prices → ℤ
rent c p d = sum_to c.zones (λ z. net c p z *ℤ zone_price c d z)
