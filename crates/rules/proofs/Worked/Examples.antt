-- P1 to P12: the worked hours, each a case and a proposal as bytes with the verdict and the values that the paper
-- names; P1 and P3 also have the text that the desk prints. Assumes nothing.
use Rattle.std.specs.Prelude.{◌≡◌, refl, List, [], ◌∷◌, ◌++◌, map, ℕ, ◌*◌, length, replicate, ℤ, pos}
use Rattle.std.specs.Int.{w32}
use Rattle.std.proofs.Common.{of_z}
use Rattle.base_integers.specs.Meaning.Sums.{sum_to}
use Rattle.base_integers.specs.Meaning.Bytes.{bytes_of, signed64}
use Rattle.base_integers.specs.Meaning.Ranges.{minus, outside, is_zero}
use Rattle.text_rules.specs.Meaning.Ascii.{ascii}
use Rattle.text_rules.specs.Meaning.Text.{places_in, places, last_digits, count_text, size_text, amount_text}
use Rattle.rules.specs.Meaning.Layout.{u8_at, u16_at, u32_at, i32_at, case_version, zones_in, branches_in, links_in, orders_in, tolerance_in, branch_size, branch_at, ram_in, ptdf_in, link_at, from_in, to_in, capacity_in, contracts, contracted_size, contracted_in, order_at, zone_in, side_in, quantity_in, price_in, case_length, proposal_version, share_in, system_in, volume_in, flow_in, shadow_at, shadow_in, proposal_length}
use Rattle.rules.specs.Meaning.Hour.{case_of, plan_of, prices_of, buys, order_net, net, inflow, outflow, lta_part, fb_part, net_sum, link_use, link_room, branch_use, branch_room, branch_price, zone_price, order_welfare, welfare, surplus_of, order_surplus, surplus, branch_value, branch_total, spread, link_value, link_total, link_owed, owed, no_link, network_bound, bound, gap, rent}
use Rattle.rules.specs.Meaning.Verdict.{outcome, not_mark, branch_fault, repeated, link_fault, row_fault, order_fault, room_causes, case_causes, proposal_causes, clearing_causes, table, header_refusal}
use Rattle.rules.specs.Meaning.Report.{price_bytes, header_bytes, total_bytes, report_text, totals_of, report_bytes, report_size, reports, written, buffer_after}
use Rattle.rules.specs.Meaning.Cut.{case_end, case_part, proposal_part}
use Rattle.rules.specs.Meaning.Lines.{verdict_line, total_line, total_lines, price_line, price_lines, hour_lines, lines_of, hour_text, desk_text}
use Rattle.base_causes.specs.declared.Outcome.{Outcome}
use Rattle.base_causes.specs.Meaning.Causes.{verdict, first_below, any_below, first_field, refusal}

-- the fields of a case and a proposal, from which the bytes are made
pub record Branch : Type 0 where
  pub ram : ℤ
  pub ptdfs : List ℤ

pub record Link : Type 0 where
  pub from : ℕ
  pub to : ℕ
  pub capacity : ℕ

pub record Order : Type 0 where
  pub zone : ℕ
  pub side : ℕ
  pub quantity : ℕ
  pub price : ℤ

pub record CaseFields : Type 0 where
  pub zones : ℕ
  pub tolerance : ℕ
  pub branches : List Branch
  pub links : List Link
  pub orders : List Order

pub record ProposalFields : Type 0 where
  pub share : ℕ
  pub system : ℤ
  pub volumes : List ℕ
  pub flows : List ℕ
  pub shadows : List ℕ

unfoldable pub le32 : ℤ → List ℕ
le32 z = bytes_of 4 (of_z w32 z)

-- one part after the other
unfoldable pub joined : {A : Type 0} → (A → List ℕ) → List A → List ℕ
joined f [] = []
joined f (x ∷ xs) = f x ++ joined f xs

unfoldable pub branch_bytes : Branch → List ℕ
branch_bytes b = le32 b.ram ++ joined le32 b.ptdfs

unfoldable pub link_bytes : Link → List ℕ
link_bytes l = bytes_of 1 l.from ++ bytes_of 1 l.to ++ bytes_of 4 l.capacity

unfoldable pub order_bytes : Order → List ℕ
order_bytes o = bytes_of 1 o.zone ++ bytes_of 1 o.side ++ bytes_of 4 o.quantity ++ le32 o.price

unfoldable pub case_bytes : CaseFields → List ℕ
case_bytes k =
    (76 ∷ 84 ∷ 67 ∷ []) ++ bytes_of 2 1
    ++ bytes_of 1 k.zones ++ bytes_of 1 (length k.branches) ++ bytes_of 1 (length k.links) ++ bytes_of 2 (length k.orders)
    ++ bytes_of 4 k.tolerance
    ++ joined branch_bytes k.branches ++ joined link_bytes k.links ++ joined order_bytes k.orders

unfoldable pub proposal_bytes : ProposalFields → List ℕ
proposal_bytes p =
    (76 ∷ 84 ∷ 80 ∷ []) ++ bytes_of 2 1 ++ bytes_of 4 p.share ++ le32 p.system
    ++ joined (bytes_of 4) p.volumes ++ joined (bytes_of 4) p.flows ++ joined (bytes_of 4) p.shadows

-- THE THREE-ZONE HOUR, with its links and its tolerance in cents. Zones A, B, C are 0, 1, 2.
abbrev branch : ℤ → List ℤ → Branch
branch ram ptdfs = record { ram = ram; ptdfs = ptdfs }

abbrev sells : ℕ → ℕ → ℕ → Order
sells zone quantity price = record { zone = zone; side = 1; quantity = quantity; price = pos price }

abbrev bids : ℕ → ℕ → ℕ → Order
bids zone quantity price = record { zone = zone; side = 0; quantity = quantity; price = pos price }

unfoldable pub link_ab : List Link
link_ab = record { from = 0; to = 1; capacity = 4000 } ∷ []

unfoldable pub three_zones : List Link → ℕ → CaseFields
three_zones links tolerance = record {
  zones = 3;
  tolerance = tolerance;
  branches = branch (pos 2500) (pos 0 ∷ pos 75000 ∷ pos 50000 ∷ []) ∷ branch (pos 15000) (minus 100000 ∷ pos 0 ∷ pos 0 ∷ []) ∷ [];
  links = links;
  orders = sells 0 4000 1000 ∷ sells 0 6000 2000 ∷ bids 1 1000 7000 ∷ bids 1 9000 6000 ∷ bids 2 10000 5000 ∷ [];
}

-- P1's proposal, with its share, second volume, last volume and flow
unfoldable pub proposal1 : ℕ → ℕ → ℕ → ℕ → ProposalFields
proposal1 share second last flow = record {
  share = share;
  system = pos 2250;
  volumes = 4000 ∷ second ∷ 1000 ∷ 0 ∷ last ∷ [];
  flows = flow ∷ [];
  shadows = 5500 ∷ 250 ∷ [];
}

-- P2's proposal, with its flows
unfoldable pub proposal2 : List ℕ → ProposalFields
proposal2 flows = record {
  share = 0;
  system = pos 2000;
  volumes = 4000 ∷ 500 ∷ 1000 ∷ 0 ∷ 3500 ∷ [];
  flows = flows;
  shadows = 6000 ∷ 0 ∷ [];
}

-- one zone and nothing else but these branches, tolerance 0
unfoldable pub one_zone : List Branch → CaseFields
one_zone branches = record { zones = 1; tolerance = 0; branches = branches; links = []; orders = [] }

unfoldable pub no_orders : ℕ → ℕ → List ℕ → ProposalFields
no_orders share system shadows = record { share = share; system = pos system; volumes = []; flows = []; shadows = shadows }

-- a value that the paper names with an example: which total, and its amount. A euro is 100,000,000 microcents, a
-- euro per MWh 10,000,000 grains.
pub record Named : Type 0 where
  pub total : List ℕ → List ℕ → ℤ
  pub value : ℤ

abbrev euros : ℕ → ℤ
euros n = pos (100000000 * n)

abbrev welfare_is : ℤ → Named
welfare_is v = record { total = λ s t. welfare (case_of s) (plan_of s t); value = v }

abbrev bound_is : ℤ → Named
bound_is v = record { total = λ s t. bound (case_of s) (prices_of s t); value = v }

abbrev gap_is : ℤ → Named
gap_is v = record { total = λ s t. gap (case_of s) (plan_of s t) (prices_of s t); value = v }

abbrev rent_is : ℤ → Named
rent_is v = record { total = λ s t. rent (case_of s) (plan_of s t) (prices_of s t); value = v }

abbrev owed_is : ℤ → Named
owed_is v = record { total = λ s t. owed (case_of s) (prices_of s t); value = v }

abbrev price_is : ℕ → ℤ → Named
price_is z v = record { total = λ s t. zone_price (case_of s) (prices_of s t) z; value = v }

-- an example's files byte by byte, and the report buffer after the judgement; before it the buffer held 176 sevens
pub record Stored : Type 0 where
  pub case_file : List ℕ
  pub proposal_file : List ℕ
  pub buffer : List ℕ

-- P1's: 102 bytes, 45 bytes, and 72 bytes of report. They are written out; no function of these specs makes them
unfoldable pub stored1 : Stored
stored1 = record {
  case_file =
      -- LTC, version 1, 3 zones, 2 branches, 1 link, 5 orders, tolerance 0; two branches; the link; five orders
      76 ∷ 84 ∷ 67 ∷ 1 ∷ 0 ∷ 3 ∷ 2 ∷ 1 ∷ 5 ∷ 0 ∷ 0 ∷ 0 ∷ 0 ∷ 0
      ∷ 196 ∷ 9 ∷ 0 ∷ 0 ∷ 0 ∷ 0 ∷ 0 ∷ 0 ∷ 248 ∷ 36 ∷ 1 ∷ 0 ∷ 80 ∷ 195 ∷ 0 ∷ 0
      ∷ 152 ∷ 58 ∷ 0 ∷ 0 ∷ 96 ∷ 121 ∷ 254 ∷ 255 ∷ 0 ∷ 0 ∷ 0 ∷ 0 ∷ 0 ∷ 0 ∷ 0 ∷ 0
      ∷ 0 ∷ 1 ∷ 160 ∷ 15 ∷ 0 ∷ 0
      ∷ 0 ∷ 1 ∷ 160 ∷ 15 ∷ 0 ∷ 0 ∷ 232 ∷ 3 ∷ 0 ∷ 0
      ∷ 0 ∷ 1 ∷ 112 ∷ 23 ∷ 0 ∷ 0 ∷ 208 ∷ 7 ∷ 0 ∷ 0
      ∷ 1 ∷ 0 ∷ 232 ∷ 3 ∷ 0 ∷ 0 ∷ 88 ∷ 27 ∷ 0 ∷ 0
      ∷ 1 ∷ 0 ∷ 40 ∷ 35 ∷ 0 ∷ 0 ∷ 112 ∷ 23 ∷ 0 ∷ 0
      ∷ 2 ∷ 0 ∷ 16 ∷ 39 ∷ 0 ∷ 0 ∷ 136 ∷ 19 ∷ 0 ∷ 0 ∷ [];
  proposal_file =
      -- LTP, version 1, share 87,500, system price 2,250; five volumes; the flow; two shadow prices
      76 ∷ 84 ∷ 80 ∷ 1 ∷ 0 ∷ 204 ∷ 85 ∷ 1 ∷ 0 ∷ 202 ∷ 8 ∷ 0 ∷ 0
      ∷ 160 ∷ 15 ∷ 0 ∷ 0 ∷ 95 ∷ 5 ∷ 0 ∷ 0 ∷ 232 ∷ 3 ∷ 0 ∷ 0 ∷ 0 ∷ 0 ∷ 0 ∷ 0 ∷ 23 ∷ 17 ∷ 0 ∷ 0
      ∷ 172 ∷ 13 ∷ 0 ∷ 0
      ∷ 124 ∷ 21 ∷ 0 ∷ 0 ∷ 250 ∷ 0 ∷ 0 ∷ 0 ∷ [];
  buffer =
      -- LTR, version 1, number 0, 3 zones, 0; welfare, bound, gap, rent, owed; three prices; and what stood past them
      (76 ∷ 84 ∷ 82 ∷ 1 ∷ 0 ∷ 0 ∷ 3 ∷ 0
      ∷ 0 ∷ 205 ∷ 70 ∷ 35 ∷ 3 ∷ 2 ∷ 0 ∷ 0
      ∷ 0 ∷ 205 ∷ 70 ∷ 35 ∷ 3 ∷ 2 ∷ 0 ∷ 0
      ∷ 0 ∷ 0 ∷ 0 ∷ 0 ∷ 0 ∷ 0 ∷ 0 ∷ 0
      ∷ 0 ∷ 220 ∷ 32 ∷ 116 ∷ 151 ∷ 1 ∷ 0 ∷ 0
      ∷ 0 ∷ 220 ∷ 32 ∷ 116 ∷ 151 ∷ 1 ∷ 0 ∷ 0
      ∷ 0 ∷ 194 ∷ 235 ∷ 11 ∷ 0 ∷ 0 ∷ 0 ∷ 0
      ∷ 96 ∷ 122 ∷ 255 ∷ 37 ∷ 0 ∷ 0 ∷ 0 ∷ 0
      ∷ 0 ∷ 101 ∷ 205 ∷ 29 ∷ 0 ∷ 0 ∷ 0 ∷ 0 ∷ [])
      ++ replicate 104 7;
}

-- THE TEXT that the desk prints for P1, and for P3: 1,950,000 cents of welfare, 300,000 below the bound
unfoldable pub text1 : List ℕ
text1 =
    ascii "verdict 0 0\n"
    ++ ascii "welfare 22125.00000000\n"
    ++ ascii "bound 22125.00000000\n"
    ++ ascii "gap 0.00000000\n"
    ++ ascii "rent 17500.00000000\n"
    ++ ascii "owed 17500.00000000\n"
    ++ ascii "price 0 20.0000000\n"
    ++ ascii "price 1 63.7500000\n"
    ++ ascii "price 2 50.0000000\n"

unfoldable pub text3 : List ℕ
text3 =
    ascii "verdict 26 0\n"
    ++ ascii "welfare 19500.00000000\n"
    ++ ascii "bound 22500.00000000\n"
    ++ ascii "gap 3000.00000000\n"
    ++ ascii "rent 15000.00000000\n"
    ++ ascii "owed 18000.00000000\n"
    ++ ascii "price 0 20.0000000\n"
    ++ ascii "price 1 65.0000000\n"
    ++ ascii "price 2 50.0000000\n"

pub record Example : Type 0 where
  pub case : CaseFields
  pub proposal : ProposalFields
  pub expected : Outcome
  pub named : List Named
  -- the files byte by byte, and the text, where an example has them
  pub stored : List Stored
  pub text : List (List ℕ)

abbrev example : CaseFields → ProposalFields → Outcome → List Named → Example
example k p o vs = record { case = k; proposal = p; expected = o; named = vs; stored = []; text = [] }

-- with its files byte by byte; and with its text
abbrev stored_as : Stored → Example → Example
stored_as f e = record { case = e.case; proposal = e.proposal; expected = e.expected; named = e.named; stored = f ∷ []; text = e.text }

abbrev printed_as : List ℕ → Example → Example
printed_as l e = record { case = e.case; proposal = e.proposal; expected = e.expected; named = e.named; stored = e.stored; text = l ∷ [] }

unfoldable pub examples : List Example
examples =
    -- P1: 0, the totals and prices that the desk program prints, every byte of its files and its report, and its
    -- text
    printed_as text1 (stored_as stored1 (example (three_zones link_ab 0) (proposal1 87500 1375 4375 3500) (verdict 0 0)
    (welfare_is (euros 22125) ∷ bound_is (euros 22125) ∷ gap_is (euros 0) ∷ rent_is (euros 17500) ∷ owed_is (euros 17500)
    ∷ price_is 0 (pos 200000000) ∷ price_is 1 (pos 637500000) ∷ price_is 2 (pos 500000000) ∷ [])))
    -- P2: no link
    ∷ example (three_zones [] 0) (proposal2 []) (verdict 0 0) (welfare_is (euros 19500) ∷ rent_is (euros 15000) ∷ owed_is (euros 0) ∷ [])
    -- P3: P2's proposal with the link and flow 0. With tolerance 299,999 cents, and P4 with 300,000: 15 since S-12
    ∷ printed_as text3 (example (three_zones link_ab 0) (proposal2 (0 ∷ [])) (verdict 26 0) (gap_is (euros 3000) ∷ owed_is (euros 18000) ∷ []))
    ∷ example (three_zones link_ab 299999) (proposal2 (0 ∷ [])) (verdict 15 0) []
    ∷ example (three_zones link_ab 300000) (proposal2 (0 ∷ [])) (verdict 15 0) []
    -- P5: second volume 6,001
    ∷ example (three_zones link_ab 0) (proposal1 87500 6001 4375 3500) (verdict 21 1) []
    -- P6: last volume 4,376
    ∷ example (three_zones link_ab 0) (proposal1 87500 1375 4376 3500) (verdict 22 0) []
    -- P7: flow 3,501. P8: share 87,499. P9: share 87,501
    ∷ example (three_zones link_ab 0) (proposal1 87500 1375 4375 3501) (verdict 23 0) []
    ∷ example (three_zones link_ab 0) (proposal1 87499 1375 4375 3500) (verdict 23 0) []
    ∷ example (three_zones link_ab 0) (proposal1 87501 1375 4375 3500) (verdict 24 0) []
    -- P10: one zone, system 400,000. P11: 400,001
    ∷ example (one_zone []) (no_orders 0 400000 []) (verdict 0 0) []
    ∷ example (one_zone []) (no_orders 0 400001 []) (verdict 25 0) []
    -- P12: one branch of RAM -1 and PTDF 0, shadow 1,000,000, share 100,000: no link, and 27 since S-6; share 0
    ∷ example (one_zone (branch (minus 1) (pos 0 ∷ []) ∷ [])) (no_orders 100000 0 (1000000 ∷ [])) (verdict 27 0) []
    ∷ example (one_zone (branch (minus 1) (pos 0 ∷ []) ∷ [])) (no_orders 0 0 (1000000 ∷ [])) (verdict 24 0) []
    ∷ []

-- what the definitions give for an example, and what the paper says
pub record Answer : Type 0 where
  pub answered : Outcome
  pub totals : List ℤ
  pub files : List Stored
  pub printed : List (List ℕ)

-- the desk takes the case directly followed by the proposal
unfoldable pub judged : List ℕ → List ℕ → List Named → List Stored → List (List ℕ) → Answer
judged s t vs fs ls = record {
  answered = outcome s t 176;
  totals = map (λ v. v.total s t) vs;
  files = map (λ (f : Stored). record { case_file = s; proposal_file = t; buffer = buffer_after s t (replicate 176 7) }) fs;
  printed = map (λ (l : List ℕ). desk_text (s ++ t)) ls;
}

unfoldable pub given : Example → Answer
given e = judged (case_bytes e.case) (proposal_bytes e.proposal) e.named e.stored e.text

unfoldable pub said : Example → Answer
said e = record { answered = e.expected; totals = map (λ v. v.value) e.named; files = e.stored; printed = e.text }

-- every example comes out as the paper says
pub examples-hold : map given examples ≡ map said examples
unfolding u8_at u16_at u32_at i32_at case_version zones_in branches_in links_in orders_in tolerance_in branch_size branch_at ram_in ptdf_in link_at from_in to_in capacity_in contracts contracted_size contracted_in order_at zone_in side_in quantity_in price_in case_length proposal_version share_in system_in volume_in flow_in shadow_at shadow_in proposal_length sum_to case_of plan_of prices_of buys order_net net inflow outflow lta_part fb_part net_sum link_use link_room branch_use branch_room branch_price zone_price order_welfare welfare surplus_of order_surplus surplus branch_value branch_total spread link_value link_total link_owed owed no_link network_bound bound gap rent outcome first_below first_field refusal outside is_zero any_below not_mark branch_fault repeated link_fault row_fault order_fault room_causes case_causes proposal_causes clearing_causes table bytes_of le32 joined branch_bytes link_bytes order_bytes case_bytes proposal_bytes link_ab three_zones proposal1 proposal2 one_zone no_orders signed64 price_bytes header_bytes total_bytes report_text totals_of report_bytes report_size reports written buffer_after places_in places last_digits count_text size_text amount_text verdict_line total_line total_lines price_line price_lines hour_lines lines_of hour_text header_refusal case_end case_part proposal_part desk_text stored1 text1 text3 examples judged given said
examples-hold = refl

-- case 102 bytes, proposal 45 bytes
pub three-zone-sizes : (length (case_bytes (three_zones link_ab 0)) ≡ 102) × (length (proposal_bytes (proposal1 87500 1375 4375 3500)) ≡ 45)
unfolding bytes_of le32 joined branch_bytes link_bytes order_bytes case_bytes proposal_bytes link_ab three_zones proposal1
three-zone-sizes = (refl, refl)
