-- The extended formulation of Annex 14.29, equation by equation. Appendix A: variables, objective and constraints
-- (59) to (72), prices (73) to (78), both sides of (81). Appendix B: the two domains and their combinations, (87)
-- to (96). `Extended` shows that (60) to (72) allow exactly the clearings of document 01. l and k are zones, i is
-- an order, j a link, m a branch. Assumes nothing.
-- What document 01 changes:
--   units: PTDFs and weights are hundred-thousandths. So (65), (67), (70), (74) and (91) are multiplied by 100,000,
--   and (59) is in microcents.
--   fractions: all variables are whole numbers over one common positive denominator; all multipliers are whole
--   cents or grains.
--   orders: an order has a side and an unsigned quantity instead of the signed Q^i. For x_i stands the accepted
--   volume |Q^i| x_i, so x_i is `accepted i` over den times quantity.
--   capacities: a link is an ordered pair of zones that occurs once; a pair without a link has capacity zero.
--   Contracted volumes (S-4) do not enter.
--   no link: section 3.3 takes an empty LTA domain for none, and so does S-6. An hour without links is the
--   formulation without its LTA part: (65) has α₂ = 0, and the LTA domain of appendix B has no point.
--   misprints: the Annex has two, both before the appendix; a note says where each would stand. (62) is an empty
--   line.
use Rattle.std.specs.Prelude.{◌≡◌, Bool, not, ◌&&◌, ℕ, ◌+◌, ◌*◌, ◌<◌, T, eqb, ℤ, pos, ◌+ℤ◌, ◌-ℤ◌, ◌*ℤ◌, ◌≤ℤ◌, ◌<ℤ◌}
use Rattle.base_integers.specs.Meaning.Order.{positive}
use Rattle.base_integers.specs.Meaning.Sums.{sum_to, only}
use Rattle.base_limits.specs.Meaning.Limits.{parts_in_one}
use Rattle.rules.specs.Meaning.Hour.{Case, signed, buys}

-- VARIABLES: whole numbers over the common positive denominator `den`
pub record Solution : Type 0 where
  pub den : ℕ
  -- |Q^i| x_i
  pub accepted : ℕ → ℤ
  pub netpos : ℕ → ℤ
  pub netpos_fb : ℕ → ℤ
  pub netpos_lta : ℕ → ℤ
  -- from the first zone of an ordered pair to the second; no sum has a zone's flow to itself
  pub flow : ℕ → ℕ → ℤ
  pub flow_fb : ℕ → ℕ → ℤ
  pub flow_lta : ℕ → ℕ → ℤ
  -- hundred-thousandths; α₂ is document 01's LTA share
  pub alpha1 : ℤ
  pub alpha2 : ℤ

unfoldable pub joins : Case → ℕ → ℕ → ℕ → Bool
joins c j l k = eqb (c.from j) l && eqb (c.to j) k

-- an ordered pair occurs once (document 01)
pub record PairsOnce (c : Case) : Type 0 where
  pub once : (i j : ℕ) → i < c.links → j < c.links → c.from i ≡ c.from j → c.to i ≡ c.to j → i ≡ j

-- an amount per link as an amount per ordered pair; zero for a pair without a link
unfoldable pub by_pair : Case → (ℕ → ℤ) → ℕ → ℕ → ℤ
by_pair c f l k = sum_to c.links (λ j. only (joins c j l k) (f j))

-- capacity^LTA of an ordered pair
unfoldable pub capacity_lta : Case → ℕ → ℕ → ℤ
capacity_lta c l k = by_pair c (λ j. pos (c.capacity j)) l k

-- Σ_{k ≠ l} (flow_{k,l} - flow_{l,k}), over n zones. The example's (9), (22), (39) and (46) misprint it for zone B:
-- they name the flow from A to C instead of the flow from C to B.
unfoldable pub net_flow : ℕ → (ℕ → ℕ → ℤ) → ℕ → ℤ
net_flow n f l = sum_to n (λ k. only (not (eqb k l)) (f k l -ℤ f l k))

-- (59): Σ_i Q^i P^i x_i, in microcents over the denominator
unfoldable pub objective : Case → Solution → ℤ
objective c x = pos parts_in_one *ℤ sum_to c.orders (λ i. signed (buys c i) (x.accepted i) *ℤ c.price i)

-- CONSTRAINTS
-- of the network, (63) to (72)
pub record Network (c : Case) (x : Solution) : Type 0 where
  pub den-positive : 0 < x.den
  -- (63) netpos_l = netpos^FB_l + netpos^LTA_l
  pub netpos-is : (l : ℕ) → l < c.zones → x.netpos l ≡ x.netpos_fb l +ℤ x.netpos_lta l
  -- (64) flow_{l,k} = flow^FB_{l,k} + flow^LTA_{l,k}
  pub flow-is : (l k : ℕ) → l < c.zones → k < c.zones → x.flow l k ≡ x.flow_fb l k +ℤ x.flow_lta l k
  -- (65) α₁ + α₂ = 1
  pub alpha-sum : x.alpha1 +ℤ x.alpha2 ≡ pos (parts_in_one * x.den)
  -- (66) α ≥ 0
  pub alpha-in : (pos 0 ≤ℤ x.alpha1) × (pos 0 ≤ℤ x.alpha2)
  -- section 3.3 (S-6): without links no LTAs are taken into consideration, α₂ = 0
  pub no-LTA : c.links ≡ 0 → x.alpha2 ≡ pos 0
  -- (67) Σ_l ptdf_{m,l} netpos^FB_l ≤ α₁ RAM_m
  pub branch : (m : ℕ) → m < c.branches → sum_to c.zones (λ l. c.ptdf m l *ℤ x.netpos_fb l) ≤ℤ (x.alpha1 *ℤ c.ram m)
  -- (68) netpos^FB_l = Σ_{k ≠ l} (flow^FB_{k,l} - flow^FB_{l,k})
  pub netposFB-is : (l : ℕ) → l < c.zones → x.netpos_fb l ≡ net_flow c.zones x.flow_fb l
  -- (69) flow^FB ≥ 0
  pub flowFB-in : (l k : ℕ) → l < c.zones → k < c.zones → pos 0 ≤ℤ x.flow_fb l k
  -- (70) flow^LTA_{l,k} ≤ α₂ capacity^LTA_{l,k}
  pub link : (l k : ℕ) → l < c.zones → k < c.zones → (pos parts_in_one *ℤ x.flow_lta l k) ≤ℤ (x.alpha2 *ℤ capacity_lta c l k)
  -- (71) netpos^LTA_l = Σ_{k ≠ l} (flow^LTA_{k,l} - flow^LTA_{l,k})
  pub netposLTA-is : (l : ℕ) → l < c.zones → x.netpos_lta l ≡ net_flow c.zones x.flow_lta l
  -- (72) flow^LTA ≥ 0
  pub flowLTA-in : (l k : ℕ) → l < c.zones → k < c.zones → pos 0 ≤ℤ x.flow_lta l k

-- the constraints of the orders, (60) and (61), and of the network
pub record Feasible (c : Case) (x : Solution) : Type 0 where
  -- (60) Σ_{i ∈ Orders(l)} Q^i x_i = netpos_l. The example's (2) and (31) misprint it for zone A: they name its
  -- first supply order twice.
  pub orders-net : (l : ℕ) → l < c.zones → sum_to c.orders (λ i. only (eqb (c.zone i) l) (signed (buys c i) (x.accepted i))) ≡ x.netpos l
  -- (61) 0 ≤ x_i ≤ 1
  pub accepted-in : (i : ℕ) → i < c.orders → (pos 0 ≤ℤ x.accepted i) × (x.accepted i ≤ℤ pos (x.den * c.quantity i))
  pub network : Network c x

-- LINES. The Annex lets commercial flow go between any two zones; for its prices it assumes only that the zones are
-- connected. `line l k` says that commercial flow may go from zone l to zone k. A route goes along lines.
pub data Route (n : ℕ) (line : ℕ → ℕ → Bool) : ℕ → ℕ → Type 0 where
  here : {a : ℕ} → Route n line a a
  onward : {a b e : ℕ} → Route n line a b → b < n → e < n → T (line b e) → Route n line a e

-- each of n zones can be reached from zone 0, and zone 0 from it
pub record Connected (n : ℕ) (line : ℕ → ℕ → Bool) : Type 0 where
  pub from_first : (z : ℕ) → z < n → Route n line 0 z
  pub to-first : (z : ℕ) → z < n → Route n line z 0

-- commercial flow goes only along lines
pub record AlongLines (c : Case) (line : ℕ → ℕ → Bool) (x : Solution) : Type 0 where
  pub elsewhere : (l k : ℕ) → l < c.zones → k < c.zones → T (not (line l k)) → x.flow_fb l k ≡ pos 0

-- every ordered pair of distinct zones, as in the Annex
unfoldable pub every_pair : ℕ → ℕ → Bool
every_pair l k = not (eqb l k)

-- PRICES: the multipliers of (60), (63), (67), (68), (70) and (71), in grains. Only price^FB (the system price) and
-- the shadow prices are in cents.
pub record Multipliers : Type 0 where
  pub price : ℕ → ℤ
  -- price with a tilde, of (63)
  pub price_split : ℕ → ℤ
  pub price_fb : ℕ → ℤ
  pub price_lta : ℕ → ℤ
  -- multipliers of inequalities, so not negative: ShadowPrice_m and w^LTA_{l,k}
  pub shadow : ℕ → ℕ
  pub w : ℕ → ℕ → ℤ

pub record PriceConditions (c : Case) (line : ℕ → ℕ → Bool) (y : Multipliers) : Type 0 where
  -- (73)
  pub price-split : (l : ℕ) → l < c.zones → y.price_split l ≡ y.price l
  -- (74) price_l = price^FB_l + Σ_m ptdf_{m,l} ShadowPrice_m
  pub price-FB : (l : ℕ) → l < c.zones → y.price l ≡ pos parts_in_one *ℤ y.price_fb l +ℤ sum_to c.branches (λ m. c.ptdf m l *ℤ pos (y.shadow m))
  -- (75) price_l = price^LTA_l
  pub price-LTA : (l : ℕ) → l < c.zones → y.price l ≡ y.price_lta l
  -- (76) w^LTA_{l,k} ≥ price^LTA_k - price^LTA_l
  pub w-spread : (l k : ℕ) → l < c.zones → k < c.zones → (y.price_lta k -ℤ y.price_lta l) ≤ℤ y.w l k
  pub w-in : (l k : ℕ) → l < c.zones → k < c.zones → pos 0 ≤ℤ y.w l k
  -- (78) 0 ≥ price^FB_k - price^FB_l
  pub no-spread : (l k : ℕ) → l < c.zones → k < c.zones → T (line l k) → (y.price_fb k -ℤ y.price_fb l) ≤ℤ pos 0

-- (77) flow^LTA_{l,k} > 0 ⇒ price^LTA_k - price^LTA_l = w^LTA_{l,k}, for a solution and its multipliers at the
-- optimum; `w-in` says that it is not negative
pub record Complementary (c : Case) (x : Solution) (y : Multipliers) : Type 0 where
  pub w-is : (l k : ℕ) → l < c.zones → k < c.zones → pos 0 <ℤ x.flow_lta l k → y.price_lta k -ℤ y.price_lta l ≡ y.w l k

-- (81), left side, and (82): Σ_l netpos_l price_l
unfoldable pub congestion_rent : Case → Solution → (ℕ → ℤ) → ℤ
congestion_rent c x price = sum_to c.zones (λ l. x.netpos l *ℤ price l)

-- the right sides of (67) and (70) at their multipliers: Σ_m RAM_m ShadowPrice_m and Σ_{l,k} capacity^LTA_{l,k}
-- w^LTA_{l,k}
unfoldable pub margin_value : Case → Multipliers → ℤ
margin_value c y = sum_to c.branches (λ m. c.ram m *ℤ pos (y.shadow m))

unfoldable pub capacity_value : Case → Multipliers → ℤ
capacity_value c y = sum_to c.zones (λ l. sum_to c.zones (λ k. capacity_lta c l k *ℤ y.w l k))

-- (81), right side: Σ_{l,k} (price_k - price_l)⁺ capacity^LTA_{l,k}
unfoldable pub liabilities : Case → (ℕ → ℤ) → ℤ
liabilities c price = sum_to c.zones (λ l. sum_to c.zones (λ k. capacity_lta c l k *ℤ positive (price k -ℤ price l)))

-- APPENDIX B: the two domains that are combined, each at its full weight. Where the weight is positive, it cancels
-- on both sides of (91) to (96). First a point of the flow-based domain, (91) to (93), over a denominator
pub record FBDomain (c : Case) (den : ℕ) (netpos : ℕ → ℤ) (flow : ℕ → ℕ → ℤ) : Type 0 where
  pub branch : (m : ℕ) → m < c.branches → sum_to c.zones (λ l. c.ptdf m l *ℤ netpos l) ≤ℤ (pos (parts_in_one * den) *ℤ c.ram m)
  pub netpos-is : (l : ℕ) → l < c.zones → netpos l ≡ net_flow c.zones flow l
  pub flow-in : (l k : ℕ) → l < c.zones → k < c.zones → pos 0 ≤ℤ flow l k

-- a point of the LTA domain, (94) to (96); without links there is none (S-6)
pub record LTADomain (c : Case) (den : ℕ) (netpos : ℕ → ℤ) (flow : ℕ → ℕ → ℤ) : Type 0 where
  pub some-link : 0 < c.links
  pub link : (l k : ℕ) → l < c.zones → k < c.zones → flow l k ≤ℤ (pos den *ℤ capacity_lta c l k)
  pub netpos-is : (l : ℕ) → l < c.zones → netpos l ≡ net_flow c.zones flow l
  pub flow-in : (l k : ℕ) → l < c.zones → k < c.zones → pos 0 ≤ℤ flow l k

-- two such points over one denominator, with weights a₁ and a₂ over their sum, (89) and (90). At weight 0 the
-- domain's constraints, (91) to (93) or (94) to (96), do not apply.
pub record TwoPoints (c : Case) : Type 0 where
  pub den : ℕ
  pub netpos_fb : ℕ → ℤ
  pub flow_fb : ℕ → ℕ → ℤ
  pub netpos_lta : ℕ → ℤ
  pub flow_lta : ℕ → ℕ → ℤ
  pub a1 : ℕ
  pub a2 : ℕ
  pub den-positive : 0 < den
  pub weights-positive : 0 < a1 + a2
  pub flow-based : 0 < a1 → FBDomain c den netpos_fb flow_fb
  pub long-term : 0 < a2 → LTADomain c den netpos_lta flow_lta

-- x is their convex combination: (87) and (88) multiplied by both denominators
pub record Combines (c : Case) (y : TwoPoints c) (x : Solution) : Type 0 where
  pub netpos-is : (l : ℕ) → l < c.zones
      → pos ((y.a1 + y.a2) * y.den) *ℤ x.netpos l ≡ pos x.den *ℤ (pos y.a1 *ℤ y.netpos_fb l +ℤ pos y.a2 *ℤ y.netpos_lta l)
  pub flow-is : (l k : ℕ) → l < c.zones → k < c.zones
      → pos ((y.a1 + y.a2) * y.den) *ℤ x.flow l k ≡ pos x.den *ℤ (pos y.a1 *ℤ y.flow_fb l k +ℤ pos y.a2 *ℤ y.flow_lta l k)
