-- Every total, every zone price, and every partial sum of one, in the order of addition, fits signed 64 bits. Each
-- stage names what the rows before it leave.
-- Sizes: welfare and rent within 2.048e18, surpluses 2.304e18, branch total 3.2e18, link total and owed 2.88e17, so
-- bound within 5.504e18 and gap 7.552e18, below 9.22e18. The rent is bounded order by order; zone by zone it would
-- be 3.3e19. Assumes nothing.
use Rattle.std.specs.Prelude.{◌≡◌, refl, Bool, true, false, List, ℕ, ◌+◌, ◌*◌, ◌-◌, ◌≤◌, ◌<◌, T, eqb, ℤ, pos, ◌+ℤ◌, ◌-ℤ◌, ◌*ℤ◌}
use Rattle.std.proofs.Common.{ap, arith, SFits}
use Rattle.std.proofs.Math.Nat.{mul-le-mul}
use Rattle.std.specs.Int.{w64}
use Rattle.base_integers.specs.Steps.Difference.{at, ◌⊗◌, le-by, le-fact}
use Rattle.base_integers.specs.Meaning.Order.{larger, positive}
use Rattle.base_integers.specs.Steps.Order.{cond_ind}
use Rattle.base_integers.specs.Meaning.Ranges.{minus, Within}
use Rattle.base_integers.specs.Meaning.Sums.{sum_to, only}
use Rattle.base_integers.specs.Steps.Size.{Near, near_le, near-pos, near_add, near-neg, near_sub, near_mul, near-sum, near_fits, near_within, near-gathered, apart, near-larger, near-positive, near-only, near-unsigned, near-32}
use Rattle.base_integers.specs.Meaning.Machine.{SumsFit}
use Rattle.base_integers.specs.Steps.Machine.{small-sums}
use Rattle.base_limits.specs.Meaning.Limits as limits
use Rattle.base_limits.specs.Meaning.Limits.{parts_in_one}
use Rattle.rules.specs.Meaning.Layout.{u32_at, i32_at, system_in}
use Rattle.rules.specs.Meaning.Hour.{Case, Plan, Prices, case_of, plan_of, prices_of, signed, buys, above, order_net, net, inflow, outflow, lta_part, fb_part, link_use, link_room, branch_price, zone_price, order_welfare, welfare, surplus_of, order_surplus, surplus, branch_value, branch_total, spread, link_value, link_total, link_owed, owed, no_link, network_bound, bound, gap, rent}
use Rattle.rules.specs.Meaning.Clearing.{Clearing}
use Rattle.rules.specs.Meaning.Verdict.{outcome}
use Rattle.rules.specs.Meaning.Report.{reports}
use Rattle.rules.proofs.Steps.Passed.{CaseSound, ProposalSound, ClearingSound, case-sound, proposal-sound, sound}

near-signed : (b : Bool) (k : ℕ) (x : ℤ) → Near k x → Near k (signed b x)
near-signed true k x h = h
near-signed false k x h = near-neg h

-- an order price in grains is within the limits of a zone price
pub in-grains : (x : ℤ) → Within limits.order_price x → Within limits.zone_price (limits.grains_of x)
in-grains x h = record {
  least-le = le-by (at (limits.zone_price).least) (at (pos parts_in_one) ⊗ at x) (omega (arith, le-fact (at (minus 50000)) (at x) h.least-le));
  le-greatest = le-by (at (pos parts_in_one) ⊗ at x) (at (limits.zone_price).greatest) (omega (arith, le-fact (at x) (at (pos 400000)) h.le-greatest));
}

pub apart-prices : (x y : ℤ) → Within limits.zone_price x → Within limits.zone_price y → Near 45000000000 (x -ℤ y)
apart-prices x y h k = apart 45000000000 limits.zone_price x y (near-unsigned 45000000000 45000000000 (omega arith)) h k

pub near-above : (b : Bool) (x y : ℤ) → Within limits.zone_price x → Within limits.zone_price y → Near 45000000000 (above b x y)
near-above true x y h k = apart-prices x y h k
near-above false x y h k = apart-prices y x k h

pub near-order-price : (x : ℤ) → Within limits.order_price x → Near 400000 x
near-order-price x w = near_within 400000 limits.order_price x (omega arith) (omega arith) w

pub near-zone-price : (x : ℤ) → Within limits.zone_price x → Near 40000000000 x
near-zone-price x w = near_within 40000000000 limits.zone_price x (omega arith) (omega arith) w

-- RULE 8 for one order, or for a row of a lent book
pub surplus-near : (buy : Bool) (quantity : ℕ) (price zone : ℤ) → quantity ≤ 100000 → Within limits.order_price price → Within limits.zone_price zone
    → Near 4500000000000000 (surplus_of buy quantity price zone)
unfolding surplus_of
surplus-near buy quantity price zone q p z =
    near-positive 4500000000000000 _ (near_mul (near-unsigned quantity 100000 q) (near-above buy (limits.grains_of price) zone (in-grains price p) z))

module _ (c : Case) (cs : CaseSound c) where
  -- while row 21 is asked: the first n orders have no volume above their quantity
  module _ (p : Plan) (n : ℕ) (few : n ≤ c.orders) (volumes : (i : ℕ) → i < n → p.volume i ≤ c.quantity i) where
    volume-near : (i : ℕ) → i < n → Near 100000 (pos (p.volume i))
    volume-near i h = near-unsigned (p.volume i) 100000 (omega (arith, cs.quantity-in i (omega arith), volumes i h))

    pub orderNet-near : (i : ℕ) → i < n → Near 100000 (order_net c p i)
    unfolding order_net
    orderNet-near i h = near-signed (buys c i) 100000 _ (volume-near i h)

    zone-term-near : (z i : ℕ) → i < n → Near 100000 (only (eqb (c.zone i) z) (order_net c p i))
    zone-term-near z i h = near-only (eqb (c.zone i) z) 100000 _ (orderNet-near i h)

    pub net-sums : (z : ℕ) → SumsFit (λ i. only (eqb (c.zone i) z) (order_net c p i)) n
    net-sums z = small-sums _ 100000 n (zone-term-near z) (omega (arith, cs.orders-in))

    welfare-term-near : (i : ℕ) → i < n → Near 40000000000 (order_welfare c p i)
    unfolding order_welfare
    welfare-term-near i h = near-signed (buys c i) 40000000000 _ (near_mul (volume-near i h) (near-order-price (c.price i) (cs.price-in i (omega arith))))

    -- in microcents, in the order of addition
    pub welfare-sums : SumsFit (λ i. pos parts_in_one *ℤ order_welfare c p i) n
    welfare-sums = small-sums _ 4000000000000000 n (λ i h. near_mul (near-pos parts_in_one) (welfare-term-near i h)) (omega (arith, cs.orders-in))

  -- after row 21
  module _ (p : Plan) (volumes : (i : ℕ) → i < c.orders → p.volume i ≤ c.quantity i) where
    pub net-near : (z : ℕ) → Near 51200000 (net c p z)
    unfolding net
    net-near z = near_le (omega (arith, cs.orders-in)) (near-sum c.orders 100000 _ (zone-term-near p c.orders (omega arith) volumes z))

    pub balance-sums : SumsFit (λ z. net c p z) c.zones
    balance-sums = small-sums _ 51200000 c.zones (λ z h. net-near z) (omega (arith, cs.zones-in.1))

    pub welfare-near : Near 2048000000000000000 (welfare c p)
    unfolding welfare
    welfare-near = near_le (omega (arith, cs.orders-in)) (near_mul (near-pos parts_in_one) (near-sum c.orders 40000000000 _ (welfare-term-near p c.orders (omega arith) volumes)))

    flow-near : (b : Bool) (l : ℕ) → p.flow l ≤ 100000 → Near 100000 (only b (pos (p.flow l)))
    flow-near b l h = near-only b 100000 _ (near-unsigned (p.flow l) 100000 h)

    -- the flow-based part after subtracting the first n links, while row 23 is asked: none of their flows is above
    -- 100,000 tenths
    pub partial-near : (n : ℕ) → n ≤ c.links → ((l : ℕ) → l < n → p.flow l ≤ 100000) → (z : ℕ)
        → Near 64000000 (net c p z -ℤ (sum_to n (λ l. only (eqb (c.to l) z) (pos (p.flow l))) -ℤ sum_to n (λ l. only (eqb (c.from l) z) (pos (p.flow l)))))
    partial-near n h flows z = near_le (omega (arith, cs.links-in)) (near_sub (net-near z)
        (near_sub (near-sum n 100000 _ (λ l k. flow-near (eqb (c.to l) z) l (flows l k))) (near-sum n 100000 _ (λ l k. flow-near (eqb (c.from l) z) l (flows l k)))))

    -- after row 23
    module _ (flows : (l : ℕ) → l < c.links → p.flow l ≤ 100000) where
      pub fbPart-near : (z : ℕ) → Near 64000000 (fb_part c p z)
      unfolding fb_part lta_part inflow outflow
      fbPart-near z = partial-near c.links (omega arith) flows z

      branchUse-term-near : (m z : ℕ) → m < c.branches → z < c.zones → Near 12800000000000 (c.ptdf m z *ℤ fb_part c p z)
      branchUse-term-near m z h k = near_mul (near_within 200000 limits.ptdf (c.ptdf m z) (omega arith) (omega arith) (cs.ptdf-in m z h k)) (fbPart-near z)

      pub branchUse-sums : (m : ℕ) → m < c.branches → SumsFit (λ z. c.ptdf m z *ℤ fb_part c p z) c.zones
      branchUse-sums m h = small-sums _ 12800000000000 c.zones (λ z k. branchUse-term-near m z h k) (omega (arith, cs.zones-in.1))

  -- row 23, read as a bound on the flow
  pub flow-in : (p : Plan) → p.share ≤ parts_in_one → (l : ℕ) → l < c.links → link_use c p l ≤ link_room c p l → p.flow l ≤ 100000
  unfolding link_use link_room
  flow-in p a l h k = omega (arith, k, mul-le-mul a (cs.capacity-in l h))

  -- after row 14
  module _ (d : Prices) (system : Near 2147483648 d.system) (shadows : (m : ℕ) → m < c.branches → d.shadow m ≤ 1000000) where
    pub price-term-near : (z m : ℕ) → z < c.zones → m < c.branches → Near 200000000000 (branch_price c d z m)
    unfolding branch_price
    price-term-near z m k h = near_mul (near_within 200000 limits.ptdf (c.ptdf m z) (omega arith) (omega arith) (cs.ptdf-in m z h k)) (near-unsigned (d.shadow m) 1000000 (shadows m h))

    -- a zone price while the first n branches are added
    pub price-near : (n : ℕ) → n ≤ c.branches → (z : ℕ) → z < c.zones → Near 230000000000000 (limits.grains_of d.system +ℤ sum_to n (λ m. branch_price c d z m))
    price-near n h z k = near_le (omega (arith, cs.branches-in)) (near_add (near_mul (near-pos parts_in_one) system) (near-sum n 200000000000 _ (λ m l. price-term-near z m k (omega arith))))

    branch-term-near : (m : ℕ) → m < c.branches → Near 500000000000 (branch_value c d m)
    unfolding branch_value
    branch-term-near m h = near_mul (near_within 500000 limits.margin (c.ram m) (omega arith) (omega arith) (cs.ram-in m h)) (near-unsigned (d.shadow m) 1000000 (shadows m h))

    -- in microcents, in the order of addition
    pub branchTotal-sums : SumsFit (λ m. pos parts_in_one *ℤ branch_value c d m) c.branches
    branchTotal-sums = small-sums _ 50000000000000000 c.branches (λ m h. near_mul (near-pos parts_in_one) (branch-term-near m h)) (omega (arith, cs.branches-in))

    pub branchTotal-near : Near 3200000000000000000 (branch_total c d)
    unfolding branch_total
    branchTotal-near = near_le (omega (arith, cs.branches-in)) (near_mul (near-pos parts_in_one) (near-sum c.branches 500000000000 _ branch-term-near))

    -- while row 25 is asked: the first n zones have no price outside its limits
    module _ (p : Plan) (volumes : (i : ℕ) → i < c.orders → p.volume i ≤ c.quantity i) (n : ℕ) (few : n ≤ c.zones) (prices : (z : ℕ) → z < n → Within limits.zone_price (zone_price c d z)) where
      -- the net positions of the first m of these zones at their prices are at most the volumes at those prices
      rent-partial-near : (m : ℕ) → m ≤ n → Near 2048000000000000000 (sum_to m (λ z. net c p z *ℤ zone_price c d z))
      unfolding net
      rent-partial-near m h = near_le (omega (arith, cs.orders-in))
          (near-gathered c.orders m 4000000000000000 c.zone (λ i. order_net c p i) (zone_price c d)
          (λ i l k. near_mul (orderNet-near p c.orders (omega arith) volumes i l) (near-zone-price _ (prices (c.zone i) (omega arith)))))

      pub rent-sums : SumsFit (λ z. net c p z *ℤ zone_price c d z) n
      rent-sums = record {
        term = λ z h. near_fits w64 (omega arith) (near_mul (net-near p volumes z) (near-zone-price _ (prices z h)));
        fits = λ m h. near_fits w64 (omega arith) (rent-partial-near m h);
      }

    -- after row 25
    module _ (prices : (z : ℕ) → z < c.zones → Within limits.zone_price (zone_price c d z)) where
      surplus-term-near : (i : ℕ) → i < c.orders → Near 4500000000000000 (order_surplus c d i)
      unfolding order_surplus
      surplus-term-near i h = surplus-near (buys c i) (c.quantity i) (c.price i) _ (cs.quantity-in i h) (cs.price-in i h) (prices (c.zone i) (cs.placed.zone-in i h))

      pub surplus-sums : SumsFit (λ i. order_surplus c d i) c.orders
      surplus-sums = small-sums _ 4500000000000000 c.orders surplus-term-near (omega (arith, cs.orders-in))

      surpluses-near : Near 2304000000000000000 (surplus c d)
      unfolding surplus
      surpluses-near = near_le (omega (arith, cs.orders-in)) (near-sum c.orders 4500000000000000 _ surplus-term-near)

      -- a volume of each link at its positive spread: capacities give the link total, contracted volumes give owed
      -- (S-4)
      module _ (f : ℕ → ℕ) (volumes : (l : ℕ) → l < c.links → f l ≤ 100000) where
        link-term-near : (l : ℕ) → l < c.links → Near 4500000000000000 (pos (f l) *ℤ positive (spread c d l))
        unfolding spread
        link-term-near l h = near_mul (near-unsigned (f l) 100000 (volumes l h))
            (near-positive 45000000000 _ (apart-prices _ _ (prices (c.to l) (cs.placed.to-in l h)) (prices (c.from l) (cs.placed.from-in l h))))

        at-spreads-sums : SumsFit (λ l. pos (f l) *ℤ positive (spread c d l)) c.links
        at-spreads-sums = small-sums _ 4500000000000000 c.links link-term-near (omega (arith, cs.links-in))

        at-spreads-near : Near 288000000000000000 (sum_to c.links (λ l. pos (f l) *ℤ positive (spread c d l)))
        at-spreads-near = near_le (omega (arith, cs.links-in)) (near-sum c.links 4500000000000000 _ link-term-near)

      contracted-most : (l : ℕ) → l < c.links → c.contracted l ≤ 100000
      contracted-most l h = omega (arith, cs.contracted-in l h, cs.capacity-in l h)

      pub linkTotal-sums : SumsFit (λ l. link_value c d l) c.links
      unfolding link_value
      linkTotal-sums = at-spreads-sums c.capacity cs.capacity-in

      pub linkTotal-near : Near 288000000000000000 (link_total c d)
      unfolding link_total link_value
      linkTotal-near = at-spreads-near c.capacity cs.capacity-in

      pub owed-sums : SumsFit (λ l. link_owed c d l) c.links
      unfolding link_owed
      owed-sums = at-spreads-sums c.contracted contracted-most

      pub owed-near : Near 288000000000000000 (owed c d)
      unfolding owed link_owed
      owed-near = at-spreads-near c.contracted contracted-most

      pub bound-near : Near 5504000000000000000 (bound c d)
      unfolding bound network_bound
      bound-near = near_add surpluses-near (cond_ind (no_link c) (branch_total c d) (larger (branch_total c d) (link_total c d)) (λ z. Near 3200000000000000000 z)
          (λ t. branchTotal-near) (λ t. near-larger 3200000000000000000 (branch_total c d) (link_total c d) branchTotal-near (near_le (omega arith) linkTotal-near)))

      module _ (p : Plan) (volumes : (i : ℕ) → i < c.orders → p.volume i ≤ c.quantity i) where
        pub gap-near : Near 7552000000000000000 (gap c p d)
        unfolding gap
        gap-near = near_sub bound-near (welfare-near p volumes)

        rent-near : Near 2048000000000000000 (rent c p d)
        unfolding rent
        rent-near = rent-partial-near p volumes c.zones (omega arith) prices c.zones (omega arith)

-- THE REPORTED NUMBERS: the totals and the zone prices
pub record Fit (c : Case) (p : Plan) (d : Prices) : Type 0 where
  pub welfare-fits : SFits w64 (welfare c p)
  pub bound-fits : SFits w64 (bound c d)
  pub gap-fits : SFits w64 (gap c p d)
  pub rent-fits : SFits w64 (rent c p d)
  pub owed-fits : SFits w64 (owed c d)
  -- on the way to the bound
  pub surplus-fits : SFits w64 (surplus c d)
  pub branchTotal-fits : SFits w64 (branch_total c d)
  pub linkTotal-fits : SFits w64 (link_total c d)
  pub zonePrice-fits : (z : ℕ) → z < c.zones → SFits w64 (zone_price c d z)

-- every system price that a proposal can hold
pub system-near : (s t : List ℕ) → Near 2147483648 (prices_of s t).system
unfolding prices_of system_in i32_at
system-near s t = near-32 (u32_at t 9)

-- what the rows before 26 leave, in one place
pub volumes-in : (c : Case) (p : Plan) → p.den ≡ 1 → Clearing c p → (i : ℕ) → i < c.orders → p.volume i ≤ c.quantity i
volumes-in c p one cl i h = omega (arith, cl.volume-in i h, ap (λ (k : ℕ). k * c.quantity i) one)

fit : (c : Case) (cs : CaseSound c) (p : Plan) (d : Prices) → p.den ≡ 1 → Near 2147483648 d.system → ProposalSound c p d → ClearingSound c p d → Fit c p d
fit c cs p d one system ps cl =
    let volumes = volumes-in c p one cl.clearing in
    let shadows = ps.shadow-in in
    let prices = cl.zonePrice-in in
    record {
      welfare-fits = near_fits w64 (omega arith) (welfare-near c cs p volumes);
      bound-fits = near_fits w64 (omega arith) (bound-near c cs d system shadows prices);
      gap-fits = near_fits w64 (omega arith) (gap-near c cs d system shadows prices p volumes);
      rent-fits = near_fits w64 (omega arith) (rent-near c cs d system shadows prices p volumes);
      owed-fits = near_fits w64 (omega arith) (owed-near c cs d system shadows prices);
      surplus-fits = near_fits w64 (omega arith) (surpluses-near c cs d system shadows prices);
      branchTotal-fits = near_fits w64 (omega arith) (branchTotal-near c cs d system shadows);
      linkTotal-fits = near_fits w64 (omega arith) (linkTotal-near c cs d system shadows prices);
      zonePrice-fits = λ z h. near_fits w64 (omega arith) (near-zone-price _ (prices z h));
    }

-- VERDICT 0 OR 26
pub fits : (s t : List ℕ) (room : ℕ) → T (reports (outcome s t room).number) → Fit (case_of s) (plan_of s t) (prices_of s t)
unfolding plan_of
fits s t room r =
    let ok = sound s t room r in
    fit (case_of s) (case-sound s ok.readable) (plan_of s t) (prices_of s t) refl (system-near s t) (proposal-sound s t ok.proposed) ok.cleared
