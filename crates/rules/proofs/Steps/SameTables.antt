-- Two cases with the same counts, and the same fields below them: rules 1 to 11 give the same numbers, and the
-- tests of rows 6 to 8 and 21 to 26 the same answers. Nothing past the counts is read. Assumes nothing.
use Rattle.std.specs.Prelude.{◌≡◌, refl, Bool, ◌&&◌, ◌||◌, ℤ, ◌+ℤ◌, ◌-ℤ◌, ◌*ℤ◌}
use Rattle.std.proofs.Math.Path.{ap}
use Rattle.std.proofs.Common.{◌∙◌}
use Rattle.std.proofs.Math.Bool.{cond}
use Prim.Native.Nat.{ℕ, zero, suc, ◌+◌, ◌*◌, ◌<◌}
use native.Mathlib.Omega.{arith}
use Rattle.std.proofs.Math.Dec.{eqb, ltb}
use Rattle.std.proofs.Math.IntN.{pos}
use Rattle.std.specs.Int.Signed.{lt_z}
use Rattle.base_integers.specs.Meaning.Order.{larger, positive}
use Rattle.base_integers.specs.Meaning.Ranges.{outside}
use Rattle.base_integers.specs.Meaning.Sums.{only}
use Rattle.base_integers.specs.Steps.Sums.{sum-ext}
use Rattle.base_limits.specs.Meaning.Limits as limits
use Rattle.base_limits.specs.Meaning.Limits.{parts_in_one}
use Rattle.rules.specs.Meaning.Hour.{Case, Plan, Prices, signed, buys, order_net, net, inflow, outflow, lta_part, fb_part, net_sum, broken, broken_z, link_use, link_room, link_rule, branch_use, branch_room, branch_rule, branch_price, zone_price, order_welfare, welfare, surplus_of, order_surplus, surplus, branch_value, branch_total, spread, link_value, link_total, link_owed, owed, no_link, network_bound, bound, gap, rent}
use Rattle.base_causes.specs.Meaning.Causes.{any_below}
use Rattle.rules.specs.Meaning.Verdict.{◌over◌, unknown, branch_fault, repeated, link_fault, row_fault, order_fault}
use Rattle.rules.specs.Meaning.Report.{totals_of}
use Rattle.rules.specs.Meaning.Clearing.{Placed}

pub record SameTables (c e : Case) : Type 0 where
  pub zones-same : c.zones ≡ e.zones
  pub branches-same : c.branches ≡ e.branches
  pub links-same : c.links ≡ e.links
  pub orders-same : c.orders ≡ e.orders
  pub tolerance-same : c.tolerance ≡ e.tolerance
  pub ram-same : (m : ℕ) → m < c.branches → c.ram m ≡ e.ram m
  pub ptdf-same : (m z : ℕ) → m < c.branches → z < c.zones → c.ptdf m z ≡ e.ptdf m z
  pub from-same : (l : ℕ) → l < c.links → c.from l ≡ e.from l
  pub to_same : (l : ℕ) → l < c.links → c.to l ≡ e.to l
  pub capacity-same : (l : ℕ) → l < c.links → c.capacity l ≡ e.capacity l
  pub contracted-same : (l : ℕ) → l < c.links → c.contracted l ≡ e.contracted l
  pub zone-same : (i : ℕ) → i < c.orders → c.zone i ≡ e.zone i
  pub side_same : (i : ℕ) → i < c.orders → c.side i ≡ e.side i
  pub quantity-same : (i : ℕ) → i < c.orders → c.quantity i ≡ e.quantity i
  pub price-same : (i : ℕ) → i < c.orders → c.price i ≡ e.price i

-- the second case under the first one's counts
unfoldable pub counted : Case → Case → Case
counted c e = record {
  zones = c.zones;
  branches = c.branches;
  links = c.links;
  orders = c.orders;
  tolerance = c.tolerance;
  ram = e.ram;
  ptdf = e.ptdf;
  from = e.from;
  to = e.to;
  capacity = e.capacity;
  contracted = e.contracted;
  zone = e.zone;
  side = e.side;
  quantity = e.quantity;
  price = e.price;
}

pub counted_is : (c e : Case) → SameTables c e → counted c e ≡ e
unfolding counted
counted_is c e w = λ j. record {
  zones = w.zones-same j;
  branches = w.branches-same j;
  links = w.links-same j;
  orders = w.orders-same j;
  tolerance = w.tolerance-same j;
  ram = e.ram;
  ptdf = e.ptdf;
  from = e.from;
  to = e.to;
  capacity = e.capacity;
  contracted = e.contracted;
  zone = e.zone;
  side = e.side;
  quantity = e.quantity;
  price = e.price;
}

pub any-ext : (n : ℕ) (f g : ℕ → Bool) → ((k : ℕ) → k < n → f k ≡ g k) → any_below n f ≡ any_below n g
unfolding any_below
any-ext zero f g h = refl
any-ext (suc n) f g h = λ j. any-ext n f g (λ k l. h k (omega arith)) j || h n (omega arith) j

module _ (c e : Case) (w : SameTables c e) where
  abbrev other : Case
  other = counted c e

  -- ROWS 6 TO 8
  pub branch-fault : (m n : ℕ) → m < c.branches → n < 1 + c.zones → branch_fault c m n ≡ branch_fault other m n
  unfolding branch_fault counted
  branch-fault m zero h k = ap (outside limits.margin) (w.ram-same m h)
  branch-fault m (suc z) h k = ap (outside limits.ptdf) (w.ptdf-same m z h (omega arith))

  same-pair : (l : ℕ) → l < c.links → repeated c l ≡ repeated other l
  unfolding repeated counted
  same-pair l h = any-ext l _ _ (λ k i. let g : k < c.links = omega arith in λ j. eqb (w.from-same k g j) (w.from-same l h j) && eqb (w.to_same k g j) (w.to_same l h j))

  pub link-fault : (l n : ℕ) → l < c.links → link_fault c l n ≡ link_fault other l n
  unfolding link_fault counted
  link-fault l zero h = λ j. unknown c.zones (w.from-same l h j) || same-pair l h j
  link-fault l (suc zero) h = λ j. unknown c.zones (w.to_same l h j) || eqb (w.from-same l h j) (w.to_same l h j)
  link-fault l (suc (suc zero)) h = ap (λ (n : ℕ). outside limits.capacity (pos n)) (w.capacity-same l h)
  link-fault l (suc (suc (suc n))) h = λ j. w.contracted-same l h j over w.capacity-same l h j

  pub order-fault : (i n : ℕ) → i < c.orders → order_fault c i n ≡ order_fault other i n
  unfolding order_fault counted
  order-fault i n h = λ j. row_fault c.zones (w.zone-same i h j) (w.side_same i h j) (w.quantity-same i h j) (w.price-same i h j) n

  -- RULES 1 TO 5
  module _ (p : Plan) where
    order-net : (i : ℕ) → i < c.orders → order_net c p i ≡ order_net other p i
    unfolding order_net buys counted
    order-net i h = ap (λ (n : ℕ). signed (eqb n 0) (pos (p.volume i))) (w.side_same i h)

    pub net-same : (z : ℕ) → net c p z ≡ net other p z
    unfolding net counted
    net-same z = sum-ext c.orders _ _ (λ i h. λ j. only (eqb (w.zone-same i h j) z) (order-net i h j))

    fb-same : (z : ℕ) → fb_part c p z ≡ fb_part other p z
    unfolding fb_part lta_part inflow outflow counted
    fb-same z =
        let ins = sum-ext c.links (λ l. only (eqb (c.to l) z) (pos (p.flow l))) (λ l. only (eqb (e.to l) z) (pos (p.flow l))) (λ l h. ap (λ (n : ℕ). only (eqb n z) (pos (p.flow l))) (w.to_same l h)) in
        let outs = sum-ext c.links (λ l. only (eqb (c.from l) z) (pos (p.flow l))) (λ l. only (eqb (e.from l) z) (pos (p.flow l))) (λ l h. ap (λ (n : ℕ). only (eqb n z) (pos (p.flow l))) (w.from-same l h)) in
        λ j. net-same z j -ℤ (ins j -ℤ outs j)

    pub net-sum : net_sum c p ≡ net_sum other p
    unfolding net_sum counted
    net-sum = sum-ext c.zones _ _ (λ z h. net-same z)

    pub link-broken : (l : ℕ) → l < c.links → broken (link_rule c p l) ≡ broken (link_rule other p l)
    unfolding link_use link_room counted
    link-broken l h = ap (λ (n : ℕ). ltb (p.share * n) (p.flow l * parts_in_one)) (w.capacity-same l h)

    branch-use : (m : ℕ) → m < c.branches → branch_use c p m ≡ branch_use other p m
    unfolding branch_use counted
    branch-use m h = sum-ext c.zones _ _ (λ z k. λ j. w.ptdf-same m z h k j *ℤ fb-same z j)

    pub branch-broken : (m : ℕ) → m < c.branches → broken_z (branch_rule c p m) ≡ broken_z (branch_rule other p m)
    unfolding branch_room counted
    branch-broken m h = λ j. lt_z ((pos (parts_in_one * p.den) -ℤ pos p.share) *ℤ w.ram-same m h j) (branch-use m h j)

    pub welfare-same : welfare c p ≡ welfare other p
    unfolding welfare order_welfare buys counted
    welfare-same = ap (λ (x : ℤ). pos parts_in_one *ℤ x) (sum-ext c.orders _ _ (λ i h. λ j. signed (eqb (w.side_same i h j) 0) (pos (p.volume i) *ℤ w.price-same i h j)))

  -- RULES 6 TO 11
  module _ (d : Prices) where
    pub zone-price : (z : ℕ) → z < c.zones → zone_price c d z ≡ zone_price other d z
    unfolding zone_price branch_price counted
    zone-price z h = ap (λ (x : ℤ). pos parts_in_one *ℤ d.system +ℤ x) (sum-ext c.branches _ _ (λ m k. λ j. w.ptdf-same m z k h j *ℤ pos (d.shadow m)))

    -- where the zones exist
    module _ (ok : Placed c) where
      order-price : (i : ℕ) → i < c.orders → zone_price c d (c.zone i) ≡ zone_price other d (other.zone i)
      unfolding counted
      order-price i h = zone-price (c.zone i) (ok.zone-in i h) ∙ ap (zone_price other d) (w.zone-same i h)

      surplus-same : surplus c d ≡ surplus other d
      unfolding surplus order_surplus buys counted
      surplus-same = sum-ext c.orders _ _ (λ i h. λ j. surplus_of (eqb (w.side_same i h j) 0) (w.quantity-same i h j) (w.price-same i h j) (order-price i h j))

      branch-total : branch_total c d ≡ branch_total other d
      unfolding branch_total branch_value counted
      branch-total = ap (λ (x : ℤ). pos parts_in_one *ℤ x) (sum-ext c.branches _ _ (λ m h. ap (λ (x : ℤ). x *ℤ pos (d.shadow m)) (w.ram-same m h)))

      spread_same : (l : ℕ) → l < c.links → spread c d l ≡ spread other d l
      unfolding spread counted
      spread_same l h =
          let to = zone-price (c.to l) (ok.to-in l h) ∙ ap (zone_price other d) (w.to_same l h) in
          let from = zone-price (c.from l) (ok.from-in l h) ∙ ap (zone_price other d) (w.from-same l h) in
          λ j. to j -ℤ from j

      link-total : link_total c d ≡ link_total other d
      unfolding link_total link_value counted
      link-total = sum-ext c.links _ _ (λ l h. λ j. pos (w.capacity-same l h j) *ℤ positive (spread_same l h j))

      pub owed_same : owed c d ≡ owed other d
      unfolding owed link_owed counted
      owed_same = sum-ext c.links _ _ (λ l h. λ j. pos (w.contracted-same l h j) *ℤ positive (spread_same l h j))

      pub bound-same : bound c d ≡ bound other d
      unfolding bound network_bound no_link counted
      bound-same = λ j. surplus-same j +ℤ cond (eqb c.links 0) (branch-total j) (larger (branch-total j) (link-total j))

      module _ (p : Plan) where
        pub gap_same : gap c p d ≡ gap other p d
        unfolding gap
        gap_same = λ j. bound-same j -ℤ welfare-same p j

        rent-same : rent c p d ≡ rent other p d
        unfolding rent counted
        rent-same = sum-ext c.zones _ _ (λ z h. λ j. net-same p z j *ℤ zone-price z h j)

        pub totals-same : totals_of c p d ≡ totals_of other p d
        unfolding totals_of
        totals-same = λ j. record { welfare = welfare-same p j; bound = bound-same j; gap = gap_same j; rent = rent-same j; owed = owed_same j }
