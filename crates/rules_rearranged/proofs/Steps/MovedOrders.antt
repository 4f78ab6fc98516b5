-- A case with its orders rearranged and a plan with its volumes rearranged: each sum of rules 1 to 11 is the same.
-- `SameTables` of `rules` deals with what stands past the counts of the rearranged files. Assumes nothing.
use Rattle.std.specs.Prelude.{◌≡◌, eqb, ℤ, ◌+ℤ◌, ◌-ℤ◌, ◌*ℤ◌}
use Rattle.std.proofs.Math.Path.{refl, ap}
use Rattle.std.proofs.Common.{◌∙◌}
use Prim.Native.Nat.{ℕ, zero, suc, ◌<◌}
use Rattle.std.proofs.Math.IntN.{pos}
use Rattle.base_integers.specs.Meaning.Sums.{only}
use Rattle.base_integers.specs.Steps.Sums.{sum-ext}
use Rattle.base_limits.specs.Meaning.Limits.{parts_in_one}
use Rattle.rules.specs.Meaning.Hour.{Case, Plan, Prices, buys, signed, order_net, net, inflow, outflow, lta_part, fb_part, net_sum, branch_use, branch_price, zone_price, order_welfare, welfare, order_surplus, surplus, branch_value, branch_total, spread, link_value, link_total, link_owed, owed, no_link, network_bound, bound, gap, rent}
use Rattle.rules.specs.Meaning.Verdict.{branch_fault, repeated, link_fault}
use Rattle.rules.specs.Meaning.Report.{totals_of}
use Rattle.rules.specs.Meaning.Clearing.{Placed}
use Rattle.rules_rearranged.specs.Meaning.Permutation.{Permutation}
use Rattle.rules_rearranged.proofs.Steps.PermutedSums.{sum-permuted}

-- order i is order `source i` of c
unfoldable pub moved_case : Case → (ℕ → ℕ) → Case
moved_case c source = record {
  zones = c.zones;
  branches = c.branches;
  links = c.links;
  orders = c.orders;
  tolerance = c.tolerance;
  ram = c.ram;
  ptdf = c.ptdf;
  from = c.from;
  to = c.to;
  capacity = c.capacity;
  contracted = c.contracted;
  zone = λ i. c.zone (source i);
  side = λ i. c.side (source i);
  quantity = λ i. c.quantity (source i);
  price = λ i. c.price (source i);
}

-- the plan with other volumes
unfoldable pub with_volumes : Plan → (ℕ → ℕ) → Plan
with_volumes p v = record { den = p.den; share = p.share; volume = v; flow = p.flow }

module _ (c : Case) (π : Permutation c.orders) where
  abbrev o : Case
  o = moved_case c π.source

  pub still_placed : Placed c → Placed (moved_case c π.source)
  unfolding moved_case
  still_placed ok = record { from-in = ok.from-in; to-in = ok.to-in; zone-in = λ i h. ok.zone-in (π.source i) (π.source_in i h) }

  -- rows 6 and 7 do not ask about orders
  pub branch-fault-is : (m n : ℕ) → branch_fault (moved_case c π.source) m n ≡ branch_fault c m n
  unfolding branch_fault moved_case
  branch-fault-is m zero = refl
  branch-fault-is m (suc z) = refl

  pub link-fault-is : (l n : ℕ) → link_fault (moved_case c π.source) l n ≡ link_fault c l n
  unfolding link_fault repeated moved_case
  link-fault-is l zero = refl
  link-fault-is l (suc zero) = refl
  link-fault-is l (suc (suc zero)) = refl
  link-fault-is l (suc (suc (suc n))) = refl

  -- rule 8
  surplus-moved : (d : Prices) → surplus o d ≡ surplus c d
  unfolding surplus order_surplus buys zone_price branch_price moved_case
  surplus-moved d = sum-permuted π (order_surplus c d)

  pub bound-moved : (d : Prices) → bound o d ≡ bound c d
  unfolding bound network_bound no_link branch_total branch_value link_total link_value spread zone_price branch_price moved_case
  bound-moved d = ap (λ (x : ℤ). x +ℤ network_bound c d) (surplus-moved d)

  -- with volumes rearranged alike
  module _ (p : Plan) (v : ℕ → ℕ) (v-is : (i : ℕ) → i < c.orders → v i ≡ p.volume (π.source i)) where
    abbrev x : Plan
    x = with_volumes p v

    -- rules 1, 2, 3, 5 and 7
    net-moved : (z : ℕ) → net o x z ≡ net c p z
    unfolding net order_net buys moved_case with_volumes
    net-moved z =
        sum-ext c.orders _ _ (λ i h. ap (λ (n : ℕ). only (eqb (c.zone (π.source i)) z) (signed (eqb (c.side (π.source i)) 0) (pos n))) (v-is i h))
        ∙ sum-permuted π (λ i. only (eqb (c.zone i) z) (order_net c p i))

    fb-moved : (z : ℕ) → fb_part o x z ≡ fb_part c p z
    unfolding fb_part lta_part inflow outflow moved_case with_volumes
    fb-moved z = ap (λ (n : ℤ). n -ℤ lta_part c p z) (net-moved z)

    pub net-sum-moved : net_sum o x ≡ net_sum c p
    unfolding net_sum moved_case
    net-sum-moved = sum-ext c.zones _ _ (λ z h. net-moved z)

    pub branch-use-moved : (m : ℕ) → branch_use o x m ≡ branch_use c p m
    unfolding branch_use moved_case
    branch-use-moved m = sum-ext c.zones _ _ (λ z h. ap (λ (n : ℤ). c.ptdf m z *ℤ n) (fb-moved z))

    welfare-moved : welfare o x ≡ welfare c p
    unfolding welfare order_welfare buys moved_case with_volumes
    welfare-moved = ap (λ (n : ℤ). pos parts_in_one *ℤ n)
        (sum-ext c.orders _ _ (λ i h. ap (λ (n : ℕ). signed (eqb (c.side (π.source i)) 0) (pos n *ℤ c.price (π.source i))) (v-is i h)) ∙ sum-permuted π (order_welfare c p))

    -- rule 11, and every total
    module _ (d : Prices) where
      pub gap-moved : gap o x d ≡ gap c p d
      unfolding gap
      gap-moved = λ j. bound-moved d j -ℤ welfare-moved j

      rent-moved : rent o x d ≡ rent c p d
      unfolding rent zone_price branch_price moved_case
      rent-moved = sum-ext c.zones _ _ (λ z h. ap (λ (n : ℤ). n *ℤ zone_price c d z) (net-moved z))

      pub totals-moved : totals_of o x d ≡ totals_of c p d
      unfolding totals_of owed link_owed spread zone_price branch_price moved_case
      totals-moved = λ j. record { welfare = welfare-moved j; bound = bound-moved d j; gap = gap-moved j; rent = rent-moved j; owed = owed c d }
