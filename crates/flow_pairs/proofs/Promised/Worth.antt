-- WHAT A YES IS WORTH. A counted pair goes from its first zone to its second and never to a lower price; a zone's
-- imports less its exports are its position with its sign turned; where the positions sum to zero, imports equal
-- exports. So what a yes carries is worth, at the zones' prices, what its flows gain (`flow_network`), and that is
-- not negative. Exports taken for imports, or pairs counted from a higher price to a lower, would make it false.
-- Assumes nothing.
use Rattle.std.specs.Prelude.{◌≡◌, List, ℕ, length, ℤ, pos, negsuc, neg_ℤ, ◌-ℤ◌, ◌*ℤ◌, ◌≤ℤ◌}
use Rattle.std.proofs.Common.{sym, ap, ◌∙◌, arith}
use Rattle.std.specs.Int.Signed.{le_z_yes}
use Rattle.base_integers.specs.Meaning.Difference.{up, dn}
use Rattle.base_integers.specs.Steps.Difference.{at, ◌⊖◌, ⊝◌, eq-by}
use Rattle.base_integers.specs.Steps.Ranges.{is_true}
use Rattle.base_integers.specs.Meaning.Sums.{sum_to}
use Rattle.base_integers.specs.Steps.Sums.{sum-ext}
use Rattle.base_integers.specs.Meaning.NaturalSums.{sum_nat}
use Rattle.base_integers.specs.Steps.NaturalSums.{sum-parts}
use Rattle.flow_positions.specs.Meaning.Positions.{position_at}
use Rattle.flow_network.specs.Meaning.Network.{Placed, all_exports, FeasibleAll}
use Rattle.flow_network.proofs.Promised.Worth.{Rising, yes-worth, yes-nonneg}
use Rattle.flow_pairs.specs.Meaning.Pairs.{pair_count, first_zone, second_zone, price_at, imports_worth, network_of}

-- what an amount gains along pair k, from its first zone to its second
abbrev pub pair_gain : List ℤ → List ℕ → ℕ → ℕ → ℤ
pair_gain prices pairs flow k = pos flow *ℤ (price_at prices (second_zone pairs k) -ℤ price_at prices (first_zone pairs k))

module _ (net_exports prices : List ℤ) (pairs : List ℕ) where
  -- A COUNTED PAIR goes from a lower or equal price to a higher one
  pub counted-rises : Rising (network_of net_exports prices pairs) (price_at prices)
  counted-rises k l e = le_z_yes (is_true e)

  -- A POSITION is export less import
  turned : (x : ℤ) → neg_ℤ x ≡ pos (dn x) -ℤ pos (up x)
  turned (pos n) = eq-by (⊝◌ (at (pos n))) (at (pos 0) ⊖ at (pos n)) (omega arith)
  turned (negsuc n) = eq-by (⊝◌ (at (negsuc n))) (at (pos (dn (negsuc n))) ⊖ at (pos 0)) (omega arith)

  pub imports-less-exports : (z : ℕ) → pos ((network_of net_exports prices pairs).imports z) -ℤ pos ((network_of net_exports prices pairs).exports z) ≡ neg_ℤ (position_at net_exports z)
  imports-less-exports z = sym (turned (position_at net_exports z))

  worth-parts : imports_worth net_exports prices ≡ sum_to (length net_exports) (λ z. (pos ((network_of net_exports prices pairs).imports z) -ℤ pos ((network_of net_exports prices pairs).exports z)) *ℤ price_at prices z)
  worth-parts = sum-ext (length net_exports) _ _ (λ z l. ap (λ (x : ℤ). x *ℤ price_at prices z) (sym (imports-less-exports z)))

  -- IMPORTS EQUAL EXPORTS
  pub as-much-imported : sum_to (length net_exports) (position_at net_exports) ≡ pos 0 → all_exports (network_of net_exports prices pairs) ≡ sum_nat (length net_exports) (network_of net_exports prices pairs).imports
  as-much-imported e = omega (arith, sum-parts (position_at net_exports) (length net_exports), ap up e, ap dn e)

  -- FOR A YES, over its flows
  module _ (ok : Placed (network_of net_exports prices pairs)) (e : sum_to (length net_exports) (position_at net_exports) ≡ pos 0) (i : FeasibleAll (network_of net_exports prices pairs)) where
    pub flows-gain : imports_worth net_exports prices ≡ sum_to (pair_count pairs) (λ k. pair_gain prices pairs (i.flows.flow k) k)
    flows-gain = worth-parts ∙ yes-worth (network_of net_exports prices pairs) ok i (as-much-imported e) (price_at prices)

    pub worth-nonneg : pos 0 ≤ℤ imports_worth net_exports prices
    worth-nonneg = rw worth-parts (yes-nonneg (network_of net_exports prices pairs) ok i (as-much-imported e) (price_at prices) counted-rises)
