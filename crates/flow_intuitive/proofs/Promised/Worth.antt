-- A YES GOES FROM A LOWER PRICE TO A HIGHER ONE. For an input that is answered yes, sum what each zone imports
-- (minus what it exports) at its zone's price. The result is what the flows of the yes gain, pair by pair, from the
-- price of the first zone to that of the second. No flow loses, so the sum is not negative. Assumes nothing.
use Rattle.std.specs.Prelude.{◌≡◌, List, ℕ, length, ℤ, pos, ◌≤ℤ◌}
use Rattle.std.proofs.Common.{sym, ap, ◌∙◌}
use Rattle.std.proofs.Math.Option.{none}
use Rattle.base_integers.specs.Meaning.Sums.{sum_to}
use Rattle.base_causes.specs.declared.Outcome.{Outcome}
use Rattle.flow_pairs.specs.Meaning.Pairs.{pair_count, imports_worth, network_of}
use Rattle.flow_pairs.proofs.Promised.Worth as pairs-worth
use Rattle.flow_pairs.proofs.Promised.Worth.{pair_gain}
use Rattle.flow_network.specs.Meaning.Network.{FeasibleAll}
use Rattle.flow_intuitive.specs.declared.Carried.{Carried}
use Rattle.flow_intuitive.specs.Meaning.Intuitive.{intuitive_refusal, intuitive_outcome, IntuitiveAnswer}
use Rattle.flow_intuitive.proofs.Promised.Causes.{intuitive-none}
use Rattle.flow_intuitive.proofs.Steps.Sizes.{placed, balanced}

module _ (net_exports prices : List ℤ) (pairs : List ℕ) where
  -- FOR AN INPUT THAT IS TAKEN, with either scratch, and has such flows
  module _ (n room : ℕ) (e : (intuitive_outcome net_exports prices pairs n room).number ≡ 0) (i : FeasibleAll (network_of net_exports prices pairs)) where
    passed : intuitive_refusal net_exports prices pairs n room ≡ none
    passed = intuitive-none net_exports prices pairs n room e

    pub flows-gain : imports_worth net_exports prices ≡ sum_to (pair_count pairs) (λ k. pair_gain prices pairs (i.flows.flow k) k)
    flows-gain = pairs-worth.flows-gain net_exports prices pairs (placed net_exports prices pairs n room passed) (balanced net_exports prices pairs n room passed) i

    pub worth-nonneg : pos 0 ≤ℤ imports_worth net_exports prices
    worth-nonneg = pairs-worth.worth-nonneg net_exports prices pairs (placed net_exports prices pairs n room passed) (balanced net_exports prices pairs n room passed) i

  -- FOR THE ENTRY: an input that it answers yes
  pub yes-worth-nonneg : (n : ℕ) (s : List ℤ) (r : Carried) (s' : List ℤ) → IntuitiveAnswer net_exports prices pairs n s r s' → r.number ≡ 0 → r.intuitive ≡ 1 → pos 0 ≤ℤ imports_worth net_exports prices
  yes-worth-nonneg n s r s' a e y = worth-nonneg n (length s) (sym (ap (λ (o : Outcome). o.number) a.outcome) ∙ e) (a.a-yes e y)
