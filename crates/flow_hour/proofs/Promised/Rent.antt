-- THE RENT OF AN INTUITIVE HOUR IS NOT NEGATIVE. For an hour that is answered yes, the judgement's rent (rule 11),
-- which counts imports positive, is what the flows of the yes gain from the price of each pair's first zone to that
-- of its second. No flow loses. `PlainRent` says the same of the report's bytes. Net positions without their sign
-- turned, or other prices or zones, would make it false. Assumes nothing.
use Rattle.std.specs.Prelude.{◌≡◌, List, ℕ, length, ℤ, ◌-ℤ◌, ◌*ℤ◌, ◌≤ℤ◌}
use Rattle.std.proofs.Common.{sym, ◌∙◌, arith}
use Rattle.std.proofs.Math.Path.{ap}
use Rattle.std.proofs.Math.Option.{none}
use Rattle.std.proofs.Math.IntN.{pos, neg_ℤ}
use Rattle.base_integers.specs.Steps.Difference.{at, ◌⊖◌, ⊝◌, eq-by}
use Rattle.base_integers.specs.Meaning.Sums.{sum_to}
use Rattle.base_integers.specs.Steps.Sums.{sum-ext}
use Rattle.base_causes.specs.declared.Outcome.{Outcome}
use Rattle.rules.specs.Meaning.Hour.{case_of, plan_of, prices_of, net, zone_price, rent}
use Rattle.flow_pairs.specs.Meaning.Pairs.{pair_count, price_at, imports_worth}
use Rattle.flow_positions.specs.Meaning.Positions.{position_at}
use Rattle.flow_pairs.proofs.Promised.Worth.{pair_gain, flows-gain, worth-nonneg}
use Rattle.flow_network.specs.Meaning.Network.{FeasibleAll}
use Rattle.flow_intuitive.specs.declared.Carried.{Carried}
use Rattle.flow_intuitive.specs.Meaning.Intuitive.{intuitive_refusal}
use Rattle.flow_intuitive.proofs.Steps.Sizes.{placed, balanced}
use Rattle.flow_hour.specs.Meaning.Hour.{hour_exports, hour_prices, hour_network, hour_rent, hour_outcome, HourAnswer}
use Rattle.flow_hour.proofs.Promised.Asked.{list_length, list_at}
use Rattle.flow_hour.proofs.Promised.BothSizes.{answered}

module _ (s t pairs : List ℕ) where
  turned-back : (x : ℤ) → neg_ℤ (pos 0 -ℤ x) ≡ x
  turned-back x = eq-by (⊝◌ (at (pos 0) ⊖ at x)) (at x) (omega arith)

  -- the rent is the worth of the imports
  pub rent-is : imports_worth (hour_exports s t) (hour_prices s t) ≡ hour_rent s t
  unfolding hour_exports hour_prices rent
  rent-is =
      ap (λ (k : ℕ). sum_to k (λ z. neg_ℤ (position_at (hour_exports s t) z) *ℤ price_at (hour_prices s t) z)) (list_length (case_of s).zones (λ z. pos 0 -ℤ net (case_of s) (plan_of s t) z))
      ∙ sum-ext (case_of s).zones _ _ (λ z l. λ j. (ap neg_ℤ (list_at _ (λ z. pos 0 -ℤ net (case_of s) (plan_of s t) z) z l) ∙ turned-back (net (case_of s) (plan_of s t) z)) j *ℤ list_at _ (λ z. zone_price (case_of s) (prices_of s t) z) z l j)

  -- FOR AN HOUR THAT IS TAKEN AND HAS SUCH FLOWS, with either scratch
  module _ (n room : ℕ) (e : (hour_outcome s t pairs n room).number ≡ 0) (i : FeasibleAll (hour_network s t pairs)) where
    passed : intuitive_refusal (hour_exports s t) (hour_prices s t) pairs n room ≡ none
    passed = answered s t pairs n room e

    pub rent-of-flows : hour_rent s t ≡ sum_to (pair_count pairs) (λ k. pair_gain (hour_prices s t) pairs (i.flows.flow k) k)
    rent-of-flows = sym rent-is ∙ flows-gain (hour_exports s t) (hour_prices s t) pairs (placed _ _ pairs n room passed) (balanced _ _ pairs n room passed) i

    pub rent-nonneg : pos 0 ≤ℤ hour_rent s t
    rent-nonneg = rw (← rent-is) (worth-nonneg (hour_exports s t) (hour_prices s t) pairs (placed _ _ pairs n room passed) (balanced _ _ pairs n room passed) i)

  -- FOR THE ENTRY: an hour that it answers yes
  pub yes-rent : (n : ℕ) (scratch : List ℤ) (r : Carried) (after : List ℤ) → HourAnswer s t pairs n scratch r after → r.number ≡ 0 → r.intuitive ≡ 1 → pos 0 ≤ℤ hour_rent s t
  yes-rent n scratch r after a e y = rent-nonneg n (length scratch) (sym (ap (λ (o : Outcome). o.number) a.outcome) ∙ e) (a.a-yes e y)
