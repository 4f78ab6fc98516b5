-- Why rule 3 says "over connected zones": take two zones, one selling a tenth and one buying it, and no line from
-- the first to the second. The net positions sum to zero, so this is a clearing of document 01. It is no solution
-- of (60) to (72): without flow from the first zone, (68) and (69) leave the second no flow-based position above
-- zero. Assumes nothing.
use Rattle.std.specs.Prelude.{◌≡◌, refl, Bool, not, ℕ, ◌-◌, T, ℤ, pos, ◌+ℤ◌, ◌-ℤ◌, ◌≤ℤ◌}
use Rattle.std.proofs.Common.{◌∙◌, arith}
use Rattle.base_integers.specs.Steps.Difference.{at, ◌⊕◌, ◌⊖◌, le-fact, eq-fact}
use Rattle.base_integers.specs.Meaning.Sums.{sum_to}
use Rattle.rules.specs.Meaning.Hour.{Case, Plan, buys, order_net, net, inflow, outflow, lta_part, fb_part, net_sum}
use Rattle.rules.specs.Meaning.Clearing.{Placed, Clearing}
use Rattle.rules.specs.Meaning.Annex.{Solution, Feasible, PairsOnce, AlongLines, net_flow}
use Rattle.rules.specs.Meaning.AnnexPromise.{Same}
use Rattle.rules.proofs.Promised.Annex.Extended.{agree}

-- order 0 sells in zone 0, order 1 buys in zone 1, a tenth each
unfoldable pub two_zones : Case
two_zones = record {
  zones = 2;
  branches = 0;
  links = 0;
  orders = 2;
  tolerance = 0;
  ram = λ m. pos 0;
  ptdf = λ m z. pos 0;
  from = λ j. 0;
  to = λ j. 0;
  capacity = λ j. 0;
  contracted = λ j. 0;
  zone = λ i. i;
  side = λ i. 1 - i;
  quantity = λ i. 1;
  price = λ i. pos 0;
}

unfoldable pub both_accepted : Plan
both_accepted = record { den = 1; share = 0; volume = λ i. 1; flow = λ j. 0 }

pub allowed : Clearing two_zones both_accepted
unfolding two_zones both_accepted net_sum net order_net buys sum_to
allowed = record {
  den-positive = omega arith;
  volume-in = λ i h. omega arith;
  share-in = omega arith;
  without-links = λ e. refl;
  balance = refl;
  link = λ l h. absurd (omega arith);
  branch = λ m h. absurd (omega arith);
}

-- with any lines except one from zone 0 to zone 1
pub not_carried : (line : ℕ → ℕ → Bool) → T (not (line 0 1)) → (x : Solution) → Feasible two_zones x → AlongLines two_zones line x → Same two_zones both_accepted x → ⊥
unfolding two_zones both_accepted fb_part lta_part inflow outflow net order_net buys net_flow sum_to
not_carried line no_line x fe along same = apart (x.flow_fb 0 1) (x.flow_fb 1 0)
    ((agree two_zones placed once both_accepted x same fe).fb-part-is 1 (omega arith) ∙ fe.network.netposFB-is 1 (omega arith))
    (along.elsewhere 0 1 (omega arith) (omega arith) no_line) (fe.network.flowFB-in 1 0 (omega arith) (omega arith))
  where
    placed : Placed two_zones
    placed = record { from-in = λ j h. absurd (omega arith); to-in = λ j h. absurd (omega arith); zone-in = λ i h. h }

    once : PairsOnce two_zones
    once = record { once = λ i j h l e f. absurd (omega arith) }

    apart : (f g : ℤ) → pos 1 ≡ (pos 0 +ℤ (f -ℤ g)) +ℤ pos 0 → f ≡ pos 0 → pos 0 ≤ℤ g → ⊥
    apart f g e z h = omega (arith, eq-fact (at (pos 1)) ((at (pos 0) ⊕ (at f ⊖ at g)) ⊕ at (pos 0)) e, eq-fact (at f) (at (pos 0)) z, le-fact (at (pos 0)) (at g) h)
