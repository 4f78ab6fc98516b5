-- A flow is augmented until no augmenting path is left. Its total is then the largest, and decides the yes or no.
-- Assumes nothing.
use Rattle.std.specs.Prelude.{◌≡◌, Bool, List, ℕ, ◌+◌, ◌-◌, ◌≤◌, ◌<◌, eqb, length, ℤ, None, Some}
use Rattle.std.proofs.Common.{ap, ◌∙◌, arith, mul-le-mul_right, eqb-true}
use Rattle.std.proofs.Math.Decide.{dec_lt}
use Rattle.std.proofs.lemmas.Bool.{eqb-false}
use Rattle.base_integers.specs.Meaning.Difference.{up, dn}
use Rattle.base_integers.specs.Meaning.NaturalSums.{sum_nat, only}
use Rattle.base_integers.specs.Steps.NaturalSums.{sum-le, sum-zero, sum-ext, sum_bound, only_zero}
use Rattle.flow_network.specs.Meaning.Network.{Network, Placed, Flow, carried, all_exports}
use Rattle.flow_network.specs.Steps.Saturated.{Saturated}
use Rattle.flow_network.proofs.Steps.Saturated.{largest-of, yes_of, no_of}
use Rattle.flow_positions.specs.Meaning.Positions.{position_at}
use Rattle.flow_pairs.specs.Meaning.Pairs.{network_of}
use Rattle.flow_pairs.specs.Meaning.Table.{Distinct}
use Rattle.flow_scratch.specs.Meaning.Places.{amount_at, flow_of}
use Rattle.flow_scratch.specs.Meaning.Cleared.{Cleared}
use Rattle.flow_augment.specs.declared.Labels.{Labels}
use Rattle.flow_augment.specs.Steps.Lacking.{State}
use Rattle.flow_augment.specs.Meaning.Path.{trail_of, InputsInRange, Augment}
use Rattle.flow_search.specs.Meaning.SearchAnswer.{SearchAnswer}
use Rattle.flow_max.specs.Meaning.MaxFlow.{MaxFlowAnswer}

-- flows that leave no augmenting path, and carry the total
pub record Filled (c : Network) (b : Flow) (total : ℕ) : Type 0 where
  pub state : State c b total
  pub set : ℕ → Bool
  pub saturated : Saturated c b set

pub total-le : (c : Network) (b : Flow) (total : ℕ) → State c b total → total ≤ all_exports c
total-le c b total st = omega (arith, st.sum, sum-le c.zones b.export-used c.exports st.feasible.export-used-le)

module _ (net_exports prices : List ℤ) (bytes : List ℕ) (z : InputsInRange net_exports prices bytes) where
  abbrev c : Network
  c = network_of net_exports prices bytes

  -- its pairs can stand in a table
  pub distinct : Distinct bytes
  distinct = record {
    even = z.even;
    pairs = z.pairs;
    first-in = λ k h. omega (arith, z.placed.from-in k h, z.zones);
    second-in = λ k h. omega (arith, z.placed.to-in k h, z.zones);
    new = z.new;
  }

  pub exports-few : all_exports c ≤ 819200000
  exports-few = omega (arith, sum_bound (length net_exports) 51200000 (λ y. up (position_at net_exports y)) z.exports-le, mul-le-mul_right 51200000 z.zones)

  module _ (s : List ℤ) (total : ℕ) (room : 96 ≤ length s) (st : State c (flow_of s) total) (m : Labels) (r : SearchAnswer net_exports prices bytes s m) where
    -- a zone was found to which d more can be brought
    pub augment-of : (t : ℕ) → m.sink ≡ Some t → (d : ℕ) → 0 < d → d ≤ (trail_of m).lab t → d ≤ dn (position_at net_exports t) - amount_at s (80 + t) → Augment net_exports prices total bytes s (trail_of m) d t
    augment-of t e d some l i =
        let f = r.found t e in
        record {
          sized = z;
          room = room;
          state = st;
          links = f.links total st.flows;
          inside = f.inside;
          some = some;
          lab = l;
          left = omega (arith, some, i);
          few = omega (arith, total-le c (flow_of s) total st, exports-few, i, z.imports-le t f.inside);
        }

    pub filled : m.sink ≡ None → Filled c (flow_of s) total
    filled e = record { state = st; set = _; saturated = r.none e st.feasible }

-- AN EMPTY FLOW
none-sum : (n : ℕ) (q : ℕ → Bool) (f : ℕ → ℕ) → ((k : ℕ) → k < n → f k ≡ 0) → sum_nat n (λ k. only (q k) (f k)) ≡ 0
none-sum n q f h = sum-ext n _ (λ k. 0) (λ k l. ap (only (q k)) (h k l) ∙ only_zero (q k)) ∙ sum-zero n

empty-state : (c : Network) (b : Flow) → ((k : ℕ) → k < c.pairs → b.flow k ≡ 0) → ((z : ℕ) → z < c.zones → b.export-used z ≡ 0) → ((z : ℕ) → z < c.zones → b.import-used z ≡ 0) → State c b 0
empty-state c b f e i = record {
  feasible = record {
    export-used-le = λ z l. omega (arith, e z l);
    import-used-le = λ z l. omega (arith, i z l);
    along = λ k l t. f k l;
    conserved = λ z l. omega (arith, e z l, i z l, none-sum c.pairs (λ k. eqb (c.to k) z) b.flow f, none-sum c.pairs (λ k. eqb (c.from k) z) b.flow f);
  };
  sum = sum-ext c.zones b.export-used (λ z. 0) e ∙ sum-zero c.zones;
  flows = λ k l. omega (arith, f k l);
}

pub cleared-state : (net_exports prices : List ℤ) (bytes : List ℕ) (n : ℕ) (s s' : List ℤ) → InputsInRange net_exports prices bytes → 96 ≤ n → Cleared n s s' → State (network_of net_exports prices bytes) (flow_of s') 0
cleared-state net_exports prices bytes n s s' z h w =
    empty-state (network_of net_exports prices bytes) (flow_of s') (λ k l. ap up (w.zeros k (omega (arith, z.pairs)))) (λ y l. ap up (w.zeros (64 + y) (omega (arith, z.zones))))
    (λ y l. ap up (w.zeros (80 + y) (omega (arith, z.zones))))

pub answer-of : (c : Network) (b : Flow) (total : ℕ) → Placed c → Filled c b total → MaxFlowAnswer c (eqb total (all_exports c)) total
answer-of c b total ok d = record {
  largest = rw d.state.sum at (largest-of c ok b d.state.feasible d.set d.saturated);
  feasible-all = λ e. yes_of c b d.state.feasible (d.state.sum ∙ eqb-true total (all_exports c) e);
  deficient = λ e. no_of c ok b d.state.feasible d.set d.saturated (less (eqb-false total (all_exports c) e));
}
  where
    less : (total ≡ all_exports c → ⊥) → carried c b < all_exports c
    less h = by (dec_lt (carried c b) (all_exports c))
      where
        by : Dec (carried c b < all_exports c) → carried c b < all_exports c
        by (yes p) = p
        by (no p) = absurd (h (omega (arith, d.state.sum, total-le c b total d.state)))
