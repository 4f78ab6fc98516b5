-- AN INPUT THAT NO ROW REFUSES has the sizes that the search takes. Assumes nothing.
use Rattle.std.specs.Prelude.{◌≡◌, not, List, ℕ, ◌+◌, ◌*◌, ◌/◌, ◌≤◌, ◌<◌, T, length, get_or, ℤ, pos, negsuc}
use Rattle.std.proofs.Common.{arith, eqb-true}
use Rattle.std.proofs.Math.Option.{none}
use Rattle.std.proofs.Math.Decide.{dec_lt}
use Rattle.std.proofs.lemmas.Bool.{not-false}
use Rattle.std.proofs.Math.Dec.{nltb→le}
use Rattle.std.proofs.Math.ListN.{get_or-eq_default}
use Rattle.base_integers.specs.Meaning.Difference.{up, dn}
use Rattle.base_integers.specs.Steps.Difference.{at, le-fact}
use Rattle.base_integers.specs.Meaning.Ranges.{outside, is_zero}
use Rattle.base_integers.specs.Steps.Ranges.{within, nat-within, nor-left, nor-right, not_is, is_true, zero_is}
use Rattle.base_integers.specs.Meaning.Sums.{sum_to}
use Rattle.base_limits.specs.Meaning.Limits as limits
use Rattle.base_causes.specs.Meaning.Causes.{Pass}
use Rattle.base_causes.proofs.Promised.CauseLaws.{empty, all_pass}
use Rattle.flow_positions.specs.Meaning.Positions.{position_at, unbalanced}
use Rattle.flow_pairs.specs.Meaning.Pairs.{pair_count, network_of}
use Rattle.flow_pairs.specs.Steps.Tests.{PairValid}
use Rattle.flow_pairs.proofs.Steps.Tests.{good}
use Rattle.flow_network.specs.Meaning.Network.{Placed}
use Rattle.flow_augment.specs.Meaning.Path.{InputsInRange}
use Rattle.flow_intuitive.specs.Meaning.Intuitive.{intuitive_causes, intuitive_refusal, unfit}

-- a position within its limits, both parts
near : (x : ℤ) → T (not (outside limits.net_position x)) → (up x ≤ 51200000) × (dn x ≤ 51200000)
near x t =
    let w = within limits.net_position x t in
    let a = le-fact (at (limits.net_position).least) (at x) w.least-le in
    let b = le-fact (at x) (at (limits.net_position).greatest) w.le-greatest in
    parts x a b
  where
    parts : (x : ℤ) → up (limits.net_position).least + dn x ≤ up x + dn (limits.net_position).least → up x + dn (limits.net_position).greatest ≤ up (limits.net_position).greatest + dn x → (up x ≤ 51200000) × (dn x ≤ 51200000)
    parts (pos n) a b = (omega arith, omega arith)
    parts (negsuc n) a b = (omega arith, omega arith)

module _ (net_exports prices : List ℤ) (pairs : List ℕ) (n room : ℕ) (passed : intuitive_refusal net_exports prices pairs n room ≡ none) where
  row : (i : ℕ) → Pass (get_or (intuitive_causes net_exports prices pairs n room) i empty)
  unfolding intuitive_refusal
  row i = all_pass (intuitive_causes net_exports prices pairs n room) passed i

  fits : T (not (unfit net_exports prices))
  unfolding intuitive_causes
  fits = (row 0).pass 0 (omega arith)

  pub zones-in : (1 ≤ length net_exports) × (length net_exports ≤ 16)
  zones-in = nat-within 1 16 (length net_exports) (nor-left (outside _ (pos (length net_exports))) _ fits)

  pub one-length : length prices ≡ length net_exports
  one-length = eqb-true (length prices) (length net_exports) (not-false _ (not_is _ (nor-right (outside _ (pos (length net_exports))) _ fits)))

  pub position_in : (z : ℕ) → z < length net_exports → (up (position_at net_exports z) ≤ 51200000) × (dn (position_at net_exports z) ≤ 51200000)
  unfolding intuitive_causes
  position_in z h = near (position_at net_exports z) ((row 1).pass z h)

  pub balanced : sum_to (length net_exports) (position_at net_exports) ≡ pos 0
  unfolding intuitive_causes
  balanced = zero_is _ (is_true (not-false (is_zero (sum_to (length net_exports) (position_at net_exports))) (not_is (unbalanced net_exports) ((row 2).pass 0 (omega arith)))))

  pub pair-good : (k : ℕ) → k < pair_count pairs → PairValid (length net_exports) pairs k
  unfolding intuitive_causes
  pair-good k h = good (length net_exports) pairs k (not_is _ ((row 4).pass k h))

  pub room_in : n ≤ room
  unfolding intuitive_causes
  room_in = nltb→le room n ((row 5).pass 0 (omega arith))

  pub pairs-few : pair_count pairs ≤ 64
  pairs-few = by (dec_lt 64 (pair_count pairs))
    where
      by : Dec (64 < pair_count pairs) → pair_count pairs ≤ 64
      by (yes h) = absurd (omega (arith, (pair-good 64 h).few))
      by (no h) = omega arith

  -- a last byte alone would be a pair with an unknown zone
  pub pairs-even : length pairs ≡ 2 * pair_count pairs
  pairs-even = by (dec_lt (2 * (length pairs / 2)) (length pairs))
    where
      lone : 2 * (length pairs / 2) < length pairs → ⊥
      lone h =
          let k = length pairs / 2 in
          omega (
            arith,
            (pair-good k (omega arith)).second-in,
            get_or-eq_default pairs 16 {n = 2 * k + 1} (omega arith),
            zones-in,
          )

      by : Dec (2 * (length pairs / 2) < length pairs) → length pairs ≡ 2 * pair_count pairs
      by (yes h) = absurd (lone h)
      by (no h) = omega arith

  pub placed : Placed (network_of net_exports prices pairs)
  placed = record { from-in = λ k h. (pair-good k h).first-in; to-in = λ k h. (pair-good k h).second-in }

  pub sized : InputsInRange net_exports prices pairs
  sized = record {
    zones = zones-in.1;
    prices-too = one-length;
    even = pairs-even;
    pairs = pairs-few;
    placed = placed;
    new = λ j k h l. (pair-good k l).new j h;
    exports-le = λ z h. (position_in z h).0;
    imports-le = λ z h. (position_in z h).1;
  }
