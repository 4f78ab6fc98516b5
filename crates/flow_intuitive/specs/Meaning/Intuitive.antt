-- REQUEST S-3: whether an hour's exchanges can all go from a lower or equal price to a higher one, by 001's annex
-- 5.1. Here are its causes 81 to 85, what a yes, a no and the largest total mean, and the scratch afterwards.
-- `flow_pairs` has the network of an hour, `flow_network` its flows. Assumes nothing.
use Rattle.std.specs.Prelude.{◌≡◌, Bool, ◌||◌, List, [], ◌∷◌, ◌++◌, ℕ, ◌<◌, length, drop, replicate, ℤ, pos}
use Rattle.std.proofs.Math.Option.{Option, none, some}
use Rattle.base_integers.specs.Meaning.Ranges.{outside}
use Rattle.base_limits.specs.Meaning.Limits as limits
use Rattle.base_causes.specs.declared.Outcome.{Outcome}
use Rattle.base_causes.specs.Meaning.Causes.{Cause, verdict, refusal, answer, once, each}
use Rattle.rules.specs.Meaning.Layout.{zone_counts}
use Rattle.rules.specs.Meaning.Verdict.{◌under◌, differ}
use Rattle.flow_positions.specs.Meaning.Positions.{position_outside, unbalanced}
use Rattle.flow_pairs.specs.Meaning.Pairs.{pair_count, bad_pair, price_at, network_of}
use Rattle.flow_network.specs.Meaning.Network.{Network, Largest, FeasibleAll, DeficientSet}
use Rattle.flow_intuitive.specs.declared.Carried.{Carried}

-- the numbers of scratch that are lent; in S-13 `SmallScratch.small_room`
abbrev pub scratch_room : ℕ
scratch_room = 324

-- no zone or over 16, or lists of different lengths
abbrev pub unfit : List ℤ → List ℤ → Bool
unfit net_exports prices = outside zone_counts (pos (length net_exports)) || differ (length prices) (length net_exports)

abbrev pub price_outside : List ℤ → ℕ → Bool
price_outside prices z = outside limits.zone_price (price_at prices z)

-- THE TABLE, for a scratch of `room` numbers of which n are needed, 324 or 96: each row is asked over its whole
-- list before the next
unfoldable pub intuitive_causes : List ℤ → List ℤ → List ℕ → ℕ → ℕ → List Cause
intuitive_causes net_exports prices pairs n room =
    once 81 (unfit net_exports prices)
    ∷ each 82 (length net_exports) (position_outside net_exports)
    ∷ once 82 (unbalanced net_exports)
    ∷ each 83 (length prices) (price_outside prices)
    ∷ each 84 (pair_count pairs) (bad_pair (length net_exports) pairs)
    ∷ once 85 (room under n)
    ∷ []

unfoldable pub intuitive_refusal : List ℤ → List ℤ → List ℕ → ℕ → ℕ → Option Outcome
intuitive_refusal net_exports prices pairs n room = refusal (intuitive_causes net_exports prices pairs n room)

unfoldable pub intuitive_outcome : List ℤ → List ℤ → List ℕ → ℕ → ℕ → Outcome
intuitive_outcome net_exports prices pairs n room = answer (intuitive_refusal net_exports prices pairs n room)

-- THE LARGEST TOTAL in tenths; a yes and a no are `FeasibleAll` and `DeficientSet`
pub record LargestTotal (c : Network) (total : ℤ) : Type 0 where
  pub volume : ℕ
  pub is : total ≡ pos volume
  pub largest : Largest c volume

-- THE SCRATCH afterwards: after an answer its first n numbers are zero and the others unchanged; after a refusal
-- all are unchanged
abbrev pub scratch_by : Option Outcome → ℕ → List ℤ → List ℤ
scratch_by (some o) n s = s
scratch_by none n s = replicate n (pos 0) ++ drop n s

unfoldable pub intuitive_scratch : List ℤ → List ℤ → List ℕ → ℕ → List ℤ → List ℤ
intuitive_scratch net_exports prices pairs n s = scratch_by (intuitive_refusal net_exports prices pairs n (length s)) n s

-- WHAT AN ENTRY ANSWERS, with the outcome o, the network c and the scratch b' afterwards: the clauses of its
-- contract, which `host` spells out. The eighth, `yes_rent`, follows from them
pub record EntryAnswer (o : Outcome) (c : Network) (b' : List ℤ) (r : Carried) (b : List ℤ) : Type 0 where
  pub outcome : verdict r.number r.index ≡ o
  pub a-yes : r.number ≡ 0 → r.intuitive ≡ 1 → FeasibleAll c
  pub a-no : r.number ≡ 0 → r.intuitive ≡ 0 → DeficientSet c
  pub yes_or_no : r.intuitive < 2
  pub largest : r.number ≡ 0 → LargestTotal c r.total.0
  pub scratch : b ≡ b'
  pub refused : 0 < r.number → (r.intuitive ≡ 0) × (r.total.0 ≡ pos 0)

-- for net positions, prices and pairs, with n = 324 or 96: the lent scratch s, the result and the scratch
-- afterwards
abbrev pub IntuitiveAnswer : List ℤ → List ℤ → List ℕ → ℕ → List ℤ → Carried → List ℤ → Type 0
IntuitiveAnswer net_exports prices pairs n s = EntryAnswer (intuitive_outcome net_exports prices pairs n (length s)) (network_of net_exports prices pairs) (intuitive_scratch net_exports prices pairs n s)
