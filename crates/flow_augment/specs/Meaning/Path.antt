-- A path of the search, read from its labels, and the flow after the path was used.
use Rattle.std.specs.Prelude.{◌≡◌, List, ℕ, ◌+◌, ◌*◌, ◌≤◌, ◌<◌, length, get_or, set, ℤ, pos}
use Rattle.base_integers.specs.Meaning.Difference.{up, dn}
use Rattle.flow_network.specs.Meaning.Network.{Placed}
use Rattle.flow_pairs.specs.Meaning.Pairs.{pair_count, first_zone, second_zone, network_of}
use Rattle.flow_scratch.specs.Meaning.Places.{amount_at, flow_of}
use Rattle.flow_scratch.specs.Steps.Scratch.{Rest}
use Rattle.flow_augment.specs.declared.Label.{Label}
use Rattle.flow_augment.specs.declared.Labels.{Labels}
use Rattle.flow_augment.specs.Steps.Lacking.{State}
use Rattle.flow_augment.specs.Steps.Links.{Trail, Links}

-- a zone that is not reached
abbrev pub unreached : Label
unreached = record { amount = 0; depth = 0; via = 0 }

-- the labels of a search
abbrev pub trail_of : Labels → Trail
trail_of m = record {
  lab = λ z. (get_or m.zones z unreached).amount;
  dep = λ z. (get_or m.zones z unreached).depth;
  by = λ z. (get_or m.zones z unreached).via;
}

-- a zone reached, the next in the order
abbrev pub labelled : Labels → ℕ → Label → Labels
labelled m z l = record { zones = set m.zones z l; queue = set m.queue m.count z; count = m.count + 1; sink = m.sink }

-- the sizes of an hour that no row refuses
pub record InputsInRange (net_exports prices : List ℤ) (bytes : List ℕ) : Type 0 where
  pub zones : length net_exports ≤ 16
  pub prices-too : length prices ≡ length net_exports
  pub even : length bytes ≡ 2 * pair_count bytes
  pub pairs : pair_count bytes ≤ 64
  pub placed : Placed (network_of net_exports prices bytes)
  pub new : (j k : ℕ) → j < k → k < pair_count bytes → first_zone bytes j ≡ first_zone bytes k → second_zone bytes j ≡ second_zone bytes k → ⊥
  pub exports-le : (z : ℕ) → z < length net_exports → up (get_or net_exports z (pos 0)) ≤ 51200000
  pub imports-le : (z : ℕ) → z < length net_exports → dn (get_or net_exports z (pos 0)) ≤ 51200000

-- D MORE IS BROUGHT TO ZONE t
pub record Augment (net_exports prices : List ℤ) (total : ℕ) (bytes : List ℕ) (s : List ℤ) (m : Trail) (d t : ℕ) : Type 0 where
  pub sized : InputsInRange net_exports prices bytes
  pub room : 96 ≤ length s
  pub state : State (network_of net_exports prices bytes) (flow_of s) total
  pub links : (n : ℕ) → Links (network_of net_exports prices bytes) (flow_of s) total m n
  pub inside : t < length net_exports
  pub some : 0 < d
  pub lab : d ≤ m.lab t
  pub left : amount_at s (80 + t) + d ≤ dn (get_or net_exports t (pos 0))
  pub few : total + d < 4611686018427387904

pub record SomeAugment (bytes : List ℕ) (s : List ℤ) (m : Trail) (d t : ℕ) : Type 0 where
  pub net_exports : List ℤ
  pub prices : List ℤ
  pub total : ℕ
  pub augment : Augment net_exports prices total bytes s m d t

pub record Augmented (bytes : List ℕ) (s s' : List ℤ) (m : Trail) (d t : ℕ) : Type 0 where
  pub state : (net_exports prices : List ℤ) (total : ℕ) → Augment net_exports prices total bytes s m d t → State (network_of net_exports prices bytes) (flow_of s') (total + d)
  pub rest : Rest s s'
