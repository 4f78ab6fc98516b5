-- What one search for an augmenting path answers.
use Rattle.std.specs.Prelude.{◌≡◌, List, ℕ, ltb, ℤ, None, Some}
use Rattle.flow_network.specs.Meaning.Network.{Feasible}
use Rattle.flow_network.specs.Steps.Saturated.{Saturated}
use Rattle.flow_pairs.specs.Meaning.Pairs.{network_of}
use Rattle.flow_scratch.specs.Meaning.Places.{flow_of}
use Rattle.flow_augment.specs.declared.Labels.{Labels}
use Rattle.flow_augment.specs.Meaning.Path.{trail_of}
use Rattle.flow_search.specs.Steps.Search.{Found}

-- WHAT IS FOUND: a zone to which more can be brought, or that no augmenting path is left
pub record SearchAnswer (net_exports prices : List ℤ) (bytes : List ℕ) (s : List ℤ) (m : Labels) : Type 0 where
  pub found : (t : ℕ) → m.sink ≡ Some t → Found (network_of net_exports prices bytes) (flow_of s) (trail_of m) t
  pub none : m.sink ≡ None → Feasible (network_of net_exports prices bytes) (flow_of s) → Saturated (network_of net_exports prices bytes) (flow_of s) (λ z. ltb 0 ((trail_of m).lab z))
