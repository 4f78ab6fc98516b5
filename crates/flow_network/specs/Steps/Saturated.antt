-- Flows that leave no augmenting path carry as much as a closed set lets through: the largest total, which decides
-- the yes or no. Assumes nothing.
use Rattle.std.specs.Prelude.{◌≡◌, refl, Bool, true, false, not, ℕ, ◌+◌, ◌*◌, ◌≤◌, ◌<◌}
use Rattle.std.proofs.Common.{sym, ap, ◌∙◌, arith}
use Rattle.base_integers.specs.Meaning.NaturalSums.{sum_nat, only}
use Rattle.base_integers.specs.Steps.NaturalSums.{sum-ext, sum-scale, only-scale, each-equal}
use Rattle.flow_network.specs.Meaning.Network.{Network, Placed, Flow, Feasible, carried, all_exports, Closed, times, Largest, DeficientSet, FeasibleAll}

-- flows without an augmenting path: there is a set that no counted pair leaves and no flow enters; its imports are
-- all used, and outside it all exports are used
pub record Saturated (c : Network) (b : Flow) (s : ℕ → Bool) : Type 0 where
  pub closed : Closed c s
  pub back : (k : ℕ) → k < c.pairs → s (c.to k) ≡ true → s (c.from k) ≡ false → b.flow k ≡ 0
  pub inside : (z : ℕ) → z < c.zones → s z ≡ true → b.import-used z ≡ c.imports z
  pub outside : (z : ℕ) → z < c.zones → s z ≡ false → b.export-used z ≡ c.exports z
