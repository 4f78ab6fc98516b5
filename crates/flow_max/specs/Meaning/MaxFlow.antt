-- What the search for the largest flow answers.
use Rattle.std.specs.Prelude.{◌≡◌, Bool, true, false, ℕ}
use Rattle.flow_network.specs.Meaning.Network.{Network, Largest, DeficientSet, FeasibleAll}

-- THE ANSWER: the largest total, a flow of every export for a yes, and a deficient set for a no
pub record MaxFlowAnswer (c : Network) (all : Bool) (t : ℕ) : Type 0 where
  pub largest : Largest c t
  pub feasible-all : all ≡ true → FeasibleAll c
  pub deficient : all ≡ false → DeficientSet c
