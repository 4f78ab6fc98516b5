-- Volumes and flows within the limits that earlier rows of the table ask for.
use Rattle.std.specs.Prelude.{ℕ, ◌≤◌, ◌<◌}
use Rattle.rules.specs.Meaning.Hour.{Case, Plan}

-- verdict 21 passed
pub record VolumesInRange (c : Case) (p : Plan) : Type 0 where
  pub within : (i : ℕ) → i < c.orders → p.volume i ≤ c.quantity i

-- verdict 23 passed: no flow is above the greatest capacity
pub record FlowsInRange (c : Case) (p : Plan) : Type 0 where
  pub within : (l : ℕ) → l < c.links → p.flow l ≤ 100000
