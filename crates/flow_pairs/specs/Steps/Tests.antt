-- Row 84's test of a pair, one cause after the other, and what holds of a pair that passes. Assumes nothing.
use Rattle.std.specs.Prelude.{◌≡◌, List, ℕ, ◌<◌}
use Rattle.flow_pairs.specs.Meaning.Pairs.{first_zone, second_zone}

-- A PAIR THAT PASSES
pub record PairValid (zones : ℕ) (bytes : List ℕ) (k : ℕ) : Type 0 where
  pub few : k < 64
  pub first-in : first_zone bytes k < zones
  pub second-in : second_zone bytes k < zones
  pub new : (j : ℕ) → j < k → first_zone bytes j ≡ first_zone bytes k → second_zone bytes j ≡ second_zone bytes k → ⊥
