-- Prices of zones in the code: the number of each in an array, an array that holds the zone prices of a case, and zone
-- prices within their limits.
use Rattle.std.specs.Prelude.{◌≡◌, List, ℕ, ◌<◌, get_or, ℤ, pos}
use Rattle.base_integers.specs.Meaning.Ranges.{Within}
use Rattle.base_limits.specs.Meaning.Limits as limits
use Rattle.base_measures.specs.declared.Grains.{Grains}
use Rattle.rules.specs.Meaning.Hour.{Case, Prices, zone_price}

abbrev pub no_grains : Grains
no_grains = record { 0 = pos 0 }

abbrev pub grains_at : List Grains → ℕ → ℤ
grains_at prices z = (get_or prices z no_grains).0

-- the zone prices of a case, held in an array; and row 25 passed
pub record PricesHold (c : Case) (d : Prices) (prices : List Grains) : Type 0 where
  pub each : (z : ℕ) → z < c.zones → grains_at prices z ≡ zone_price c d z

pub record PricesInRange (c : Case) (d : Prices) : Type 0 where
  pub within : (z : ℕ) → z < c.zones → Within limits.zone_price (zone_price c d z)
