-- The rent fits as long as the prices are within their limits. Assumes nothing.
use Rattle.std.specs.Prelude.{◌≡◌, List, ℕ, ◌≤◌, ◌*ℤ◌}
use Rattle.std.proofs.Math.Option.{none}
use Rattle.base_integers.specs.Meaning.Ranges.{outside}
use Rattle.base_integers.specs.Meaning.Machine.{SumsFit}
use Rattle.base_limits.specs.Meaning.Limits as limits
use Rattle.base_measures.specs.declared.Tenths.{Tenths}
use Rattle.base_measures.specs.declared.Grains.{Grains}
use Rattle.base_causes.specs.Meaning.Causes.{first_below}
use Rattle.base_measures.specs.Meaning.TenthsHold.{tenths_at}
use Rattle.report_file.specs.Meaning.Prices.{grains_at}

-- for the first n zones, where none of their prices is outside its limits
pub record RentFits (nets : List Tenths) (prices : List Grains) (zones : ℕ) : Type 0 where
  pub sums : (n : ℕ) → n ≤ zones → first_below n (λ z. outside limits.zone_price (grains_at prices z)) ≡ none → SumsFit (λ z. tenths_at nets z *ℤ grains_at prices z) n
