-- A refusal as the host gets it, and lists of positions and prices that pass causes 81 to 83.
use Rattle.std.specs.Prelude.{◌≡◌, false, List, length, ℤ, pos}
use Rattle.std.proofs.Math.Option.{none}
use Rattle.base_integers.specs.Meaning.Ranges.{outside}
use Rattle.base_causes.specs.declared.Outcome.{Outcome}
use Rattle.base_causes.specs.Meaning.Causes.{first_below}
use Rattle.rules.specs.Meaning.Layout.{zone_counts}
use Rattle.flow_positions.specs.Meaning.Positions.{position_outside, unbalanced}
use Rattle.flow_intuitive.specs.declared.Carried.{Carried}
use Rattle.flow_intuitive.specs.Meaning.Intuitive.{price_outside}

-- a refusal has no answer
abbrev pub refused_as : Outcome → Carried
refused_as o = record { number = o.number; index = o.index; intuitive = 0; total = record { 0 = pos 0 } }

-- lists that pass 81 to 83
pub record ListsPass (net_exports prices : List ℤ) : Type 0 where
  pub count-in : outside zone_counts (pos (length net_exports)) ≡ false
  pub lengths : length prices ≡ length net_exports
  pub positions-in : first_below (length net_exports) (position_outside net_exports) ≡ none
  pub balanced : unbalanced net_exports ≡ false
  pub prices-in : first_below (length prices) (price_outside prices) ≡ none
