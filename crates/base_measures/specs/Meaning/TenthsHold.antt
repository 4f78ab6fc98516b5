-- Sixteen volumes that hold a number for each zone.
use Rattle.std.specs.Prelude.{◌≡◌, List, ℕ, ◌<◌, length, get_or, ℤ, pos}
use Rattle.base_measures.specs.declared.Tenths.{Tenths}

abbrev pub no_tenths : Tenths
no_tenths = record { 0 = pos 0 }

abbrev pub tenths_at : List Tenths → ℕ → ℤ
tenths_at xs z = (get_or xs z no_tenths).0

pub record TenthsHold (f : ℕ → ℤ) (xs : List Tenths) : Type 0 where
  pub long : length xs ≡ 16
  pub each : (z : ℕ) → z < 16 → tenths_at xs z ≡ f z
