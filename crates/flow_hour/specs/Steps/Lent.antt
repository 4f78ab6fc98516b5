-- Numbers by zone as a lent list: sixteen numbers, the first of which are a definition's. Assumes nothing.
use Rattle.std.specs.Prelude.{◌≡◌, List, ℕ, ◌<◌, length, get_or, ℤ, pos}
use Rattle.std.proofs.Common.{SFits}
use Rattle.std.specs.Int.{w64}

-- each of the first n numbers fits
pub record FitsTo (f : ℕ → ℤ) (n : ℕ) : Type 0 where
  pub fits : (z : ℕ) → z < n → SFits w64 (f z)

-- the first n of sixteen numbers
pub record Lists (f : ℕ → ℤ) (n : ℕ) (xs : List ℤ) : Type 0 where
  pub long : length xs ≡ 16
  pub each : (z : ℕ) → z < n → get_or xs z (pos 0) ≡ f z
