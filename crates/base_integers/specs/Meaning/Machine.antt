-- A sum that a loop can compute in 64 bits: each term and each partial sum fits.
use Rattle.std.specs.Prelude.{ℕ, ◌<◌, ◌≤◌, ℤ}
use Rattle.std.specs.Int.{w64}
use Rattle.std.proofs.Common.{SFits}
use Rattle.base_integers.specs.Meaning.Sums.{sum_to}

-- each of the first n terms, and every partial sum of them, fits 64 bits
pub record SumsFit (f : ℕ → ℤ) (n : ℕ) : Type 0 where
  pub term : (i : ℕ) → i < n → SFits w64 (f i)
  pub fits : (i : ℕ) → i ≤ n → SFits w64 (sum_to i f)
