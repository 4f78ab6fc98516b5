-- A scratch whose first n numbers are zero and whose others are unchanged.
use Rattle.std.specs.Prelude.{◌≡◌, List, ℕ, ◌≤◌, ◌<◌, length, get_or, ℤ, pos}

pub record Cleared (n : ℕ) (s s' : List ℤ) : Type 0 where
  pub len : length s' ≡ length s
  pub zeros : (i : ℕ) → i < n → get_or s' i (pos 0) ≡ pos 0
  pub past : (i : ℕ) → n ≤ i → get_or s' i (pos 0) ≡ get_or s i (pos 0)
