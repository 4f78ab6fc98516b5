-- Rearrangements of the indices below a count. Assumes nothing.
use Rattle.std.specs.Prelude.{◌≡◌, refl, ℕ, ◌<◌}

-- a bijection on the indices below n, with its inverse: place i gets the item from `source i`, and the item at i
-- goes to `target i`
pub record Permutation (n : ℕ) : Type 0 where
  pub source : ℕ → ℕ
  pub target : ℕ → ℕ
  pub source_in : (i : ℕ) → i < n → source i < n
  pub target-in : (i : ℕ) → i < n → target i < n
  pub target-source : (i : ℕ) → i < n → target (source i) ≡ i
  pub source-target : (i : ℕ) → i < n → source (target i) ≡ i

-- none moves
abbrev pub unmoved : (n : ℕ) → Permutation n
unmoved n = record {
  source = λ i. i;
  target = λ i. i;
  source_in = λ i h. h;
  target-in = λ i h. h;
  target-source = λ i h. refl;
  source-target = λ i h. refl;
}
