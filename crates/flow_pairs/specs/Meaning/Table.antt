-- The pairs as a table by their two zones.
use Rattle.std.specs.Prelude.{◌≡◌, List, ℕ, ◌+◌, ◌*◌, ◌≤◌, ◌<◌, length, get_or}
use Rattle.flow_pairs.specs.Meaning.Pairs.{pair_count, first_zone, second_zone}

-- whole pairs of known zones, at most 64, no two alike
pub record Distinct (bytes : List ℕ) : Type 0 where
  pub even : length bytes ≡ 2 * pair_count bytes
  pub pairs : pair_count bytes ≤ 64
  pub first-in : (k : ℕ) → k < pair_count bytes → first_zone bytes k < 16
  pub second-in : (k : ℕ) → k < pair_count bytes → second_zone bytes k < 16
  pub new : (j k : ℕ) → j < k → k < pair_count bytes → first_zone bytes j ≡ first_zone bytes k → second_zone bytes j ≡ second_zone bytes k → ⊥

abbrev pub pair_in : List ℕ → ℕ → ℕ → ℕ
pair_in table a b = get_or table (16 * a + b) 0

-- the first n pairs stand in it
pub record PairsTabled (bytes : List ℕ) (n : ℕ) (table : List ℕ) : Type 0 where
  pub wide : length table ≡ 256
  pub sound : (a b : ℕ) → a < 16 → b < 16 → pair_in table a b < 64 → (pair_in table a b < n) × ((first_zone bytes (pair_in table a b) ≡ a) × (second_zone bytes (pair_in table a b) ≡ b))
  pub complete : (k : ℕ) → k < n → pair_in table (first_zone bytes k) (second_zone bytes k) ≡ k
