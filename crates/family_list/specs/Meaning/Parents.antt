-- S-11: the parent of each of n orders, if it has one, is itself an order. Then row 18's test and its definition
-- agree (`Circle.leads-back`). Assumes nothing.
use Rattle.std.specs.Prelude.{◌≡◌, ℕ, ◌<◌}
use Rattle.std.proofs.Math.Option.{Option, some}

-- EVERY PARENT EXISTS
pub record Exist (n : ℕ) (parent : ℕ → Option ℕ) : Type 0 where
  pub exists : (i j : ℕ) → i < n → parent i ≡ some j → j < n
