-- ONCE AROUND: the least order on a circle, found by a walk from an order that leads back to itself until the walk
-- is back there. Assumes nothing.
use Rattle.std.specs.Prelude.{◌≡◌}
use Rattle.std.proofs.Math.Option.{Option, some}
use Prim.Native.Nat.{ℕ, ◌≤◌, ◌<◌}
use Rattle.rules.specs.Meaning.Families.{ancestor, LeadsBack}

-- THE LEAST, from i on, of the orders that an order leads to; it leads back to itself
pub record Least (parent : ℕ → Option ℕ) (n i tip least : ℕ) : Type 0 where
  pub inside : least < n
  pub back : LeadsBack parent least
  pub no_less : (s k : ℕ) → ancestor parent s tip ≡ some k → i ≤ k → least ≤ k

-- ON THE WAY AROUND, some steps from tip: the circle has at least that many steps, and the least of the orders
-- passed is one of them
pub record Round (parent : ℕ → Option ℕ) (n tip steps at least : ℕ) : Type 0 where
  pub whole : ℕ
  pub whole_in : whole ≤ n
  pub circle : ancestor parent whole tip ≡ some tip
  pub one-or-more : 1 ≤ steps
  pub within : steps ≤ whole
  pub there : ancestor parent steps tip ≡ some at
  pub passed : (s k : ℕ) → s < steps → ancestor parent s tip ≡ some k → least ≤ k
  pub place : ℕ
  pub is : ancestor parent place tip ≡ some least
