-- Sorted orders (request S-9: "the same book sorted differently"), by any key of an order's four fields.
-- Assumes nothing.
use Rattle.std.specs.Prelude.{List, ℕ, ◌≤◌, ◌<◌, ℤ}
use Rattle.rules.specs.Meaning.Layout.{orders_in}
use Rattle.rules.specs.Meaning.Hour.{Case, case_of}
use Rattle.rules_rearranged.specs.Meaning.Permutation.{Permutation}
use Rattle.rules_rearranged.specs.Meaning.Rearranged.{rearranged_case}

-- the sort key: a number from zone, side, quantity and price
abbrev pub Key : Type 0
Key = ℕ → ℕ → ℕ → ℤ → ℕ

abbrev pub key_of : Key → Case → ℕ → ℕ
key_of key c i = key (c.zone i) (c.side i) (c.quantity i) (c.price i)

-- no order has a smaller key than an earlier one
pub record Sorted (key : Key) (c : Case) : Type 0 where
  pub in_order : (i j : ℕ) → i ≤ j → j < c.orders → key_of key c i ≤ key_of key c j

-- a rearrangement that sorts the orders of s
pub record Sorting (key : Key) (s : List ℕ) : Type 0 where
  pub by : Permutation (orders_in s)
  pub sorted : Sorted key (case_of (rearranged_case s by))
