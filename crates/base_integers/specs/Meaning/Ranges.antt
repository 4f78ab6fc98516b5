-- A range of integers, the test of a number against it, and what a passed test leaves.
use Rattle.std.specs.Prelude.{Bool, not, ◌||◌, ℕ, ◌≤◌, ℤ, pos, neg_ℤ, ◌≤ℤ◌}
use Rattle.std.specs.Int.Signed.{lt_z}

pub record Range : Type 0 where
  pub least : ℤ
  pub greatest : ℤ

abbrev pub minus : ℕ → ℤ
minus n = neg_ℤ (pos n)

abbrev pub range : ℤ → ℤ → Range
range a b = record { least = a; greatest = b }

-- `outside r x` is a test; `Within r x` holds where it fails
unfoldable pub outside : Range → ℤ → Bool
outside r x = lt_z x r.least || lt_z r.greatest x

pub record Within (r : Range) (x : ℤ) : Type 0 where
  pub least-le : r.least ≤ℤ x
  pub le-greatest : x ≤ℤ r.greatest

-- a number is zero if it is in the range from zero to zero
unfoldable pub is_zero : ℤ → Bool
is_zero x = not (outside (range (pos 0) (pos 0)) x)
