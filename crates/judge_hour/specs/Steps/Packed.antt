-- A packed verdict says number and index, and is 0 only for the number 0. Assumes nothing.
use Rattle.std.specs.Prelude.{◌≡◌, ℕ, ◌/◌, ◌%◌, ◌<◌}
use Rattle.std.proofs.Common.{ap, ◌∙◌, arith}
use Rattle.base_causes.specs.declared.Outcome.{Outcome}
use Rattle.judge_hour.specs.Meaning.Packed.{packed}

-- the packed number n of a verdict r that is the table's outcome o
module _ (n : ℕ) {r o : Outcome} (e : n ≡ packed r) (is : r ≡ o) where
  pub packed-is : n ≡ packed o
  packed-is = e ∙ ap packed is

  pub packed-number : o.number < 256 → n % 256 ≡ o.number
  packed-number h = omega (arith, packed-is)

  pub packed-index : o.number < 256 → n / 256 ≡ o.index
  packed-index h = omega (arith, packed-is)

  pub packed_zero : n ≡ 0 → r.number ≡ 0
  packed_zero z = omega (arith, e, z)
