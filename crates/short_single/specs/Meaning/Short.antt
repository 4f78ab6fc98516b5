-- Money to hundred-thousandths of a microcent, held in two numbers.
use Rattle.std.specs.Prelude.{◌≡◌, ◌<◌, ℤ, pos}
use Rattle.base_limits.specs.Meaning.Limits.{parts_in_one}
use Rattle.base_limits.specs.Meaning.Exact.{exactly}
use Rattle.base_measures.specs.declared.ExactMicrocents.{ExactMicrocents}

-- money that is x
pub record Exact (x : ℤ) (r : ExactMicrocents) : Type 0 where
  pub value : pos (exactly r.whole r.parts) ≡ x
  pub parts_in : r.parts < parts_in_one
