-- The bits of a value, as the refusals and the output in plain bytes name them. Assumes nothing.
use Rattle.std.specs.Prelude.{List, ℕ, ◌+◌, ◌*◌, ◌^◌, get_or}
use Rattle.base_integers.specs.Meaning.NaturalSums.{sum_nat}

abbrev pub bits : List ℕ → ℕ → ℕ
bits d n = sum_nat 8 (λ i. get_or d (8 * n + i) 0 * 256 ^ i)
