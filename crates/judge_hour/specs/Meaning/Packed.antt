-- A verdict as the entries return it: the number in the lowest eight bits, the index above them.
use Rattle.std.specs.Prelude.{ℕ, ◌+◌, ◌*◌}
use Rattle.base_causes.specs.declared.Outcome.{Outcome}

abbrev pub packed : Outcome → ℕ
packed o = o.number + 256 * o.index
