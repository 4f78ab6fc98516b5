-- The loop's invariant: after z turns the first z numbers of the list are those of the zones.
use Rattle.std.specs.Prelude.{pos, ◌-ℤ◌}
use Rattle.base_measures.specs.Meaning.TenthsHold.{tenths_at}
use Rattle.flow_hour.specs.Steps.Lent.{Lists}
use Rattle.flow_hour.proofs.turned.Given as goal

abbrev pub invariant-loop-z : goal.invariant-loop-z
invariant-loop-z l = Lists (λ k. pos 0 -ℤ tenths_at l.fn.nets k) l.z l.exports
