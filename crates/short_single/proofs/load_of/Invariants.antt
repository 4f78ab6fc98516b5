-- `short_single::load_of`: after z turns the load is that of the first z zones.
use Rattle.std.proofs.Common.{◌≡◌}
use Rattle.base_integers.specs.Meaning.Sums.{sum_to}
use Rattle.short_single.specs.Steps.HourAccepted.{load_on}
use Rattle.short_single.proofs.load_of.Given as goal

abbrev pub invariant-loop-z : goal.invariant-loop-z
invariant-loop-z l = l.load.0 ≡ sum_to l.z (load_on l.row l.fn.parts)
