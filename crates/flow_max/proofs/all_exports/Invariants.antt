-- The loop's invariant: the sum is over the exports before z.
use Rattle.std.proofs.Common.{◌≡◌, get_or}
use Rattle.std.specs.Prelude.{pos}
use Rattle.base_integers.specs.Meaning.Difference.{up}
use Rattle.base_integers.specs.Meaning.NaturalSums.{sum_nat}
use Rattle.flow_max.proofs.all_exports.Given as goal

abbrev pub invariant-loop-z : goal.invariant-loop-z
invariant-loop-z l = l.sum ≡ sum_nat l.z (λ y. up (get_or l.net_exports y (pos 0)))
