-- The loop's invariant: after z turns the first z numbers of the list are those of the zones.
use Rattle.report_file.specs.Meaning.Prices.{grains_at}
use Rattle.flow_hour.specs.Steps.Lent.{Lists}
use Rattle.flow_hour.proofs.listed.Given as goal

abbrev pub invariant-loop-z : goal.invariant-loop-z
invariant-loop-z l = Lists (λ k. grains_at l.fn.prices k) l.z l.list
