-- The loop's invariant: the zones before z with export left are reached.
use Rattle.flow_search.specs.Steps.Labelling.{Seeded}
use Rattle.flow_search.proofs.Exchanges.seed_zones.Given as goal

abbrev pub invariant-loop-z : goal.invariant-loop-z
invariant-loop-z l = Seeded l.self.net_exports.now l.s l.labels l.z
