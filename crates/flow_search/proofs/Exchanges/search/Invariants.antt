-- The outer loop's invariant: the zones before h in the queue are done, and no reached zone has import left. Its
-- measure is the zones left to go on from. The inner loop's: from the zone at h the arcs to the zones before w are
-- done too.
use Rattle.std.proofs.Common.{◌-◌}
use Rattle.flow_search.specs.Steps.SearchAnswer.{Progress, Partway}
use Rattle.flow_search.proofs.Exchanges.search.Given as goal

abbrev pub invariant-loop-h : goal.invariant-loop-h
invariant-loop-h l = Progress l.self.net_exports.now l.self.prices.now l.self.pairs.now l.s l.labels l.h

abbrev pub decreases-loop-h : goal.decreases-loop-h
decreases-loop-h l = 16 - l.h

abbrev pub invariant-loop-w : goal.invariant-loop-w
invariant-loop-w l = Partway l.self.net_exports.now l.self.prices.now l.self.pairs.now l.s l.labels l.h l.u l.w
