-- `flow_search::Exchanges::seed_zones` meets its contract: a zone with export left is labelled, another is passed.
-- Assumes nothing.
use Rattle.std.proofs.Common.{◌<◌, ◌∙◌, arith}
use Rattle.flow_search.specs.Steps.Labelling.{seeded-none, seeded-zone, seeded-not}
use Rattle.flow_search.proofs.Exchanges.seed_zones.Goals as goal
use Rattle.flow_search.proofs.Exchanges.seed_zones.Goals.{then-amount-gt0, else-amount-gt0}

pub loop-z-init : goal.loop-z-init
loop-z-init c = seeded-none c.args.self.now.net_exports.now c.args.s.now

pub loop-z-preserved : goal.loop-z-preserved
loop-z-preserved c =
    let z16 : c.loop-z.z < 16 = omega (arith, c.args.self.now.in_range.zones) in
    elim c.if-amount-gt0.branch [
      | then-amount-gt0 w ↦ rw (w.labels-is ∙ w.reach.ensures) (seeded-zone _ _ c.loop-z.labels c.loop-z.z c.export_left-amount.result c.loop-z.invariant z16 c.export_left-amount.ensures w.if-amount-gt0.true)
      | else-amount-gt0 w ↦ rw w.labels-is (seeded-not _ _ c.loop-z.labels c.loop-z.z c.export_left-amount.result c.loop-z.invariant z16 c.export_left-amount.ensures w.if-amount-gt0.false)
    ]
