-- `flow_search::Exchanges::search` meets its contract: each turn of the inner loop takes one arc on from the zone at
-- h, or passes a zone. Assumes nothing.
use Rattle.std.proofs.Common.{◌∙◌, arith}
use Rattle.flow_search.specs.Steps.SearchAnswer.{progress-next, count_low, partway-passed, partway-reached, searched-sink, searched-none}
use Rattle.flow_search.proofs.Exchanges.search.Goals as goal
use Rattle.flow_search.proofs.Exchanges.search.Goals.{in-Some+else-import_left-gt0, in_default}

pub reach-requires : goal.reach-requires
reach-requires c =
    let i = c.args.self.now.in_range in
    (omega (arith, i.zones), count_low _ _ _ _ i c.loop-w.labels c.loop-h.h c.from-u.result c.loop-w.w c.loop-w.invariant c.loop-w-test.true c.in-Some.arc c.in-Some.ensures)

pub returns-then-import_left-gt0 : goal.returns-then-import_left-gt0
returns-then-import_left-gt0 c =
    rw c.reach.ensures (searched-sink _ _ _ _ c.args.self.now.in_range c.loop-w.labels c.loop-h.h c.from-u.result c.loop-w.w c.loop-w.invariant c.loop-w-test.true c.in-Some.arc c.in-Some.ensures (omega (arith, c.import_left.ensures)))

pub loop-w-preserved : goal.loop-w-preserved
loop-w-preserved c =
    let i = c.args.self.now.in_range in
    elim c.match-try_arc.branch [
      | in-Some+else-import_left-gt0 w ↦ rw (w.labels-is ∙ w.reach.ensures) (partway-reached _ _ _ _ i c.loop-w.labels c.loop-h.h c.from-u.result c.loop-w.w c.loop-w.invariant c.loop-w-test.true w.in-Some.arc w.in-Some.ensures (omega (arith, w.import_left.ensures)))
      | in_default w ↦ rw w.labels-is (partway-passed _ _ _ _ i c.loop-w.labels c.loop-h.h c.from-u.result c.loop-w.w c.loop-w.invariant w.in_default.ensures)
    ]

pub loop-h-preserved : goal.loop-h-preserved
loop-h-preserved c = progress-next _ _ _ _ c.args.self.now.in_range c.loop-w.labels c.loop-h.h c.from-u.result c.loop-w.w c.loop-w.invariant (omega arith)

pub returns : goal.returns
returns c = searched-none _ _ _ _ c.loop-h.labels c.loop-h.h c.args.self.now.in_range c.loop-h.invariant c.loop-h-test.false
