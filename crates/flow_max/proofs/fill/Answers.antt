-- `flow_max::fill` meets its contract: a path brings more, and never more than all exports. Assumes nothing.
use Rattle.std.proofs.Common.{◌≤◌, length, arith}
use Rattle.flow_scratch.specs.Steps.Scratch.{rest-trans}
use Rattle.flow_augment.specs.Meaning.Path.{trail_of, Augment}
use Rattle.flow_max.specs.Steps.Filled.{total-le, exports-few, augment-of}
use Rattle.flow_max.proofs.fill.Goals as goal
use Rattle.flow_max.proofs.fill.Goals.{After-min-d}

pub import_left-left-requires-clause-z_in_bounds : goal.import_left-left-requires-clause-z_in_bounds
import_left-left-requires-clause-z_in_bounds c = (c.search-labels.ensures.found c.in-Some.t c.in-Some.is).inside

-- what is brought
bringing : (c : After-min-d) → Augment c.args.exchanges.now.net_exports.now c.args.exchanges.now.prices.now c.loop-t.total c.args.exchanges.now.pairs.now c.loop-t.s (trail_of c.search-labels.result) c.min-d.result c.in-Some.t
bringing c =
    let f = c.search-labels.ensures.found c.in-Some.t c.in-Some.is in
    let room : 96 ≤ length c.loop-t.s = omega (arith, c.loop-t.invariant.1.len, c.requires.in_bounds) in
    augment-of _ _ _ c.args.exchanges.now.in_range c.loop-t.s c.loop-t.total room c.loop-t.invariant.0 c.search-labels.result c.search-labels.ensures c.in-Some.t c.in-Some.is c.min-d.result
    (omega (arith, c.min-d.ensures, c.import_left-left.ensures, f.left, f.reached)) (omega (arith, c.min-d.ensures)) (omega (arith, c.min-d.ensures, c.import_left-left.ensures))

pub augment-requires : goal.augment-requires
augment-requires c = record {
  net_exports = c.args.exchanges.now.net_exports.now;
  prices = c.args.exchanges.now.prices.now;
  total = c.loop-t.total;
  augment = bringing (goal.at.augment-requires c).After-min-d;
}

pub overflow_add-total : goal.overflow_add-total
overflow_add-total c =
    let next = c.augment.ensures.state _ _ c.loop-t.total (bringing (goal.at.overflow_add-total c).After-min-d) in
    omega (arith, total-le _ _ _ next, exports-few _ _ _ c.args.exchanges.now.in_range)

pub loop-t-smaller : goal.loop-t-smaller
loop-t-smaller c =
    let b = bringing (goal.at.loop-t-smaller c).After-min-d in
    omega (arith, total-le _ _ _ (c.augment.ensures.state _ _ c.loop-t.total b), b.some)

pub loop-t-preserved : goal.loop-t-preserved
loop-t-preserved c =
    let b = bringing (goal.at.loop-t-preserved c).After-min-d in
    (c.augment.ensures.state _ _ c.loop-t.total b, rest-trans c.loop-t.invariant.1 c.augment.ensures.rest)
