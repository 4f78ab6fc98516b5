-- `flow_augment::walk_back` meets its contract: each step takes the path to the pair's other zone. Assumes nothing.
use Rattle.std.proofs.Common.{List, ℕ, ◌<◌, arith, subst}
use Rattle.std.specs.Prelude.{ℤ}
use Rattle.flow_scratch.specs.Steps.Scratch.{Rest, rest-trans}
use Rattle.flow_augment.specs.Meaning.Path.{trail_of}
use Rattle.flow_augment.specs.Steps.Path.{Shifted, PathBack, step-safe, path-step}
use Rattle.flow_augment.proofs.walk_back.Goals as goal
use Rattle.flow_augment.proofs.walk_back.Goals.{At-loop-z, After-shift-z}

-- the path where the loop is
at : (c : At-loop-z) → PathBack c.requires.net_exports c.requires.prices c.requires.total c.args.pairs.now c.loop-z.s (trail_of c.args.labels) c.args.d c.loop-z.z
at c = c.loop-z.invariant.0 c.requires.net_exports c.requires.prices c.requires.total c.requires.path

pub bounds-labels-z : goal.bounds-labels-z
bounds-labels-z c = let p = at (goal.at.bounds-labels-z c).At-loop-z in omega (arith, p.inside, p.sized.zones)

pub shift-z-requires-clause-k_in_bounds : goal.shift-z-requires-clause-k_in_bounds
shift-z-requires-clause-k_in_bounds c =
    let p = at (goal.at.shift-z-requires-clause-k_in_bounds c).At-loop-z in
    let w = step-safe _ _ _ _ _ _ _ _ p c.loop-z-test.true in
    (omega (arith, c.from-k.ensures, w.0, p.sized.even), omega (arith, c.from-k.ensures, w.0, p.sized.pairs))

pub shift-z-requires-clause-d_bound : goal.shift-z-requires-clause-d_bound
shift-z-requires-clause-d_bound c =
    rw c.from-k.ensures (step-safe _ _ _ _ _ _ _ _ (at (goal.at.shift-z-requires-clause-d_bound c).At-loop-z) c.loop-z-test.true).1.0

pub shift-z-requires-clause-d_bound_2 : goal.shift-z-requires-clause-d_bound_2
shift-z-requires-clause-d_bound_2 c =
    rw c.from-k.ensures (step-safe _ _ _ _ _ _ _ _ (at (goal.at.shift-z-requires-clause-d_bound_2 c).At-loop-z) c.loop-z-test.true).1.1

-- the step taken
stepped : (c : After-shift-z) (net_exports prices : List ℤ) (total : ℕ) → PathBack net_exports prices total c.args.pairs.now c.loop-z.s (trail_of c.args.labels) c.args.d c.loop-z.z
    → PathBack net_exports prices total c.args.pairs.now c.shift-z.new.s (trail_of c.args.labels) c.args.d c.shift-z.result
    × (((trail_of c.args.labels).dep c.shift-z.result < (trail_of c.args.labels).dep c.loop-z.z) × Rest c.loop-z.s c.shift-z.new.s)
stepped c net_exports prices total p =
    let taken = subst (λ (k : ℕ). Shifted c.args.pairs.now c.loop-z.s c.shift-z.new.s k c.loop-z.z c.args.d c.shift-z.result) c.from-k.ensures c.shift-z.ensures in
    path-step net_exports prices total _ _ _ _ _ p c.loop-z-test.true c.shift-z.new.s c.shift-z.result taken

pub loop-z-smaller : goal.loop-z-smaller
loop-z-smaller c =
    let g = goal.at.loop-z-smaller c in
    (stepped g.After-shift-z c.requires.net_exports c.requires.prices c.requires.total (at g.At-loop-z)).1.0

pub loop-z-preserved : goal.loop-z-preserved
loop-z-preserved c =
    let g = goal.at.loop-z-preserved c in
    let s = stepped g.After-shift-z c.requires.net_exports c.requires.prices c.requires.total (at g.At-loop-z) in
    (λ net_exports prices total w. (stepped g.After-shift-z net_exports prices total (c.loop-z.invariant.0 net_exports prices total w)).0, rest-trans c.loop-z.invariant.1 s.1.1)
