-- `flow_augment::augment` meets its contract: the import used, the walk back, the export used. Assumes nothing.
use Rattle.std.proofs.Common.{◌≡◌, List, ℕ, ◌+◌, ◌≤◌, ◌<◌, arith}
use Rattle.std.specs.Prelude.{ℤ, pos}
use Rattle.flow_scratch.specs.Meaning.Places.{amount_at}
use Rattle.flow_scratch.specs.Steps.Scratch.{rest-to, rest-trans}
use Rattle.flow_augment.specs.Meaning.Path.{Augment, trail_of}
use Rattle.flow_augment.specs.Steps.Path.{PathBack, path-start-at, path-end-at, root-left}
use Rattle.flow_augment.proofs.augment.Goals as goal
use Rattle.flow_augment.proofs.augment.Goals.{After-store, After-walk_back-z}

-- the path where the walk begins
opened : (c : After-store) (net_exports prices : List ℤ) (total : ℕ) → Augment net_exports prices total c.args.pairs.now c.args.s.now (trail_of c.args.labels) c.args.d c.args.t
    → PathBack net_exports prices total c.args.pairs.now c.store.new.s (trail_of c.args.labels) c.args.d c.args.t
opened c net_exports prices total p =
    path-start-at net_exports prices total _ c.args.s.now _ _ _ c.amount-import_used.result c.store.new.s c.amount-import_used.ensures c.store.ensures p

pub walk_back-z-requires : goal.walk_back-z-requires
walk_back-z-requires c =
    let p = c.requires in
    record {
      net_exports = p.net_exports;
      prices = p.prices;
      total = p.total;
      path = opened (goal.at.walk_back-z-requires c).After-store p.net_exports p.prices p.total p.augment;
    }

-- and where it ends
walked : (c : After-walk_back-z) (net_exports prices : List ℤ) (total : ℕ) → Augment net_exports prices total c.args.pairs.now c.args.s.now (trail_of c.args.labels) c.args.d c.args.t
    → PathBack net_exports prices total c.args.pairs.now c.walk_back-z.new.s (trail_of c.args.labels) c.args.d c.walk_back-z.result
walked c net_exports prices total p =
    c.walk_back-z.ensures.path net_exports prices total
    (path-start-at net_exports prices total _ c.args.s.now _ _ _ c.amount-import_used.result c.store.new.s c.amount-import_used.ensures c.store.ensures p)

at : (c : After-walk_back-z) → PathBack c.requires.net_exports c.requires.prices c.requires.total c.args.pairs.now c.walk_back-z.new.s (trail_of c.args.labels) c.args.d c.walk_back-z.result
at c = walked c c.requires.net_exports c.requires.prices c.requires.total c.requires.augment

low : (c : After-walk_back-z) → c.walk_back-z.result < 16
low c = omega (arith, (at c).inside, (at c).sized.zones)

pub overflow_add-z : goal.overflow_add-z
overflow_add-z c = omega (arith, low (goal.at.overflow_add-z c).After-walk_back-z)

pub amount-export_used-requires : goal.amount-export_used-requires
amount-export_used-requires c =
    let w = (goal.at.amount-export_used-requires c).After-walk_back-z in
    omega (arith, low w, (at w).room)

pub overflow_add-z-2 : goal.overflow_add-z-2
overflow_add-z-2 c = omega (arith, low (goal.at.overflow_add-z-2 c).After-walk_back-z)

export-used-fits : (c : After-walk_back-z) (used : ℕ) → used ≡ amount_at c.walk_back-z.new.s (64 + c.walk_back-z.result) → used + c.args.d ≤ 51200000
export-used-fits c used e =
    omega (arith, e, root-left _ _ _ _ _ _ _ _ (at c) c.walk_back-z.ensures.root, (at c).sized.exports-le c.walk_back-z.result (at c).inside)

pub overflow_add-export_used : goal.overflow_add-export_used
overflow_add-export_used c =
    omega (arith, export-used-fits (goal.at.overflow_add-export_used c).After-walk_back-z c.amount-export_used.result c.amount-export_used.ensures)

pub store-requires-2-clause-k_in_bounds : goal.store-requires-2-clause-k_in_bounds
store-requires-2-clause-k_in_bounds c =
    let w = (goal.at.store-requires-2-clause-k_in_bounds c).After-walk_back-z in
    omega (arith, low w, (at w).room)

pub store-requires-2-clause-v_bound : goal.store-requires-2-clause-v_bound
store-requires-2-clause-v_bound c =
    omega (arith, export-used-fits (goal.at.store-requires-2-clause-v_bound c).After-walk_back-z c.amount-export_used.result c.amount-export_used.ensures)

pub returns : goal.returns
returns c =
    let w = (goal.at.returns c).After-walk_back-z in
    let a = c.amount-export_used in
    let p = c.requires.augment in
    record {
      state = λ net_exports prices total h. path-end-at net_exports prices total _ c.walk_back-z.new.s _ _ _ a.result c.store-2.new.s a.ensures c.store-2.ensures (walked w net_exports prices total h) c.walk_back-z.ensures.root;
      rest =
          rest-trans
          (rest-trans (rest-to _ _ (80 + c.args.t) (pos (c.amount-import_used.result + c.args.d)) (omega (arith, p.inside, p.sized.zones)) c.store.ensures) c.walk_back-z.ensures.rest)
          (rest-to _ _ (64 + c.walk_back-z.result) (pos (a.result + c.args.d)) (omega (arith, low w)) c.store-2.ensures);
    }
