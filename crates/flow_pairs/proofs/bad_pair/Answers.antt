-- `flow_pairs::bad_pair` meets its contract: a pair that no other cause refuses is asked for among those seen. The
-- earlier tests are each a cause of the row's. Assumes nothing.
use Rattle.std.proofs.Common.{ℕ, ◌<◌, length, sym, ap, arith, ◌∙◌}
use Rattle.base_zone_set.specs.Meaning.Zones.{member}
use Rattle.flow_pairs.proofs.Steps.Tests.{read_below, left-repeated, seen-repeated}
use Rattle.flow_pairs.proofs.bad_pair.Goals as goal

pub returns : goal.returns
returns c =
    let z = c.zones_of-first in
    let s = c.args.seen.now in
    let f = z.result.0 in
    let low : f < length s = omega (arith, c.requires.seen.places, c.requires.zones_bound) in
    c.has.ensures ∙ ap (λ (n : ℕ). member n z.result.1) (read_below s f _ 0 low) ∙ seen-repeated c.args.pairs.now c.args.k _ _ c.requires.seen z.ensures.first z.ensures.second
    ∙ sym (left-repeated c.args.zones c.args.pairs.now c.args.k _ _ z.ensures.first z.ensures.second (omega arith) (omega arith) (omega arith) (λ e. omega arith))
