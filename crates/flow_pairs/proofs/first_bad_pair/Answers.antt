-- `flow_pairs::first_bad_pair` meets its contract: a search for the first place; a pair that passes has zones below
-- 16. Assumes nothing.
use Rattle.std.proofs.Common.{sym, refl, arith}
use Rattle.base_causes.specs.Meaning.Causes.{first_below}
use Rattle.base_causes.proofs.Promised.CauseLaws.{first-here, first-later}
use Rattle.base_zone_set.specs.Steps.Pairs.{seen_none}
use Rattle.flow_pairs.specs.Meaning.Pairs.{first_zone, second_zone}
use Rattle.flow_pairs.proofs.Steps.Tests.{good}
use Rattle.flow_pairs.proofs.first_bad_pair.Goals as goal

pub loop-k-init : goal.loop-k-init
unfolding first_below
loop-k-init c = (refl, seen_none (first_zone c.args.pairs.now) (second_zone c.args.pairs.now))

pub returns-then-bad_pair : goal.returns-then-bad_pair
returns-then-bad_pair c = sym (first-here _ c.loop-k.k (omega arith) c.loop-k.invariant.0 (sym c.if-bad_pair.ensures))

pub see_pair-requires-clause-pair_valid : goal.see_pair-requires-clause-pair_valid
see_pair-requires-clause-pair_valid c =
    let g = good c.args.zones c.args.pairs.now c.loop-k.k (sym c.if-bad_pair.ensures) in
    record { few = g.few; first-in = omega (arith, g.first-in, c.requires); second-in = omega (arith, g.second-in, c.requires); new = g.new }

pub loop-k-preserved : goal.loop-k-preserved
loop-k-preserved c = (first-later _ c.loop-k.k c.loop-k.invariant.0 (sym c.if-bad_pair.ensures), c.see_pair.ensures)
