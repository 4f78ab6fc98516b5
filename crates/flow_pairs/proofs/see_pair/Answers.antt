-- `flow_pairs::see_pair` meets its contract: the set of the first zone has the second zone too. Assumes nothing.
use Rattle.std.proofs.Common.{ℕ, ◌+◌, ◌<◌, ◌∙◌, length, sym, ap, subst, arith, set}
use Rattle.base_zone_set.specs.Meaning.Zones.{added}
use Rattle.base_zone_set.specs.Steps.Pairs.{Seen, seen_more}
use Rattle.flow_pairs.specs.Meaning.Pairs.{first_zone, second_zone}
use Rattle.flow_pairs.proofs.Steps.Tests.{read_below}
use Rattle.flow_pairs.proofs.see_pair.Goals as goal

pub returns : goal.returns
returns c =
    let b = c.args.pairs.now in
    let z = c.zones_of-first in
    let s = c.args.seen.now in
    let f : z.result.0 < 16 = omega (arith, z.ensures.first, c.requires.pair_valid.first-in) in
    let low : z.result.0 < length s = omega (arith, f, c.requires.seen.places) in
    subst (λ (n : ℕ). Seen (first_zone b) (second_zone b) (c.args.k + 1) (set s z.result.0 n))
    (sym (c.with.ensures ∙ ap (λ (n : ℕ). added n z.result.1) (read_below s z.result.0 _ 0 low)))
    (seen_more (first_zone b) (second_zone b) c.args.k c.requires.seen z.ensures.first z.ensures.second f (omega (arith, z.ensures.second, c.requires.pair_valid.second-in)))
