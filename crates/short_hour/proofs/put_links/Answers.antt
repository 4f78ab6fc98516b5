-- `short_hour::put_links` meets its contract: no pair yet, and the pair of one link more. Assumes nothing.
use Rattle.std.proofs.Common.{List, ℤ, ◌+◌, ◌*◌, ◌<◌, refl, ap, ◌∙◌, arith}
use Rattle.std.proofs.lemmas.List.Edits.{sets}
use Rattle.rules.specs.Meaning.Hour.{gap}
use Rattle.short_single.specs.Meaning.OfHour.{link_of, hour_of, cleared_of, rates_of}
use Rattle.short_rules.specs.Meaning.Answer.{pairs_to}
use Rattle.proposal_file.specs.Steps.Read.{links-is}
use Rattle.short_hour.specs.Steps.Pairs.{numbers_in, writable, run_more}
use Rattle.short_hour.specs.Steps.Kept.{few}
use Rattle.short_hour.proofs.put_links.Goals as goal

pub loop-l-init : goal.loop-l-init
unfolding pairs_to
loop-l-init c = refl

pub put-requires-clause-n_bound : goal.put-requires-clause-n_bound
put-requires-clause-n_bound c = omega (arith, few c.args.hour.now.accepted)

pub put-requires-clause-writable : goal.put-requires-clause-writable
put-requires-clause-writable c =
    let h = c.args.hour.now in
    let j = h.accepted in
    let inside : c.loop-l.l < (hour_of h).links = omega (arith, links-is j.read) in
    writable {x = link_of h c.loop-l.l} (gap (hour_of h) (cleared_of h) (rates_of h)) c.link_shortfall.ensures (j.accounted.link-within c.loop-l.l inside) j.gap-small

pub loop-l-preserved : goal.loop-l-preserved
loop-l-preserved c =
    let h = c.args.hour.now in
    let l = c.loop-l in
    let k = h.hour.«case».counts in
    c.put.ensures
    ∙ ap (λ (x : List ℤ). sets x (2 * (k.orders + k.branches + l.l)) (numbers_in c.link_shortfall.result)) l.invariant
    ∙ run_more c.args.out.now (2 * (k.orders + k.branches)) l.l (k.orders + k.branches + l.l) (link_of h) (omega arith) c.link_shortfall.ensures
