-- `short_hour::put_orders` meets its contract: no pair yet, and the pair of one order more. Assumes nothing.
use Rattle.std.proofs.Common.{List, ℤ, ◌*◌, ◌<◌, refl, ap, ◌∙◌, arith}
use Rattle.std.proofs.lemmas.List.Edits.{sets}
use Rattle.rules.specs.Meaning.Hour.{gap}
use Rattle.short_single.specs.Meaning.OfHour.{order_of, hour_of, cleared_of, rates_of}
use Rattle.short_rules.specs.Meaning.Answer.{pairs_to}
use Rattle.proposal_file.specs.Steps.Read.{orders-is}
use Rattle.short_hour.specs.Steps.Pairs.{numbers_in, writable, run_more}
use Rattle.short_hour.specs.Steps.Kept.{few}
use Rattle.short_hour.proofs.put_orders.Goals as goal

pub loop-i-init : goal.loop-i-init
unfolding pairs_to
loop-i-init c = refl

pub put-requires-clause-n_bound : goal.put-requires-clause-n_bound
put-requires-clause-n_bound c = omega (arith, few c.args.hour.now.accepted)

pub put-requires-clause-writable : goal.put-requires-clause-writable
put-requires-clause-writable c =
    let h = c.args.hour.now in
    let j = h.accepted in
    let inside : c.loop-i.i < (hour_of h).orders = omega (arith, orders-is j.read) in
    writable {x = order_of h c.loop-i.i} (gap (hour_of h) (cleared_of h) (rates_of h)) c.order_shortfall.ensures (j.accounted.order-within c.loop-i.i inside) j.gap-small

pub loop-i-preserved : goal.loop-i-preserved
loop-i-preserved c =
    let h = c.args.hour.now in
    let l = c.loop-i in
    c.put.ensures
    ∙ ap (λ (x : List ℤ). sets x (2 * l.i) (numbers_in c.order_shortfall.result)) l.invariant
    ∙ run_more c.args.out.now 0 l.i l.i (order_of h) (omega arith) c.order_shortfall.ensures
