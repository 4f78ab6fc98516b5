-- `short_hour::put_branches` meets its contract: no pair yet, and the pair of one branch more. Assumes nothing.
use Rattle.std.proofs.Common.{List, ℤ, ◌+◌, ◌*◌, ◌<◌, refl, ap, ◌∙◌, arith}
use Rattle.std.proofs.lemmas.List.Edits.{sets}
use Rattle.rules.specs.Meaning.Hour.{gap}
use Rattle.short_single.specs.Meaning.OfHour.{branch_of, hour_of, cleared_of, rates_of}
use Rattle.short_rules.specs.Meaning.Answer.{pairs_to}
use Rattle.proposal_file.specs.Steps.Read.{branches-is}
use Rattle.short_hour.specs.Steps.Pairs.{numbers_in, writable, run_more}
use Rattle.short_hour.specs.Steps.Kept.{few}
use Rattle.short_hour.proofs.put_branches.Goals as goal

pub loop-m-init : goal.loop-m-init
unfolding pairs_to
loop-m-init c = refl

pub offset_bounds-table-m : goal.offset_bounds-table-m
offset_bounds-table-m c = omega (arith, few c.args.hour.now.accepted)

pub bounds-table-m : goal.bounds-table-m
bounds-table-m c = omega (arith, few c.args.hour.now.accepted)

pub put-requires-clause-n_bound : goal.put-requires-clause-n_bound
put-requires-clause-n_bound c = omega (arith, few c.args.hour.now.accepted)

pub put-requires-clause-writable : goal.put-requires-clause-writable
put-requires-clause-writable c =
    let h = c.args.hour.now in
    let j = h.accepted in
    let inside : c.loop-m.m < (hour_of h).branches = omega (arith, branches-is j.read) in
    writable {x = branch_of h c.loop-m.m} (gap (hour_of h) (cleared_of h) (rates_of h)) c.branch_shortfall.ensures (j.accounted.branch-within c.loop-m.m inside) j.gap-small

pub loop-m-preserved : goal.loop-m-preserved
loop-m-preserved c =
    let h = c.args.hour.now in
    let l = c.loop-m in
    let k = h.hour.«case».counts in
    c.put.ensures
    ∙ ap (λ (x : List ℤ). sets x (2 * (k.orders + l.m)) (numbers_in c.branch_shortfall.result)) l.invariant
    ∙ run_more c.args.out.now (2 * k.orders) l.m (k.orders + l.m) (branch_of h) (omega arith) c.branch_shortfall.ensures
