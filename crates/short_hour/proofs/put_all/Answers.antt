-- `short_hour::put_all` meets its contract: three runs of pairs, one after the other. Assumes nothing.
use Rattle.std.proofs.Common.{◌++◌, ◌+◌, ◌*◌, ◌∙◌}
use Rattle.std.proofs.lemmas.List.Edits.{sets}
use Rattle.short_single.specs.Meaning.OfHour.{order_of, branch_of, link_of}
use Rattle.short_rules.specs.Meaning.Answer.{pairs_to, shortfall_numbers}
use Rattle.proposal_file.specs.Steps.Read.{orders-is, branches-is, links-is}
use Rattle.short_hour.specs.Steps.Pairs.{three-runs}
use Rattle.short_hour.proofs.put_all.Goals as goal

pub returns : goal.returns
unfolding shortfall_numbers
returns c =
    let h = c.args.hour.now in
    let out = c.args.out.now in
    let k = h.hour.«case».counts in
    let j = h.accepted.read in
    c.put_links.ensures
    ∙ (λ i. sets ((c.put_branches.ensures ∙ (λ i. sets (c.put_orders.ensures i) (2 * k.orders) (pairs_to k.branches (branch_of h)))) i) (2 * (k.orders + k.branches)) (pairs_to k.links (link_of h)))
    ∙ three-runs out k.orders k.branches k.links (order_of h) (branch_of h) (link_of h)
    ∙ (λ i. sets out 0 (pairs_to (orders-is j i) (order_of h) ++ (pairs_to (branches-is j i) (branch_of h) ++ pairs_to (links-is j i) (link_of h))))
