-- `case_header::Counts::order_start` meets its contract: counts within their limits give small offsets.
-- Assumes nothing.
use Rattle.std.proofs.Common.{arith, le_refl}
use Rattle.case_header.specs.Steps.CaseReadable.{branches-bound, links-bound}
use Rattle.case_header.proofs.Counts.order_start.Goals as goal

pub overflow_add-result : goal.overflow_add-result
overflow_add-result c =
    let k = c.args.self in
    let r = c.requires.counts_in_range in
    omega (arith, branches-bound k r k.branches (le_refl k.branches), links-bound k r k.links (le_refl k.links))
