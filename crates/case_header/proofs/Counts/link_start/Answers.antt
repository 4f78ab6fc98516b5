-- `case_header::Counts::link_start` meets its contract: counts within their limits give small offsets.
-- Assumes nothing.
use Rattle.std.proofs.Common.{ℕ, ◌*◌, ◌≤◌, ap, arith, le_refl}
use Rattle.case_header.specs.Steps.CaseReadable.{branches-bound, links-bound}
use Rattle.case_header.proofs.Counts.link_start.Goals as goal
use Rattle.case_header.proofs.Counts.link_start.Goals.{After-link_size}

links : (c : After-link_size) → c.args.l * c.link_size.result ≤ 640
links c = omega (arith, ap (λ (n : ℕ). c.args.l * n) c.link_size.ensures, links-bound c.args.self c.requires.counts_in_range c.args.l c.requires.l_le_links)

pub overflow_mul-result : goal.overflow_mul-result
overflow_mul-result c = omega (arith, links (goal.at.overflow_mul-result c).After-link_size)

pub overflow_add-result : goal.overflow_add-result
overflow_add-result c =
    let k = c.args.self in
    omega (arith, links (goal.at.overflow_add-result c).After-link_size, branches-bound k c.requires.counts_in_range k.branches (le_refl k.branches))
