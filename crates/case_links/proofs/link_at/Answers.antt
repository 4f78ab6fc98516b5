-- `case_links::link_at` meets its contract: link l stands within the file. Assumes nothing.
use Rattle.std.proofs.Common.{◌≡◌, ℕ, ◌+◌, ◌≤◌, length, sym, ap, subst, ◌∙◌, arith}
use Rattle.std.specs.Prelude.{ℤ, pos}
use Rattle.base_integers.specs.Meaning.Ranges.{Within}
use Rattle.base_limits.specs.Meaning.Limits as limits
use Rattle.rules.specs.Meaning.Layout.{u8_at, u32_at, from_in, to_in, capacity_in}
use Rattle.case_header.specs.Steps.CaseReadable.{headed, whole, limited, link-start-is, link-inside}
use Rattle.case_links.specs.Steps.Link.{capacity-within}
use Rattle.case_links.proofs.link_at.Goals as goal
use Rattle.case_links.proofs.link_at.Goals.{After-link_start-at, After-from}

pub link_start-at-requires-clause-counts_in_range : goal.link_start-at-requires-clause-counts_in_range
link_start-at-requires-clause-counts_in_range c = limited (headed c.args.«case».readable)

inside : (c : After-link_start-at) → c.link_start-at.result + 6 ≤ length c.args.«case».bytes.now
inside c = omega (arith, c.link_start-at.ensures, link-inside (whole c.args.«case».readable) c.args.l c.requires)

pub read-requires : goal.read-requires
read-requires c = omega (arith, inside (goal.at.read-requires c).After-link_start-at)

pub overflow_add-at : goal.overflow_add-at
overflow_add-at c = omega (arith, inside (goal.at.overflow_add-at c).After-link_start-at)

pub read-requires-2 : goal.read-requires-2
read-requires-2 c = omega (arith, inside (goal.at.read-requires-2 c).After-link_start-at)

pub overflow_add-at-2 : goal.overflow_add-at-2
overflow_add-at-2 c = omega (arith, inside (goal.at.overflow_add-at-2 c).After-link_start-at)

pub read-requires-3 : goal.read-requires-3
read-requires-3 c = omega (arith, inside (goal.at.read-requires-3 c).After-link_start-at)

capacity-is : (c : After-from) → c.from.result.0 ≡ pos (capacity_in c.args.«case».bytes.now c.args.l)
unfolding capacity_in
capacity-is c =
    let s = c.args.«case».bytes.now in
    let place = c.link_start-at.ensures ∙ link-start-is (headed c.args.«case».readable) c.args.l in
    c.from.ensures ∙ ap pos (c.read-3.ensures ∙ ap (λ (n : ℕ). u32_at s (n + 2)) place)

-- row 7 passed
pub of_capacity-capacity-requires : goal.of_capacity-capacity-requires
of_capacity-capacity-requires c =
    subst (λ (x : ℤ). Within limits.capacity x) (sym (capacity-is (goal.at.of_capacity-capacity-requires c).After-from)) (capacity-within c.args.«case».readable c.args.l c.requires)

pub returns : goal.returns
unfolding from_in to_in
returns c =
    let s = c.args.«case».bytes.now in
    let place = c.link_start-at.ensures ∙ link-start-is (headed c.args.«case».readable) c.args.l in
    let from = c.from-from.ensures ∙ c.read.ensures ∙ ap (u8_at s) place in
    let to = c.from-to.ensures ∙ c.read-2.ensures ∙ ap (λ (n : ℕ). u8_at s (n + 1)) place in
    let tenths = c.of_capacity-capacity.ensures ∙ (λ j. record { 0 = capacity-is (goal.at.returns c).After-from j }) in
    λ j. record { from = from j; to = to j; capacity = tenths j }
