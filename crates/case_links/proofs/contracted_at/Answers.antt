-- `case_links::contracted_at` meets its contract: link l is within the file, with its contracted volume where the
-- version has one. Assumes nothing.
use Rattle.std.proofs.Common.{◌≡◌, ℕ, List, Bool, cond, ◌+◌, ◌≤◌, length, sym, ap, subst, ◌∙◌, arith}
use Rattle.std.specs.Prelude.{ℤ, pos}
use Rattle.base_integers.specs.Meaning.Ranges.{Within}
use Rattle.base_limits.specs.Meaning.Limits as limits
use Rattle.base_measures.specs.declared.Tenths.{Tenths}
use Rattle.rules.specs.Meaning.Layout.{u32_at, case_version, contracts, contracted_size, link_at, capacity_in, contracted_in}
use Rattle.case_header.specs.declared.Counts.{Counts}
use Rattle.case_header.specs.Meaning.CaseReadable.{CaseReadable}
use Rattle.case_header.specs.Steps.CaseReadable.{headed, whole, limited, link-start-is, link-inside}
use Rattle.case_links.specs.Steps.Link.{contracted-within}
use Rattle.case_links.proofs.contracted_at.Goals as goal
use Rattle.case_links.proofs.contracted_at.Goals.{After-link_start-at, After-from}

-- by the version that the counts have
version : {s : List ℕ} {k : Counts} {b : Bool} → CaseReadable s k → b ≡ contracts k.version → contracts (case_version s) ≡ b
version o e = sym (e ∙ ap (λ (k : Counts). contracts k.version) o.counts)

pub link_start-at-requires-clause-counts_in_range : goal.link_start-at-requires-clause-counts_in_range
link_start-at-requires-clause-counts_in_range c = limited (headed c.args.«case».readable)

four : (c : After-link_start-at) → contracted_size c.args.«case».counts.version ≡ 4
unfolding contracted_size
four c = ap (λ (b : Bool). cond b 4 0) (sym c.contracts.ensures ∙ c.if-contracts.true)

inside : (c : After-link_start-at) → c.link_start-at.result + 6 + 4 ≤ length c.args.«case».bytes.now
inside c = omega (arith, four c, c.link_start-at.ensures, link-inside (whole c.args.«case».readable) c.args.l c.requires.l_lt_links)

pub overflow_add-at : goal.overflow_add-at
overflow_add-at c = omega (arith, inside (goal.at.overflow_add-at c).After-link_start-at)

pub read-requires : goal.read-requires
read-requires c = omega (arith, inside (goal.at.read-requires c).After-link_start-at)

contracted-is : (c : After-from) → c.from.result.0 ≡ pos (contracted_in c.args.«case».bytes.now c.args.l)
unfolding contracted_in
contracted-is c =
    let s = c.args.«case».bytes.now in
    let i = c.args.l in
    let place = c.link_start-at.ensures ∙ link-start-is (headed c.args.«case».readable) i in
    c.from.ensures
    ∙ ap pos (c.read.ensures ∙ ap (λ (n : ℕ). u32_at s (n + 6)) place ∙ ap (λ (b : Bool). cond b (u32_at s (link_at s i + 6)) (capacity_in s i)) (sym (version c.args.«case».readable c.contracts.ensures ∙ c.if-contracts.true)))

-- row 7 passed: it is at most the capacity
pub of_capacity-requires : goal.of_capacity-requires
of_capacity-requires c = subst (λ (x : ℤ). Within limits.capacity x) (sym (contracted-is (goal.at.of_capacity-requires c).After-from)) (contracted-within c.args.«case».readable c.args.l c.requires.l_lt_links)

pub returns-then-contracts : goal.returns-then-contracts
returns-then-contracts c = ap (λ (t : Tenths). t.0) c.of_capacity.ensures ∙ contracted-is (goal.at.returns-then-contracts c).After-from

pub returns : goal.returns
unfolding contracted_in
returns c =
    let s = c.args.«case».bytes.now in
    let i = c.args.l in
    c.requires.capacity_value ∙ ap pos (ap (λ (b : Bool). cond b (u32_at s (link_at s i + 6)) (capacity_in s i)) (sym (version c.args.«case».readable c.contracts.ensures ∙ c.if-contracts.false)))
