-- The orders that the row counts are those that were read; the search is over them.
use Rattle.std.proofs.Common.{◌≡◌, List, ℕ, Bool, refl, ap, sym, ◌∙◌, arith}
use Rattle.rules.specs.Meaning.Hour.{case_of, plan_of}
use Rattle.rules.specs.Meaning.Families.{parent_of}
use Rattle.rules.specs.Meaning.Verdict.{exceeds_parent}
use Rattle.base_causes.specs.Meaning.Causes.{first_below}
use Rattle.base_causes.proofs.Promised.CauseLaws.{first-here, first-later, first-nowhere}
use Rattle.case_header.specs.declared.Counts.{Counts}
use Rattle.proposal_file.specs.Meaning.ProposalValid.{ProposalValid}
use Rattle.family_fractions.proofs.first_over_parent.Goals as goal

orders-are : {s t : List ℕ} {k : Counts} {orders : ℕ} → ProposalValid s k t → orders ≡ k.orders → (f : ℕ → Bool) → first_below orders f ≡ first_below (case_of s).orders f
unfolding case_of
orders-are p e f = ap (λ (n : ℕ). first_below n f) (e ∙ ap (λ (k : Counts). k.orders) p.opened.counts)

abbrev above : List ℕ → List ℕ → List ℕ → ℕ → Bool
above s t f i = exceeds_parent (case_of s) (plan_of s t) i (parent_of f i)

pub loop-i-init : goal.loop-i-init
unfolding first_below
loop-i-init c = refl

pub returns-then-exceeds_parent : goal.returns-then-exceeds_parent
returns-then-exceeds_parent c =
    sym (first-here (above c.args.listed.filled.hour.case.bytes.now c.args.listed.filled.hour.proposal.now c.args.listed.families.list.now) c.loop-i.i c.loop-i-test.true c.loop-i.invariant (sym c.exceeds_parent.ensures ∙ c.if-exceeds_parent.true))
    ∙ orders-are c.args.listed.filled.hour.read.proposed c.args.listed.orders _

pub loop-i-preserved : goal.loop-i-preserved
loop-i-preserved c =
    first-later (above c.args.listed.filled.hour.case.bytes.now c.args.listed.filled.hour.proposal.now c.args.listed.families.list.now) c.loop-i.i c.loop-i.invariant (sym c.exceeds_parent.ensures ∙ c.if-exceeds_parent.false)

pub returns : goal.returns
returns c =
    sym (first-nowhere (above c.args.listed.filled.hour.case.bytes.now c.args.listed.filled.hour.proposal.now c.args.listed.families.list.now) c.loop-i.i (omega arith) (omega arith) c.loop-i.invariant)
    ∙ orders-are c.args.listed.filled.hour.read.proposed c.args.listed.orders _
