-- `proposal_file::shadow_at` meets its contract: the shadow prices stand after the volumes and the flows.
-- Assumes nothing.
use Rattle.std.proofs.Common.{◌≡◌, ◌+◌, sym, ap, subst, ◌∙◌, arith}
use Rattle.std.specs.Prelude.{ℤ, pos}
use Rattle.base_integers.specs.Meaning.Ranges.{Within}
use Rattle.base_limits.specs.Meaning.Limits as limits
use Rattle.base_measures.specs.declared.Cents.{Cents}
use Rattle.rules.specs.Meaning.Layout.{shadow_in}
use Rattle.case_header.specs.Steps.CaseReadable.{headed, limited}
use Rattle.proposal_file.specs.Steps.ProposalValid.{number-inside, shadow-is, shadow-within}
use Rattle.proposal_file.proofs.shadow_at.Goals as goal
use Rattle.proposal_file.proofs.shadow_at.Goals.{After-from}

pub overflow_add-k : goal.overflow_add-k
overflow_add-k c = omega (arith, limited (headed c.args.hour.read.proposed.opened))

pub overflow_add-k-2 : goal.overflow_add-k-2
overflow_add-k-2 c = omega (arith, limited (headed c.args.hour.read.proposed.opened))

pub number_at-requires : goal.number_at-requires
number_at-requires c = number-inside c.args.hour.read.proposed (c.args.hour.case.counts.orders + c.args.hour.case.counts.links + c.args.m) (omega arith)

number_is : (c : After-from) → c.from.result.0 ≡ pos (shadow_in c.args.hour.case.bytes.now c.args.hour.proposal.now c.args.m)
number_is c = c.from.ensures ∙ ap pos (c.number_at.ensures ∙ shadow-is c.args.hour.read.proposed.opened c.args.hour.proposal.now c.args.m)

-- row 14 passed
pub of_shadow_price-requires : goal.of_shadow_price-requires
of_shadow_price-requires c =
    subst (λ (x : ℤ). Within limits.shadow_price x) (sym (number_is (goal.at.of_shadow_price-requires c).After-from)) (shadow-within c.args.hour.read.proposed c.args.m c.requires)

pub returns : goal.returns
returns c = ap (λ (x : Cents). x.0) c.of_shadow_price.ensures ∙ number_is (goal.at.returns c).After-from
