-- `proposal_file::flow_at` meets its contract: the flows stand after the volumes. Assumes nothing.
use Rattle.std.proofs.Common.{◌+◌, ap, ◌∙◌, arith}
use Rattle.std.specs.Prelude.{pos}
use Rattle.case_header.specs.Steps.CaseReadable.{headed, limited}
use Rattle.proposal_file.specs.Steps.ProposalValid.{number-inside, flow-is}
use Rattle.proposal_file.proofs.flow_at.Goals as goal

pub overflow_add-k : goal.overflow_add-k
overflow_add-k c = omega (arith, limited (headed c.args.hour.read.proposed.opened))

pub number_at-requires : goal.number_at-requires
number_at-requires c = number-inside c.args.hour.read.proposed (c.args.hour.case.counts.orders + c.args.l) (omega arith)

pub returns-clause-value : goal.returns-clause-value
returns-clause-value c = c.volume.ensures ∙ ap pos (c.number_at.ensures ∙ flow-is c.args.hour.read.proposed.opened c.args.hour.proposal.now c.args.l)

pub returns-clause-upper_bound : goal.returns-clause-upper_bound
returns-clause-upper_bound c = omega (arith, c.number_at.ensures ∙ flow-is c.args.hour.read.proposed.opened c.args.hour.proposal.now c.args.l)
