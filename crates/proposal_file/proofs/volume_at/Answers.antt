-- `proposal_file::volume_at` meets its contract: the volumes stand first. Assumes nothing.
use Rattle.std.proofs.Common.{ap, ◌∙◌, arith}
use Rattle.std.specs.Prelude.{pos}
use Rattle.rules.specs.Meaning.Layout.{volume_in}
use Rattle.proposal_file.specs.Steps.ProposalValid.{number-inside}
use Rattle.proposal_file.proofs.volume_at.Goals as goal

pub number_at-requires : goal.number_at-requires
number_at-requires c = number-inside c.args.hour.read.proposed c.args.i (omega arith)

pub returns : goal.returns
unfolding volume_in
returns c = c.volume.ensures ∙ ap pos c.number_at.ensures
