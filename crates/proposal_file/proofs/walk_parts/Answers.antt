-- `proposal_file::walk_parts` meets its contract: the shadow prices are walked from where the flows end.
-- Assumes nothing.
use Rattle.std.proofs.Common.{◌≡◌, sym, ap, ◌∙◌, arith}
use Rattle.bytes_read.specs.declared.Cursor.{Cursor}
use Rattle.bytes_read.specs.Meaning.Field.{cursor}
use Rattle.bytes_read.specs.Steps.Walked.{past_is}
use Rattle.case_header.specs.Steps.CaseReadable.{headed, limited}
use Rattle.proposal_file.specs.Steps.ProposalValid.{length-is, shadow-at, small}
use Rattle.proposal_file.proofs.walk_parts.Goals as goal

at-13 : {d : Cursor} → d ≡ cursor 13 → d.at ≡ 13
at-13 e = ap (λ (d : Cursor). d.at) e

pub overflow_add-k : goal.overflow_add-k
overflow_add-k c = omega (arith, limited (headed c.args.«case».readable))

pub walk_numbers-requires-clause-count_in_bounds : goal.walk_numbers-requires-clause-count_in_bounds
walk_numbers-requires-clause-count_in_bounds c = omega (arith, at-13 c.requires.start_value, length-is c.args.«case».readable c.args.proposal.now)

pub walk_numbers-requires-clause-proposal_len_bound : goal.walk_numbers-requires-clause-proposal_len_bound
walk_numbers-requires-clause-proposal_len_bound c = omega (arith, small c.args.«case».readable c.args.proposal.now)

pub walk_shadows-requires-clause-at_value : goal.walk_shadows-requires-clause-at_value
walk_shadows-requires-clause-at_value c =
    let e = past_is (sym c.walk_numbers.ensures ∙ c.in_ok-shadows.was) in
    ap (λ (d : Cursor). d.at) e ∙ omega (arith, at-13 c.requires.start_value) ∙ shadow-at c.args.«case».readable c.args.proposal.now 0
