-- `proposal_file::read_proposal` meets its contract: row 9 by the walk over the header, the others by its fields.
-- Assumes nothing.
use Rattle.std.proofs.lemmas.Result.{err_from_is_err_and}
use Rattle.std.proofs.Common.{sym, ap, ◌∙◌, Err}
use Rattle.base_causes.proofs.Promised.CauseLaws.{field-fails, behind}
use Rattle.proposal_file.specs.Meaning.Answer.{opening_of, proposal_by}
use Rattle.proposal_file.specs.Steps.Answer.{header_refused}
use Rattle.proposal_file.specs.Steps.ProposalValid.{rows_of, rows_are}
use Rattle.proposal_file.proofs.read_proposal.Goals as goal

pub returns-in_err-take_header : goal.returns-in_err-take_header
returns-in_err-take_header c =
    let s = c.args.«case».bytes.now in
    let t = c.args.proposal.now in
    let w = header_refused t (sym c.take_header.ensures ∙ c.in_err-take_header.was) in
    let p = err_from_is_err_and c.from_residual.result c.from_residual.ensures.1 in
    p.1 ∙ ap Err (p.2 ∙ w.1) ∙ ap (proposal_by (opening_of t)) (sym (rows_are s t ∙ field-fails 9 0 (behind 9 (rows_of s t)) w.0))
