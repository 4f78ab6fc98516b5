-- `case_header::read_header` meets its contract: row 1 by the walk over the header, rows 2 to 4 by its fields.
-- Assumes nothing.
use Rattle.std.proofs.Common.{sym, ap, ◌∙◌, Err}
use Rattle.std.proofs.lemmas.Result.{err_from_is_err_and}
use Rattle.base_causes.specs.Meaning.Causes.{refusal}
use Rattle.rules.specs.Meaning.Layout.{case_header}
use Rattle.bytes_read.specs.Meaning.Field.{cursor}
use Rattle.case_header.specs.declared.Header.{Header}
use Rattle.case_header.specs.Meaning.Answer.{counts_of, counts_in, header_by, header_causes}
use Rattle.case_header.specs.Steps.Answer.{header-taken, header_refused, header-short, header-long}
use Rattle.case_header.proofs.read_header.Goals as goal

pub returns : goal.returns
returns c =
    let s = c.args.«case».now in
    let w = header-taken s (sym c.take_header.ensures ∙ c.in_ok-take_header.was) in
    c.hold_header.ensures ∙ ap (λ (x : Header). header_by (counts_in x) x.past (refusal (header_causes x))) w.1 ∙ ap (header_by (counts_of s) (cursor case_header)) (sym (header-long s w.0))

pub returns-in_err-take_header : goal.returns-in_err-take_header
returns-in_err-take_header c =
    let s = c.args.«case».now in
    let w = header_refused s (sym c.take_header.ensures ∙ c.in_err-take_header.was) in
    let p = err_from_is_err_and c.from_residual.result c.from_residual.ensures.1 in
    p.1 ∙ ap Err (p.2 ∙ w.1) ∙ ap (header_by (counts_of s) (cursor case_header)) (sym (header-short s w.0))
