-- `case_file::read_case` meets its contract: a refused header refuses the case, since its rows are asked first.
-- Assumes nothing.
use Rattle.std.proofs.lemmas.Result.{err_from_is_err_and}
use Rattle.std.proofs.Common.{sym, ap, ◌∙◌, Err}
use Rattle.case_header.specs.Meaning.Answer.{counts_of}
use Rattle.case_file.specs.Meaning.Answer.{case_by}
use Rattle.case_file.specs.Meaning.Files.{case_in}
use Rattle.case_file.specs.Steps.Files.{header-refuses}
use Rattle.case_header.specs.Steps.CaseReadable.{header-refused-of}
use Rattle.case_file.proofs.read_case.Goals as goal

pub returns-in_err-counts : goal.returns-in_err-counts
returns-in_err-counts c =
    let s = c.args.«case».now in
    let p = err_from_is_err_and c.from_residual.result c.from_residual.ensures.1 in
    p.1 ∙ ap Err p.2 ∙ ap (case_by (counts_of (case_in c.args.files s))) (sym (header-refuses c.args.files s (header-refused-of s (sym c.read_header.ensures ∙ c.in_err-counts.was))))
