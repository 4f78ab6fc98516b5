-- `Dump::convert` meets its contract: row 59 at the opening; then a table with room for the other values.
use Rattle.std.proofs.Common.{length, refl, arith}
use Rattle.std.proofs.lemmas.Result.{err_from_is_err_and}
use Rattle.case_header.specs.Steps.CaseReadable.{headed, limited}
use Rattle.dump_proposal.proofs.Steps.Answers.{met-refusal}
use Rattle.dump_proposal.proofs.finite.Dump.convert.Goals as goal

pub returns-in_err-opening : goal.returns-in_err-opening
returns-in_err-opening c =
    let out = c.args.out.now in
    let p = err_from_is_err_and c.from_residual.result c.from_residual.ensures.1 in
    rw (p.1, p.2) (met-refusal c.args.self.«case».bytes.now c.args.self.bytes.now out (c.in_err-opening.ensures (length out)) refl)

pub rest_of-requires : goal.rest_of-requires
rest_of-requires c = limited (headed c.args.self.passed.opened)

pub convert_by-requires-clause-opening_held : goal.convert_by-requires-clause-opening_held
convert_by-requires-clause-opening_held c = c.in_ok-opening.ensures.0

pub convert_by-requires-else-rest_of-le-SMALL_TABLE-clause-table_in_bounds : goal.convert_by-requires-else-rest_of-le-SMALL_TABLE-clause-table_in_bounds
convert_by-requires-else-rest_of-le-SMALL_TABLE-clause-table_in_bounds c = omega (arith, limited (headed c.args.self.passed.opened))
