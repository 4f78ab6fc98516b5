-- The parents are walked from where the header ends.
use Rattle.std.proofs.Common.{sym, ◌∙◌}
use Rattle.std.proofs.lemmas.Result.{err_from_is_err_and}
use Rattle.bytes_read.specs.Meaning.Field.{cursor}
use Rattle.rules.specs.Meaning.Families.{family_length}
use Rattle.family_list.proofs.Steps.Answer.{header_refused, header-past, parents-walked}
use Rattle.family_list.proofs.walk_list.Goals as goal

pub returns-in_err-parents-clause-walk : goal.returns-in_err-parents-clause-walk
returns-in_err-parents-clause-walk c =
    let refused = header_refused c.args.families.now c.args.orders (cursor (family_length c.args.orders)) (sym c.walk_header.ensures ∙ c.in_err-parents.was) in
    let p = err_from_is_err_and c.from_residual.result c.from_residual.ensures.1 in
    rw (p.1, p.2) refused

pub returns-clause-walk : goal.returns-clause-walk
returns-clause-walk c = c.walk_parents.ensures.walk ∙ parents-walked c.args.families.now c.args.orders (cursor (family_length c.args.orders)) (header-past c.args.families.now c.args.orders (sym c.walk_header.ensures ∙ c.in_ok-parents.was)).0
