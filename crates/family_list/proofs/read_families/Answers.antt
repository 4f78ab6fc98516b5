-- Rows 16 and 17 by the walk over the list, then row 18.
use Rattle.std.proofs.Common.{ap, sym, ◌∙◌, refl}
use Rattle.std.proofs.lemmas.Result.{err_from_is_err_and}
use Rattle.bytes_read.specs.Meaning.Field.{cursor}
use Rattle.bytes_read.specs.Steps.Walked.{rows-refused, rows-passed}
use Rattle.rules.specs.Meaning.Families.{family_length}
use Rattle.family_list.specs.Meaning.Answer.{list_causes, family_by}
use Rattle.family_list.proofs.Steps.Answer.{list-refused, list-passed, list-known}
use Rattle.family_list.proofs.read_families.Goals as goal

pub returns-in_err-walk_list-clause-refused : goal.returns-in_err-walk_list-clause-refused
returns-in_err-walk_list-clause-refused c =
    let f = c.args.list.now in
    let p = err_from_is_err_and c.from_residual.result c.from_residual.ensures.1 in
    rw (p.1, p.2) (ap family_by (list-refused f c.args.orders (rows-refused (list_causes f c.args.orders) (cursor (family_length c.args.orders)) (sym c.walk_list.ensures.walk ∙ c.in_err-walk_list.was))))

pub invariant_of-families : goal.invariant_of-families
invariant_of-families c =
    let f = c.args.list.now in
    record { readable = list-known f c.args.orders c.requires (rows-passed (list_causes f c.args.orders) (cursor (family_length c.args.orders)) (sym c.walk_list.ensures.walk ∙ c.in_ok-walk_list.was)) }

pub returns-in_err-hold_circles-clause-refused : goal.returns-in_err-hold_circles-clause-refused
returns-in_err-hold_circles-clause-refused c =
    let f = c.args.list.now in
    let passed = list-passed f c.args.orders (rows-passed (list_causes f c.args.orders) (cursor (family_length c.args.orders)) (sym c.walk_list.ensures.walk ∙ c.in_ok-walk_list.was)) in
    let p = err_from_is_err_and c.from_residual-in_err-hold_circles.result c.from_residual-in_err-hold_circles.ensures.1 in
    rw (p.1, p.2) (ap family_by passed ∙ sym c.hold_circles.ensures ∙ c.in_err-hold_circles.was)

pub returns-clause-sound : goal.returns-clause-sound
returns-clause-sound c =
    let f = c.args.list.now in
    let passed = list-passed f c.args.orders (rows-passed (list_causes f c.args.orders) (cursor (family_length c.args.orders)) (sym c.walk_list.ensures.walk ∙ c.in_ok-walk_list.was)) in
    (refl, (refl, ap family_by passed ∙ sym c.hold_circles.ensures ∙ c.in_ok-hold_circles.was))
