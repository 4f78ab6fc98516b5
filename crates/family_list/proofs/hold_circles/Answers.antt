-- Row 18, by the first order that leads back to itself.
use Rattle.std.proofs.Common.{ap, sym, ◌∙◌, arith}
use Rattle.base_causes.proofs.Promised.CauseLaws.{place-below}
use Rattle.family_list.specs.Meaning.Answer.{family_by}
use Rattle.family_list.proofs.Steps.Answer.{by-18, by-none}
use Rattle.family_list.proofs.hold_circles.Goals as goal

pub overflow_cast-i : goal.overflow_cast-i
overflow_cast-i c = omega (arith, place-below _ _ _ 512 (sym c.in-Some.ensures) c.args.families.readable.whole.few)

pub returns-in-Some : goal.returns-in-Some
returns-in-Some c = c.refused.ensures ∙ ap family_by (sym (by-18 c.args.families.list.now c.args.families.orders (sym c.in-Some.ensures)))

pub returns : goal.returns
returns c = ap family_by (sym (by-none c.args.families.list.now c.args.families.orders (sym c.in_default.ensures)))
