-- The orders have had their turn when the search ends; the first that it found is the least of all.
use Rattle.std.proofs.Common.{sym}
use Rattle.rules.specs.Meaning.Families.{parent_of}
use Rattle.family_list.proofs.Steps.Parents.{none-walked}
use Rattle.family_list.proofs.Steps.Walk.{first_found, none_found}
use Rattle.family_list.proofs.first_on_circle.Goals as goal

pub loop-i-init : goal.loop-i-init
loop-i-init c = let k = c.args.families.readable in none-walked c.args.families.list.now c.args.families.orders k.whole.few k.exist c.args.up.now c.requires

pub returns-then-first-families : goal.returns-then-first-families
returns-then-first-families c = sym (first_found (parent_of c.args.families.list.now) c.args.families.readable.exist c.loop-i.invariant.found c.loop-i-test.false c.if-first-families.true)

pub returns : goal.returns
returns c = sym (none_found (parent_of c.args.families.list.now) c.args.families.readable.exist c.loop-i.invariant.found c.loop-i-test.false c.if-first-families.false)
