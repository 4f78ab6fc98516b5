-- Where the walk came back to its start, that is the least; else each turn passes one more order of the circle.
use Rattle.std.proofs.Common.{ℕ, ◌+◌, sym, ◌∙◌, subst}
use Prim.Native.Nat.{min}
use Rattle.rules.specs.Meaning.Families.{parent_of}
use Rattle.family_list.proofs.Steps.Parents.{parent-or}
use Rattle.family_list.specs.Steps.Round.{Round}
use Rattle.family_list.proofs.Steps.Round.{round-starts, at_in, round-goes-on, round-ends}
use Rattle.family_list.proofs.least_on_circle.Goals as goal

pub loop-at-init : goal.loop-at-init
loop-at-init c =
    let f = c.args.families.list.now in
    let w = round-starts (parent_of f) c.args.families.readable.exist c.requires.tip_lt_orders c.requires.leads_back in
    subst (λ (k : ℕ). Round (parent_of f) c.args.families.orders c.args.tip 1 k c.args.tip)
    (sym (c.unwrap_or-at.ensures ∙ parent-or c.parent.result c.args.tip (c.parent.ensures ∙ w.1))) w.2

pub parent-requires-in-loop-at : goal.parent-requires-in-loop-at
parent-requires-in-loop-at c = at_in (parent_of c.args.families.list.now) c.args.families.readable.exist c.requires.tip_lt_orders c.loop-at.invariant

pub loop-at-preserved : goal.loop-at-preserved
loop-at-preserved c =
    let f = c.args.families.list.now in
    let w = round-goes-on (parent_of f) c.args.families.readable.exist c.requires.tip_lt_orders c.loop-at.invariant c.loop-at-test.true in
    rw c.min-least.ensures (subst (λ (k : ℕ). Round (parent_of f) c.args.families.orders c.args.tip (c.loop-at.steps + 1) k (min c.loop-at.least c.loop-at.at))
    (sym (c.unwrap_or-at-in-loop-at.ensures ∙ parent-or c.parent-in-loop-at.result c.loop-at.at (c.parent-in-loop-at.ensures ∙ w.1))) w.2)

pub returns : goal.returns
returns c = round-ends (parent_of c.args.families.list.now) c.args.families.readable.exist c.requires.tip_lt_orders c.loop-at.invariant c.loop-at-test.false c.args.i
