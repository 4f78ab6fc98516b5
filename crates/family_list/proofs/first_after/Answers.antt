-- By where the walk ended.
use Rattle.rules.specs.Meaning.Families.{parent_of}
use Rattle.family_list.proofs.Steps.Walk.{next-none, next-found, came-back}
use Rattle.family_list.proofs.Steps.Walk.{next-been}
use Rattle.family_list.proofs.first_after.Goals as goal

pub returns-then-count-up : goal.returns-then-count-up
returns-then-count-up c = record { long = c.requires.search.long; found = next-been (parent_of c.args.families.list.now) c.requires.search.found c.if-count-up.true }

pub returns-then-up-tip : goal.returns-then-up-tip
returns-then-up-tip c =
    let k = c.args.families.readable in
    record {
      long = c.walk_up-tip.ensures.up_len_2;
      found = next-none (parent_of c.args.families.list.now) k.whole.few k.exist c.requires.i_lt_orders c.requires.search.found c.walk_up-tip.ensures.trail c.if-up-tip.true;
    }

pub least_on_circle-requires-clause-leads_back : goal.least_on_circle-requires-clause-leads_back
least_on_circle-requires-clause-leads_back c =
    let k = c.args.families.readable in
    came-back (parent_of c.args.families.list.now) k.whole.few k.exist c.requires.i_lt_orders c.requires.search.found c.walk_up-tip.ensures.trail c.if-up-tip.false

pub returns : goal.returns
returns c =
    let k = c.args.families.readable in
    let parent = parent_of c.args.families.list.now in
    record {
      long = c.walk_up-tip.ensures.up_len_2;
      found = rw c.min.ensures (next-found parent k.whole.few k.exist c.requires.i_lt_orders c.requires.search.found c.walk_up-tip.ensures.trail c.least_on_circle.ensures);
    }
