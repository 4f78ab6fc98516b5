-- `flow_intuitive::intuitive_of` meets its contract: 81 to 83 pass, and the rest is asked. Assumes nothing.
use Rattle.std.proofs.Common.{length, ◌∙◌}
use Rattle.flow_intuitive.proofs.Steps.Answers.{by-rest, lists-past, few-listed, answer-refused}
use Rattle.flow_intuitive.proofs.intuitive_of.Goals as goal

pub examine_rest-requires : goal.examine_rest-requires
examine_rest-requires c = few-listed c.requires.lists_pass

pub answered-requires-clause-taken : goal.answered-requires-clause-taken
answered-requires-clause-taken c =
    let a = c.args in
    let n = a.net_exports.now in
    let p = a.prices.now in
    let room = length a.scratch.now in
    by-rest n p a.pairs.now c.args.n room (lists-past n p a.pairs.now c.args.n room c.requires.lists_pass) ∙ c.in-Ok.ensures

pub returns-in-Err : goal.returns-in-Err
returns-in-Err c =
    let a = c.args in
    let n = a.net_exports.now in
    let p = a.prices.now in
    let room = length a.scratch.now in
    rw c.from.ensures
    (answer-refused n p a.pairs.now c.args.n a.scratch.now c.in-Err.refusal
    (by-rest n p a.pairs.now c.args.n room (lists-past n p a.pairs.now c.args.n room c.requires.lists_pass) ∙ c.in-Err.ensures))
