-- `flow_intuitive::answered` meets its contract: where no row refuses, the max flow answers. Assumes nothing.
use Rattle.std.proofs.Common.{length, ◌∙◌}
use Rattle.flow_intuitive.proofs.Steps.Answers.{answer-given, flag_is}
use Rattle.flow_intuitive.proofs.Steps.Sizes.{sized, room_in}
use Rattle.flow_intuitive.proofs.answered.Goals as goal

pub max_flow-flow-requires-clause-inputs_in_range : goal.max_flow-flow-requires-clause-inputs_in_range
max_flow-flow-requires-clause-inputs_in_range c =
    let a = c.args in
    sized a.net_exports.now a.prices.now a.pairs.now c.args.n (length a.scratch.now) c.requires.taken

pub max_flow-flow-requires-clause-le_n : goal.max_flow-flow-requires-clause-le_n
max_flow-flow-requires-clause-le_n c =
    let a = c.args in
    (c.requires.le_n, room_in a.net_exports.now a.prices.now a.pairs.now c.args.n (length a.scratch.now) c.requires.taken)

pub returns : goal.returns
returns c =
    let a = c.args in
    let f = c.max_flow-flow in
    answer-given a.net_exports.now a.prices.now a.pairs.now c.args.n a.scratch.now c.requires.taken f.new.s f.result.all f.result.total c.from.result c.volume.result.0 f.ensures.answer
    (room_in a.net_exports.now a.prices.now a.pairs.now c.args.n (length a.scratch.now) c.requires.taken) f.ensures.scratch (c.from.ensures ∙ flag_is f.result.all) c.volume.ensures
