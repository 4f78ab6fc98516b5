-- `flow_max::max_flow` meets its contract: an empty flow is filled until no augmenting path is left. Assumes nothing.
use Rattle.std.proofs.Common.{ℕ, sym, subst, arith, nat_eq}
use Rattle.flow_pairs.specs.Meaning.Pairs.{network_of}
use Rattle.flow_scratch.specs.Steps.Cleared.{cleared-again}
use Rattle.flow_max.specs.Meaning.MaxFlow.{MaxFlowAnswer}
use Rattle.flow_max.specs.Steps.Filled.{total-le, exports-few, cleared-state, answer-of}
use Rattle.flow_max.proofs.max_flow.Goals as goal

pub fill-carried-requires-clause-state : goal.fill-carried-requires-clause-state
fill-carried-requires-clause-state c = cleared-state _ _ _ 96 c.args.s.now c.clear.new.s c.requires.inputs_in_range (omega arith) c.clear.ensures

pub returns-clause-answer : goal.returns-clause-answer
returns-clause-answer c =
    subst (λ (x : ℕ). MaxFlowAnswer (network_of c.args.net_exports.now c.args.prices.now c.args.pairs.now) (nat_eq c.fill-carried.result x) c.fill-carried.result) (sym c.all_exports-exports.ensures)
    (answer-of _ _ c.fill-carried.result c.requires.inputs_in_range.placed c.fill-carried.ensures.filled)

pub returns-clause-total : goal.returns-clause-total
returns-clause-total c = omega (arith, total-le _ _ _ c.fill-carried.ensures.filled.state, exports-few _ _ _ c.requires.inputs_in_range)

pub returns-clause-scratch : goal.returns-clause-scratch
returns-clause-scratch c =
    cleared-again 96 c.args.n c.args.s.now c.clear.new.s c.fill-carried.new.s c.clear-2.new.s c.requires.le_n.0 c.requires.le_n.0 c.clear.ensures c.fill-carried.ensures.rest c.clear-2.ensures
