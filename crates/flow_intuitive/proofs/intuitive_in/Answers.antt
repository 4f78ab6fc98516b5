-- `flow_intuitive::intuitive_in` meets its contract: a refusal is the table's. Assumes nothing.
use Rattle.flow_intuitive.proofs.Steps.Answers.{answer-refused}
use Rattle.flow_intuitive.proofs.intuitive_in.Goals as goal

pub returns-in-Err : goal.returns-in-Err
returns-in-Err c =
    let a = c.args in
    rw c.from.ensures (answer-refused a.net_exports.now a.prices.now a.pairs.now c.args.n a.scratch.now c.in-Err.refusal c.in-Err.ensures)
