-- `flow_hour::hour_intuitive_in` meets its contract: the judgement's refusal, or the answer for the accepted hour's
-- own lists. Assumes nothing.
use Rattle.std.proofs.Common.{◌≡◌, arith}
use Rattle.flow_hour.proofs.Steps.Kept.{hour-refused, refused-number, exports-fit, prices-fit, exports-are, prices-are, pass, hour-answer}
use Rattle.flow_hour.proofs.hour_intuitive_in.Goals as goal

pub returns-in-Err : goal.returns-in-Err
returns-in-Err c =
    let a = c.args in
    let h = c.in-Err.ensures in
    rw c.from.ensures (hour-refused a.case.now a.proposal.now a.pairs.now a.n a.scratch.now c.in-Err.refusal h.verdict-is (refused-number a.case.now a.proposal.now a.pairs.now a.n a.scratch.now h))

pub returns-then-valued-ne0 : goal.returns-then-valued-ne0
returns-then-valued-ne0 c =
    let a = c.args in
    rw c.from-then-valued-ne0.ensures (hour-refused a.case.now a.proposal.now a.pairs.now a.n a.scratch.now c.in-Ok.valued.verdict c.in-Ok.ensures.verdict-is (omega arith))

pub turned-exports-requires-clause-fits_to : goal.turned-exports-requires-clause-fits_to
turned-exports-requires-clause-fits_to c =
    let a = c.args in
    exports-fit a.case.now a.proposal.now a.pairs.now a.n a.scratch.now c.in-Ok.valued c.in-Ok.ensures c.if-valued-ne0.false

pub listed-list-requires-clause-fits_to : goal.listed-list-requires-clause-fits_to
listed-list-requires-clause-fits_to c =
    let a = c.args in
    prices-fit a.case.now a.proposal.now a.pairs.now a.n a.scratch.now c.in-Ok.valued c.in-Ok.ensures c.if-valued-ne0.false

pub intuitive_of-requires-clause-lists_pass : goal.intuitive_of-requires-clause-lists_pass
intuitive_of-requires-clause-lists_pass c =
    let a = c.args in
    let f = c.in-Ok.valued in
    let h = c.in-Ok.ensures in
    let e : f.verdict.number ≡ 0 = c.if-valued-ne0.false in
    pass a.case.now a.proposal.now a.pairs.now a.n a.scratch.now f h e _ _
    (exports-are a.case.now a.proposal.now a.pairs.now a.n a.scratch.now f h e _ c.turned-exports.ensures)
    (prices-are a.case.now a.proposal.now a.pairs.now a.n a.scratch.now f h e _ c.listed-list.ensures)

pub returns : goal.returns
returns c =
    let a = c.args in
    let f = c.in-Ok.valued in
    let h = c.in-Ok.ensures in
    let e : f.verdict.number ≡ 0 = c.if-valued-ne0.false in
    hour-answer a.case.now a.proposal.now a.pairs.now a.n a.scratch.now f h e _ _
    (exports-are a.case.now a.proposal.now a.pairs.now a.n a.scratch.now f h e _ c.turned-exports.ensures)
    (prices-are a.case.now a.proposal.now a.pairs.now a.n a.scratch.now f h e _ c.listed-list.ensures)
    c.intuitive_of.ensures
