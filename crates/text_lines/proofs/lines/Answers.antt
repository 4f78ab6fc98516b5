-- The refusal by 31, or the desk's text for the input at the start of the output.
use Rattle.std.proofs.Common.{sym, ◌∙◌}
use borrow.Author.Tests.{ltb-true, ltb-false}
use Rattle.text_lines.proofs.Steps.Answers.{met-refusal, met-answer}
use Rattle.text_lines.proofs.lines.Goals as goal

pub returns-then-too_short : goal.returns-then-too_short
returns-then-too_short c = met-refusal c.args.input.now c.args.out.now (ltb-true _ _ (sym c.too_short.ensures ∙ c.if-too_short.true)) c.refused.ensures

pub returns : goal.returns
returns c = rw c.from.ensures (met-answer c.args.input.now c.args.out.now (ltb-false _ _ (sym c.too_short.ensures ∙ c.if-too_short.false)) c.put_lines.ensures)
