-- `host::text::lta_desk_lines` meets its contract: its clauses are the answer of `lines` and the theorems about it.
-- Assumes nothing.
use Rattle.text_lines.proofs.Promised.Answered.{answer-text}
use Rattle.host.proofs.text.lta_desk_lines.Goals as goal

pub returns-clause-text : goal.returns-clause-text
returns-clause-text c = answer-text c.lines.ensures
