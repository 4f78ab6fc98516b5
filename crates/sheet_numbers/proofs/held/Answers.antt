-- `sheet_numbers::held` meets its contract. Assumes nothing.
use Rattle.std.proofs.Common.{sym, ◌∙◌}
use Rattle.sheet_numbers.proofs.Steps.Capped.{capped-min}
use Rattle.sheet_numbers.proofs.held.Goals as goal

pub returns : goal.returns
returns c = c.min.ensures ∙ sym (capped-min c.args.x)
