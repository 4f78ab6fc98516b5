-- `sheet_numbers::starts_at` meets its contract: inside the text and past its end. Assumes nothing.
use Rattle.std.proofs.Common.{◌∙◌, refl}
use Rattle.sheet_numbers.proofs.Steps.Scan.{starts-got}
use Rattle.sheet_numbers.proofs.starts_at.Goals as goal

pub returns : goal.returns
returns c = c.eq.ensures ∙ starts-got c.args.mark c.args.s.now c.args.i c.get.result c.get.ensures.lookup.0 c.get.ensures.lookup.1 _ refl
