-- `sheet_numbers::stops_at` meets its contract: inside the text and past its end. Assumes nothing.
use Rattle.std.proofs.Common.{rules}
use Rattle.sheet_numbers.proofs.Steps.Scan.{stops-got}
use Rattle.sheet_numbers.proofs.stops_at.Goals as goal

pub returns : goal.returns
returns c = stops-got c.args.mark c.args.s.now c.args.i c.get.result c.get.ensures.lookup.0 c.get.ensures.lookup.1 (search rules)
