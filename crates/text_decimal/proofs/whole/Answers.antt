-- `whole`: no power of ten is zero. Assumes nothing.
use Rattle.std.proofs.Common.{arith}
use Rattle.text_rules.proofs.Promised.Value.{power-positive}
use Rattle.text_decimal.proofs.whole.Goals as goal

pub nonzero_div-result : goal.nonzero_div-result
nonzero_div-result c = omega (arith, power-positive c.args.decimals, c.power.ensures)
