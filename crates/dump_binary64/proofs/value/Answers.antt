-- `dump_binary64::value` meets its contract: a finite value is no NaN.
use Rattle.dump_binary64.proofs.Steps.Patterns.{no_nan}
use Rattle.dump_binary64.proofs.value.Goals as goal

pub float_from_bits-result : goal.float_from_bits-result
float_from_bits-result c = no_nan c.args.bits c.requires
