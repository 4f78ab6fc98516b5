-- `dump_binary64::is_finite` meets its contract.
use Rattle.dump_binary64.proofs.Steps.Patterns.{finite-test}
use Rattle.dump_binary64.proofs.is_finite.Goals as goal

pub returns : goal.returns
returns c = finite-test c.args.bits
