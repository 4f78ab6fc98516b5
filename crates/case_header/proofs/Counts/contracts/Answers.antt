-- `case_header::Counts::contracts` meets its contract: by the version. Assumes nothing.
use Rattle.std.proofs.Common.{refl}
use Rattle.rules.specs.Meaning.Layout.{contracts}
use Rattle.case_header.proofs.Counts.contracts.Goals as goal

pub returns : goal.returns
unfolding contracts
returns c = refl
