-- `dump_proposal::low32` meets its contract: the low half has the low bytes.
use Rattle.bytes_write.specs.Steps.Halves.{low_half}
use Rattle.dump_proposal.proofs.low32.Goals as goal

pub returns : goal.returns
returns c = low_half _
