-- `flow_pairs::pair_table` meets its contract: an empty table has no pair. Assumes nothing.
use Rattle.flow_pairs.proofs.Steps.Table.{tabled-none}
use Rattle.flow_pairs.proofs.pair_table.Goals as goal

pub loop-k-init : goal.loop-k-init
loop-k-init c = tabled-none c.args.pairs.now
