-- `Waiting::with`: where an hour may be added there are fewer than 25. Assumes nothing.
use Rattle.std.proofs.Common.{arith}
use Rattle.queue_bytes.proofs.Steps.Cells.{addable-room, added_is}
use Rattle.queue_bytes.proofs.Waiting.with.Goals as goal

pub bounds-cells-n : goal.bounds-cells-n
bounds-cells-n c = (addable-room c.requires).0

pub overflow_add-result : goal.overflow_add-result
overflow_add-result c = record { fits = omega (arith, (addable-room c.requires).0) }

pub returns : goal.returns
returns c hours g e = added_is c.args.self c.args.c hours c.requires e
