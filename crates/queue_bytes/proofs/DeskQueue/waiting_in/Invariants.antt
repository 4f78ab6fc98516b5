-- `DeskQueue::waiting_in`: `cells` and `count` hold the hours in the area's first cells. Assumes nothing.
use Rattle.std.specs.Prelude.{◌≡◌}
use Rattle.queue_bytes.specs.declared.Waiting.{Waiting}
use Rattle.queue_bytes.specs.Steps.Cells.{waiting_of}
use Rattle.queue_bytes.proofs.Steps.Walks.{hours_to}
use Rattle.queue_bytes.proofs.DeskQueue.waiting_in.Given as goal

abbrev pub invariant-loop-c : goal.invariant-loop-c
invariant-loop-c l = ◌≡◌ {A = Waiting} (record { cells = l.cells; count = l.count }) (waiting_of (hours_to l.fn.self.bytes l.area l.c-index))
