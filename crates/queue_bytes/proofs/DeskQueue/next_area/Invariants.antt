-- `DeskQueue::next_area`: the next serve takes what is found from area `k` in turn on. Assumes nothing.
use Rattle.queue_bytes.proofs.Steps.Walks.{NextFrom}
use Rattle.queue_bytes.proofs.DeskQueue.next_area.Given as goal

abbrev pub invariant-loop-k : goal.invariant-loop-k
invariant-loop-k l = NextFrom l.fn.self.bytes l.k
