-- `DeskQueue::next_area`: an area with an hour waiting is the next, one without leaves the next to those after it.
-- Assumes nothing.
use Rattle.std.specs.Prelude.{◌≡◌, Some, ℕ, ◌+◌, ◌≤◌, ◌<◌, ◌%◌, length}
use Rattle.std.proofs.Common.{sym, subst, arith}
use Rattle.queue_turns.specs.Meaning.Queue.{next}
use Rattle.queue_bytes.specs.Meaning.Bytes.{hours_at, queue_of}
use Rattle.queue_bytes.specs.declared.Waiting.{Waiting}
use Rattle.queue_bytes.specs.Steps.Walks.{area_of}
use Rattle.queue_bytes.proofs.Steps.Walks.{next_start, next_here, next-later, next-none}
use Rattle.queue_bytes.proofs.DeskQueue.next_area.Goals as goal

pub loop-k-init : goal.loop-k-init
loop-k-init c = next_start c.args.self.bytes

pub returns-then-waiting_in-gt0 : goal.returns-then-waiting_in-gt0
returns-then-waiting_in-gt0 c =
    let b = c.args.self.bytes in
    let some-wait = subst (λ (v : Waiting). 0 < v.count) c.waiting_in.ensures c.if-waiting_in-gt0.true in
    let found = next_here b c.loop-k.k (omega arith) (subst (λ (t : ℕ). 0 < length (hours_at b ((t + c.loop-k.k) % 4))) c.from-turn.ensures some-wait) c.loop-k.invariant in
    subst (λ (t : ℕ). Some ((t + c.loop-k.k) % 4) ≡ area_of (next (queue_of b))) (sym c.from-turn.ensures) found

pub loop-k-preserved : goal.loop-k-preserved
loop-k-preserved c =
    let b = c.args.self.bytes in
    let none-wait = subst (λ (v : Waiting). v.count ≤ 0) c.waiting_in.ensures c.if-waiting_in-gt0.false in
    next-later b c.loop-k.k (omega arith) (subst (λ (t : ℕ). length (hours_at b ((t + c.loop-k.k) % 4)) ≤ 0) c.from-turn.ensures none-wait) c.loop-k.invariant

pub returns : goal.returns
returns c = next-none c.args.self.bytes c.loop-k.k (omega arith) c.loop-k.invariant
