-- WHICH BYTE HOLDS WHAT, after any calls on 101 zeros. The hours that wait in area a stand from byte 25 a on in the
-- order posted, each plus 1, then zeros. Byte 100 is the area whose turn it is. Assumes nothing.
use Rattle.std.specs.Prelude.{◌≡◌, List, ℕ, ◌+◌, ◌*◌, ◌≤◌, ◌<◌, length, get_or, replicate}
use Rattle.std.proofs.Common.{sym, ap, subst, ◌∙◌, arith}
use Rattle.queue_turns.specs.Meaning.Queue.{Queue, empty}
use Rattle.queue_turns.specs.Meaning.Runs.{Event, after}
use Rattle.queue_turns.proofs.Steps.Invariant.{at-most-25}
use Rattle.queue_bytes.specs.Meaning.Bytes.{cells_of, hours_at, queue_of, bytes_after}
use Rattle.queue_bytes.proofs.Promised.Calls.{from-zeros}
use Rattle.queue_bytes.proofs.Steps.ReadBack.{good-bytes, getD-cells}
use Rattle.queue_bytes.proofs.Steps.Tidied.{Tidied, tidied-zeros, tidied-after, cell-hour, cell_free}

pub record Stored (bytes : List ℕ) (q : Queue) : Type 0 where
  pub long : length bytes ≡ 101
  pub hour : (a k : ℕ) → a ≤ 3 → k < length (q.waiting a) → get_or bytes (25 * a + k) 0 ≡ get_or (q.waiting a) k 0 + 1
  pub free : (a k : ℕ) → a ≤ 3 → length (q.waiting a) ≤ k → k < 25 → get_or bytes (25 * a + k) 0 ≡ 0
  pub turn : get_or bytes 100 0 ≡ q.turn

of-tidied : (bytes : List ℕ) → Tidied bytes → Stored bytes (queue_of bytes)
unfolding queue_of
of-tidied bytes t = record {
  long = t.long;
  hour = λ a k l m. cell a k l (few a k m) ∙ cell-hour (hours_at bytes a) k m;
  free = λ a k l m n. cell a k l n ∙ cell_free (hours_at bytes a) k m;
  turn = omega (arith, t.turn_in);
}
  where
    few : (a k : ℕ) → k < length (hours_at bytes a) → k < 25
    few a k m = omega (arith, m, at-most-25 ((good-bytes bytes).hours a))

    cell : (a k : ℕ) → a ≤ 3 → k < 25 → get_or bytes (25 * a + k) 0 ≡ get_or (cells_of (hours_at bytes a)) k 0
    cell a k l m = sym (getD-cells bytes a k m) ∙ ap (λ (c : List ℕ). get_or c k 0) (t.cells a (omega (arith, l)))

pub stored : (run : List Event) → Stored (bytes_after run (replicate 101 0)) (after run empty)
stored run = subst (λ (q : Queue). Stored (bytes_after run (replicate 101 0)) q) (from-zeros run) (of-tidied (bytes_after run (replicate 101 0)) (tidied-after run (replicate 101 0) tidied-zeros))
