-- THE QUEUE AS 101 BYTES that the host holds: 25 cells for each area, area 0 first, then the area whose turn it is.
-- A cell is an hour plus 1, or 0 where it is free. Any bytes are a queue: a cell that is over 25 or repeats an
-- earlier cell of its area counts as free, and the turn is taken modulo 4. All zeros are the empty queue.
-- Assumes nothing.
use Rattle.std.specs.Prelude.{Bool, cond, not, ◌&&◌, ℕ, ◌+◌, ◌*◌, ◌-◌, ◌%◌, ltb, length, get_or, take, drop, set, replicate}
use mathlib.Core.List.{List, [], ◌∷◌, ◌++◌, map, tail}
use Rattle.std.proofs.Math.Option.{Option, none, some}
use Rattle.std.proofs.Math.Seq.{paste}
use Rattle.base_causes.specs.declared.Outcome.{Outcome}
use Rattle.base_causes.specs.Meaning.Causes.{refusal}
use Rattle.queue_turns.specs.Meaning.Queue.{Queue, Pair, among, post_causes, next}
use Rattle.queue_turns.specs.Meaning.Runs.{Event, post, serve}

-- the hours in some cells, the first cell first: a cell counts if it is from 1 to 25 and no earlier cell has its
-- hour
unfoldable pub is_new : List ℕ → ℕ → Bool
is_new hours c = ltb 0 c && (ltb c 26 && not (among (c - 1) hours))

abbrev pub keep : List ℕ → ℕ → List ℕ
keep hours c = cond (is_new hours c) (hours ++ ((c - 1) ∷ [])) hours

unfoldable pub keep_all : List ℕ → List ℕ → List ℕ
keep_all hours [] = hours
keep_all hours (c ∷ cells) = keep_all (keep hours c) cells

unfoldable pub hours_in : List ℕ → List ℕ
hours_in cells = keep_all [] cells

-- the 25 cells of an area
abbrev pub cells_at : List ℕ → ℕ → List ℕ
cells_at bytes a = take 25 (drop (25 * a) bytes)

-- THE QUEUE of the bytes
unfoldable pub hours_at : List ℕ → ℕ → List ℕ
hours_at bytes a = cond (ltb a 4) (hours_in (cells_at bytes a)) []

unfoldable pub queue_of : List ℕ → Queue
queue_of bytes = record { waiting = hours_at bytes; turn = get_or bytes 100 0 % 4 }

-- THE BYTES AFTERWARDS. Some hours as 25 cells, free ones last; and the bytes with an area's cells replaced by
-- these
unfoldable pub cells_of : List ℕ → List ℕ
cells_of hours = map (λ h. h + 1) hours ++ replicate (25 - length hours) 0

unfoldable pub with_hours : List ℕ → ℕ → List ℕ → List ℕ
with_hours bytes a hours = paste bytes (25 * a) (cells_of hours) 25

-- after a post that is taken, only the cells of its area are written; after a refused one, none
abbrev pub bytes_unless : Option Outcome → ℕ → ℕ → List ℕ → List ℕ
bytes_unless (some o) a h bytes = bytes
bytes_unless none a h bytes = with_hours bytes a (hours_at bytes a ++ (h ∷ []))

unfoldable pub bytes_after_post : ℕ → ℕ → List ℕ → List ℕ
bytes_after_post a h bytes = bytes_unless (refusal (post_causes a h (queue_of bytes))) a h bytes

-- after a serve the cells of the served area and the turn are written; none where it finds nothing
abbrev pub bytes_without : Option Pair → List ℕ → List ℕ
bytes_without none bytes = bytes
bytes_without (some p) bytes = set (with_hours bytes p.area (tail (hours_at bytes p.area))) 100 ((p.area + 1) % 4)

unfoldable pub bytes_after_serve : List ℕ → List ℕ
bytes_after_serve bytes = bytes_without (next (queue_of bytes)) bytes

-- after calls, one for each event of a run
unfoldable pub bytes_after : List Event → List ℕ → List ℕ
bytes_after [] bytes = bytes
bytes_after (post a h ∷ run) bytes = bytes_after run (bytes_after_post a h bytes)
bytes_after (serve ∷ run) bytes = bytes_after run (bytes_after_serve bytes)
