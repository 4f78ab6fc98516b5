-- What the code answers and leaves, against the definitions: a refused post, one that is taken, a serve that finds
-- nothing, and one that takes an hour. Assumes nothing.
use Rattle.std.specs.Prelude.{◌≡◌, List, ℕ, length, Option, Some, None, Result, Ok, Err}
use Rattle.queue_bytes.specs.declared.Served.{Served}
use Rattle.queue_bytes.specs.declared.Refusal.{Refusal}
use Rattle.queue_bytes.specs.declared.Refusal.TheVariants.{UnknownArea, UnknownHour, WaitsAlready}
use Rattle.queue_bytes.specs.declared.DeskQueue.{DeskQueue}
use Rattle.queue_bytes.specs.declared.Taken.{Taken}
use Rattle.queue_turns.specs.Meaning.Queue.{post_number, serve_answer}
use Rattle.queue_bytes.specs.Meaning.Bytes.{queue_of, bytes_after_post, bytes_after_serve}
use Rattle.queue_bytes.specs.Meaning.Answer.{given}

-- ---- posts

abbrev pub refusal_number : Refusal → ℕ
refusal_number UnknownArea = 61
refusal_number UnknownHour = 62
refusal_number WaitsAlready = 63

abbrev pub number_of : Result DeskQueue Refusal → ℕ
number_of (Ok q) = 0
number_of (Err e) = refusal_number e

-- a refused post leaves the bytes
abbrev pub bytes_unless_refused : List ℕ → Result DeskQueue Refusal → List ℕ
bytes_unless_refused b (Ok q) = q.bytes
bytes_unless_refused b (Err e) = b

module _ (a h : ℕ) (b : List ℕ) where
  -- THE 101 BYTES AFTER A POST, and its number
  pub record PostStep (r : Result DeskQueue Refusal) : Type 0 where
    pub number_is : number_of r ≡ post_number a h (queue_of b)
    pub bytes-are : bytes_unless_refused b r ≡ bytes_after_post a h b
    pub size : length b ≡ 101

-- ---- serves

abbrev pub served_of : Option Taken → Served
served_of None = record { number = 64; index = 0; area = 0; hour = 0 }
served_of (Some t) = record { number = 0; index = 0; area = t.area; hour = t.hour }

-- a serve that finds nothing leaves the bytes
abbrev pub bytes_left : List ℕ → Option Taken → List ℕ
bytes_left b None = b
bytes_left b (Some t) = t.left.bytes

module _ (b : List ℕ) where
  -- THE 101 BYTES AFTER A SERVE, and its answer
  pub record ServeStep (r : Option Taken) : Type 0 where
    pub answer-is : served_of r ≡ given (serve_answer (queue_of b))
    pub bytes-are : bytes_left b r ≡ bytes_after_serve b
    pub size : length b ≡ 101
