-- RUNS: sequences of posts and serves, including refused ones, and notions about them. Assumes nothing.
use Rattle.std.specs.Prelude.{◌≡◌, cond, ◌&&◌, List, [], ◌∷◌, ℕ, suc, ◌+◌, ◌%◌, ◌<◌, eqb, get_or}
use Rattle.std.proofs.Math.Option.{Option, none, some}
use Rattle.queue_turns.specs.Meaning.Queue.{Queue, Pair, post_number, after_post, next, after_serve}

pub data Event : Type 0 where
  post : ℕ → ℕ → Event
  serve : Event

-- the queue after one event, and after a run of them
unfoldable pub step : Event → Queue → Queue
step (post a h) q = after_post a h q
step serve q = after_serve q

unfoldable pub after : List Event → Queue → Queue
after [] q = q
after (e ∷ run) q = after run (step e q)

-- how many serves a run has
unfoldable pub serves : List Event → ℕ
serves [] = 0
serves (post a h ∷ run) = serves run
serves (serve ∷ run) = suc (serves run)

-- what each serve of a run served, in order; none where it found nothing
unfoldable pub servings : List Event → Queue → List (Option Pair)
servings [] q = []
servings (post a h ∷ run) q = servings run (step (post a h) q)
servings (serve ∷ run) q = next q ∷ servings run (step serve q)

-- the area whose turn it is after some serves, with t before them: the one after the area last served
unfoldable pub turn_after : ℕ → List (Option Pair) → ℕ
turn_after t [] = t
turn_after t (none ∷ rest) = turn_after t rest
turn_after t (some p ∷ rest) = turn_after ((p.area + 1) % 4) rest

-- one of the first n serves of a run serves this pair of area and hour
pub record ServedWithin (n : ℕ) (p : Pair) (run : List Event) (q : Queue) : Type 0 where
  pub place : ℕ
  pub within : place < n
  pub serving : get_or (servings run q) place none ≡ some p

-- one of the first n serves of a run serves this area
pub record AreaServedWithin (n : ℕ) (a : ℕ) (run : List Event) (q : Queue) : Type 0 where
  pub hour : ℕ
  pub served : ServedWithin n (record { area = a; hour = hour }) run q

-- the hours of an area that a run's posts put into the queue, in order
unfoldable pub posted_in : ℕ → List Event → Queue → List ℕ
posted_in a [] q = []
posted_in a (post b h ∷ run) q = cond (eqb b a && eqb (post_number b h q) 0) (h ∷ posted_in a run (step (post b h) q)) (posted_in a run (step (post b h) q))
posted_in a (serve ∷ run) q = posted_in a run (step serve q)

-- the hours of an area among what serves served, in order
abbrev pub of_area : ℕ → Option Pair → List ℕ → List ℕ
of_area a none hours = hours
of_area a (some p) hours = cond (eqb p.area a) (p.hour ∷ hours) hours

unfoldable pub hours_of : ℕ → List (Option Pair) → List ℕ
hours_of a [] = []
hours_of a (s ∷ rest) = of_area a s (hours_of a rest)

unfoldable pub served_in : ℕ → List Event → Queue → List ℕ
served_in a run q = hours_of a (servings run q)
