-- THE DESK QUEUE of request S-8: four areas post hours, and a serve takes one. What a post and a serve answer, and
-- the queue after them. Assumes nothing.
use Rattle.std.specs.Prelude.{Bool, true, false, cond, ◌||◌, ℕ, zero, suc, ◌+◌, ◌%◌, eqb, ltb}
use mathlib.Core.List.{List, [], ◌∷◌, ◌++◌, tail}
use Rattle.std.proofs.Math.Option.{Option, none, some}
use Rattle.base_causes.specs.declared.Outcome.{Outcome}
use Rattle.base_causes.specs.Meaning.Causes.{Cause, once, refusal, answer}

-- the hours that wait in each area, the earliest posted first; and the area whose turn it is: the one after the
-- area last served, 0 before any was served
pub record Queue : Type 0 where
  pub waiting : ℕ → List ℕ
  pub turn : ℕ

abbrev pub empty : Queue
empty = record { waiting = λ a. []; turn = 0 }

-- whether an hour is in a list
unfoldable pub among : ℕ → List ℕ → Bool
among h [] = false
among h (x ∷ xs) = eqb x h || among h xs

-- the hours of every area, with these for area a
abbrev pub put : ℕ → List ℕ → (ℕ → List ℕ) → ℕ → List ℕ
put a hours w b = cond (eqb b a) hours (w b)

-- A POST of an area and an hour: "61 when the area is over 3, 62 when the hour is over 24, 63 when that area has it
-- waiting already", in that order
unfoldable pub post_causes : ℕ → ℕ → Queue → List Cause
post_causes a h q = once 61 (ltb 3 a) ∷ once 62 (ltb 24 h) ∷ once 63 (among h (q.waiting a)) ∷ []

unfoldable pub post_number : ℕ → ℕ → Queue → ℕ
post_number a h q = (answer (refusal (post_causes a h q))).number

-- an hour that is taken waits behind those that its area has waiting; a refused one leaves "the queue unchanged"
abbrev pub taken : ℕ → ℕ → Queue → Queue
taken a h q = record { waiting = put a (q.waiting a ++ (h ∷ [])) q.waiting; turn = q.turn }

abbrev pub taken_unless : Option Outcome → ℕ → ℕ → Queue → Queue
taken_unless (some o) a h q = q
taken_unless none a h q = taken a h q

unfoldable pub after_post : ℕ → ℕ → Queue → Queue
after_post a h q = taken_unless (refusal (post_causes a h q)) a h q

-- n areas in turn, from area t on
unfoldable pub in_turn : ℕ → ℕ → List ℕ
in_turn zero t = []
in_turn (suc n) t = t % 4 ∷ in_turn n (t + 1)

pub record Pair : Type 0 where
  pub area : ℕ
  pub hour : ℕ

abbrev pub pair : ℕ → ℕ → Pair
pair a h = record { area = a; hour = h }

-- the first of some areas that has an hour waiting, and its earliest posted
abbrev pub earliest_else : ℕ → List ℕ → Option Pair → Option Pair
earliest_else a [] others = others
earliest_else a (h ∷ hours) others = some (pair a h)

unfoldable pub first_waiting : (ℕ → List ℕ) → List ℕ → Option Pair
first_waiting w [] = none
first_waiting w (a ∷ areas) = earliest_else a (w a) (first_waiting w areas)

-- A SERVE "takes the next area in turn after the one last served (area 0 first of all) that has an hour waiting,
-- and its earliest posted"
unfoldable pub next : Queue → Option Pair
next q = first_waiting q.waiting (in_turn 4 q.turn)

-- "64 when a serve finds nothing"
abbrev pub is_none : Option Pair → Bool
is_none none = true
is_none (some p) = false

unfoldable pub serve_causes : Queue → List Cause
serve_causes q = once 64 (is_none (next q)) ∷ []

-- number and index, and the area and hour served; zeros where nothing is
pub record ServeAnswer : Type 0 where
  pub number : ℕ
  pub index : ℕ
  pub area : ℕ
  pub hour : ℕ

abbrev pub pair_else : Option Pair → Pair
pair_else none = pair 0 0
pair_else (some p) = p

abbrev pub answer_with : Outcome → Pair → ServeAnswer
answer_with o p = record { number = o.number; index = o.index; area = p.area; hour = p.hour }

unfoldable pub serve_answer : Queue → ServeAnswer
serve_answer q = answer_with (answer (refusal (serve_causes q))) (pair_else (next q))

-- a served hour waits no more, and the next area has its turn; a serve that finds nothing leaves "the queue unchanged"
abbrev pub without : Option Pair → Queue → Queue
without none q = q
without (some p) q = record { waiting = put p.area (tail (q.waiting p.area)) q.waiting; turn = (p.area + 1) % 4 }

unfoldable pub after_serve : Queue → Queue
after_serve q = without (next q) q
