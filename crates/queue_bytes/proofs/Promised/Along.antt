-- WHAT THE CALLS ANSWER along any run of posts and serves on 101 zero bytes. If an area has more hours taken than
-- served, one of the next four serves answers with it; if an hour was taken, one of the next hundred serves answers
-- with it, whatever else is posted. `fair` at the end is the theorem. Assumes nothing.
use Rattle.std.specs.Prelude.{◌≡◌, Bool, true, false, cond, ◌&&◌, ℕ, ◌+◌, ◌≤◌, ◌<◌, eqb, get_or, drop, replicate}
use Rattle.std.proofs.Math.Path.{refl, sym, ap}
use Rattle.std.proofs.Common.{◌∙◌, subst, arith, le-ltb}
use mathlib.Core.List.{List, [], ◌∷◌, ◌++◌, map}
use Rattle.std.proofs.Math.Option.{Option, none, some}
use Rattle.std.proofs.Math.Decide.{dec_lt}
use Rattle.std.proofs.Math.ListN.{length, get_or-map}
use Rattle.queue_turns.specs.Meaning.Queue.{Queue, empty, Pair, pair, post_number, after_post, next, serve_answer}
use Rattle.queue_turns.specs.Meaning.Runs.{Event, post, serve, step, serves, servings, ServedWithin, posted_in, hours_of, served_in}
use Rattle.queue_turns.proofs.Promised.Served.{waiting-area-within-four, posted-hour-within-hundred, none-lost}
use Rattle.queue_turns.proofs.Steps.Invariant.{answer-by}
use Rattle.queue_bytes.specs.declared.Served.{Served}
use Rattle.queue_bytes.specs.Meaning.Answer.{given}
use Rattle.queue_bytes.specs.Meaning.Bytes.{hours_in, cells_at, hours_at, queue_of, bytes_after_post, bytes_after_serve, bytes_after}
use Rattle.queue_bytes.proofs.Promised.Calls.{from-zeros}
use Rattle.queue_bytes.proofs.Steps.ReadBack.{post-means, serve-means, length-post, length-serve, zeros-empty}

-- THE ANSWERS of the serves among some calls: each by the clause [answer] of `lta_queue_serve`, with the bytes
-- changed by the clauses [bytes] of both entries
unfoldable pub answers : List Event → List ℕ → List Served
answers [] bytes = []
answers (post a h ∷ run) bytes = answers run (bytes_after_post a h bytes)
answers (serve ∷ run) bytes = given (serve_answer (queue_of bytes)) ∷ answers run (bytes_after_serve bytes)

abbrev pub served : ℕ → ℕ → Served
served a h = record { number = 0; index = 0; area = a; hour = h }

abbrev pub nothing : Served
nothing = record { number = 64; index = 0; area = 0; hour = 0 }

abbrev pub zeros : List ℕ
zeros = replicate 101 0

-- for area a: the posts that were answered 0, and the serves that answered with it
abbrev pub one : Bool → ℕ
one true = 1
one false = 0

unfoldable pub taken_of : ℕ → List Event → List ℕ → ℕ
taken_of a [] bytes = 0
taken_of a (post b h ∷ run) bytes = one (eqb b a && eqb (post_number b h (queue_of bytes)) 0) + taken_of a run (bytes_after_post b h bytes)
taken_of a (serve ∷ run) bytes = taken_of a run (bytes_after_serve bytes)

unfoldable pub served_of : ℕ → List Served → ℕ
served_of a [] = 0
served_of a (s ∷ rest) = one (eqb s.number 0 && eqb s.area a) + served_of a rest

-- one of the first n answers is this area and hour, or this area
pub record AnsweredWithin (n a h : ℕ) (l : List Served) : Type 0 where
  pub place : ℕ
  pub within : place < n
  pub answer-is : get_or l place nothing ≡ served a h

pub record AreaAnsweredWithin (n a : ℕ) (l : List Served) : Type 0 where
  pub hour : ℕ
  pub answered : AnsweredWithin n a hour l

-- AGAINST THE RUNS: the answers are what the serves served
abbrev answer_of : Option Pair → Served
answer_of none = nothing
answer_of (some p) = served p.area p.hour

answer-is : (q : Queue) (o : Option Pair) → next q ≡ o → given (serve_answer q) ≡ answer_of o
answer-is q none e = ap given (answer-by q none e)
answer-is q (some p) e = ap given (answer-by q (some p) e)

answers-are : (run : List Event) (bytes : List ℕ) → length bytes ≡ 101 → answers run bytes ≡ map answer_of (servings run (queue_of bytes))
unfolding answers servings step
answers-are [] bytes len = refl
answers-are (post a h ∷ run) bytes len = answers-are run (bytes_after_post a h bytes) (length-post a h bytes len) ∙ ap (λ (q : Queue). map answer_of (servings run q)) (post-means a h bytes len)
answers-are (serve ∷ run) bytes len =
    (λ i. answer-is (queue_of bytes) (next (queue_of bytes)) refl i ∷ (answers-are run (bytes_after_serve bytes) (length-serve bytes len) ∙ ap (λ (q : Queue). map answer_of (servings run q)) (serve-means bytes len)) i)

within-answers : (n a h : ℕ) (run : List Event) (bytes : List ℕ) → length bytes ≡ 101 → ServedWithin n (pair a h) run (queue_of bytes) → AnsweredWithin n a h (answers run bytes)
within-answers n a h run bytes len w = record {
  place = w.place;
  within = w.within;
  answer-is = ap (λ (l : List Served). get_or l w.place nothing) (answers-are run bytes len) ∙ get_or-map answer_of (servings run (queue_of bytes)) w.place none ∙ ap answer_of w.serving;
}

-- and the counts are of what was posted and served
counted : (c : Bool) (h : ℕ) (l : List ℕ) → one c + length l ≡ length (cond c (h ∷ l) l)
counted true h l = omega arith
counted false h l = omega arith

taken_is : (a : ℕ) (run : List Event) (bytes : List ℕ) → length bytes ≡ 101 → taken_of a run bytes ≡ length (posted_in a run (queue_of bytes))
unfolding taken_of posted_in step
taken_is a [] bytes len = refl
taken_is a (post b h ∷ run) bytes len =
    ap (λ (n : ℕ). one (eqb b a && eqb (post_number b h (queue_of bytes)) 0) + n) (taken_is a run (bytes_after_post b h bytes) (length-post b h bytes len) ∙ ap (λ (q : Queue). length (posted_in a run q)) (post-means b h bytes len))
    ∙ counted (eqb b a && eqb (post_number b h (queue_of bytes)) 0) h (posted_in a run (after_post b h (queue_of bytes)))
taken_is a (serve ∷ run) bytes len = taken_is a run (bytes_after_serve bytes) (length-serve bytes len) ∙ ap (λ (q : Queue). length (posted_in a run q)) (serve-means bytes len)

served-is : (a : ℕ) (l : List (Option Pair)) → served_of a (map answer_of l) ≡ length (hours_of a l)
unfolding served_of hours_of
served-is a [] = refl
served-is a (none ∷ l) = omega (arith, served-is a l)
served-is a (some p ∷ l) = ap (λ (n : ℕ). one (eqb p.area a) + n) (served-is a l) ∙ counted (eqb p.area a) p.hour (hours_of a l)

-- ---- from zeros on
length-after : (run : List Event) (bytes : List ℕ) → length bytes ≡ 101 → length (bytes_after run bytes) ≡ 101
unfolding bytes_after
length-after [] bytes len = len
length-after (post a h ∷ run) bytes len = length-after run (bytes_after_post a h bytes) (length-post a h bytes len)
length-after (serve ∷ run) bytes len = length-after run (bytes_after_serve bytes) (length-serve bytes len)

module _ (earlier later : List Event) where
  abbrev bytes : List ℕ
  bytes = bytes_after earlier zeros

  full : length bytes ≡ 101
  full = length-after earlier zeros refl

  -- the hours that wait are those taken and not served
  pub taken-less-served : (a : ℕ) → taken_of a earlier zeros ≡ served_of a (answers earlier zeros) + length ((queue_of bytes).waiting a)
  unfolding served_in
  taken-less-served a =
      taken_is a earlier zeros refl ∙ ap (λ (q : Queue). length (posted_in a earlier q)) zeros-empty
      ∙ none-lost earlier a
      ∙ sym (λ i. (ap (served_of a) (answers-are earlier zeros refl ∙ ap (λ (q : Queue). map answer_of (servings earlier q)) zeros-empty) ∙ served-is a (servings earlier empty)) i + length ((from-zeros earlier i).waiting a))

  area_in : (a : ℕ) → 0 < length ((queue_of bytes).waiting a) → a < 4
  unfolding queue_of hours_at
  area_in a w = by (dec_lt a 4)
    where
      by : Dec (a < 4) → a < 4
      by (yes l) = l
      by (no l) = absurd (none-there (ap (λ (x : Bool). length (cond x (hours_in (cells_at bytes a)) [])) (le-ltb a 4 (omega arith))))
        where
          none-there : length (hours_at bytes a) ≡ 0 → ⊥
          none-there e = omega (arith, w)

  -- "A WAITING AREA is served within four serves"
  pub area-within-four : (a : ℕ) → served_of a (answers earlier zeros) < taken_of a earlier zeros → 4 ≤ serves later → AreaAnsweredWithin 4 a (answers later bytes)
  area-within-four a w m =
      let waits : 0 < length ((queue_of bytes).waiting a) = omega (arith, taken-less-served a) in
      let s = waiting-area-within-four earlier later a (area_in a waits) (subst (λ (q : Queue). 0 < length (q.waiting a)) (from-zeros earlier) waits) m in
      record { hour = s.hour; answered = within-answers 4 a s.hour later bytes full (subst (λ (q : Queue). ServedWithin 4 (pair a s.hour) later q) (sym (from-zeros earlier)) s.served) }

  -- "AND A POSTED HOUR within one hundred after its posting": the post was answered 0
  pub hour-within-hundred : (a h : ℕ) → post_number a h (queue_of bytes) ≡ 0 → 100 ≤ serves later → AnsweredWithin 100 a h (answers later (bytes_after_post a h bytes))
  unfolding step
  hour-within-hundred a h e m =
      within-answers 100 a h later (bytes_after_post a h bytes) (length-post a h bytes full)
      (subst (λ (q : Queue). ServedWithin 100 (pair a h) later q) (sym (post-means a h bytes full ∙ ap (after_post a h) (from-zeros earlier)))
      (posted-hour-within-hundred earlier later a h (ap (post_number a h) (sym (from-zeros earlier)) ∙ e) m))

-- ONE RUN: what the serves after the first calls answer
pub later-answers : (earlier later : List Event) (bytes : List ℕ) → drop (serves earlier) (answers (earlier ++ later) bytes) ≡ answers later (bytes_after earlier bytes)
unfolding answers serves bytes_after
later-answers [] later bytes = refl
later-answers (post a h ∷ earlier) later bytes = later-answers earlier later (bytes_after_post a h bytes)
later-answers (serve ∷ earlier) later bytes = later-answers earlier later (bytes_after_serve bytes)

-- THE THEOREM on the answers of one run of calls on zeros: earlier calls, and later ones
pub record Fair (earlier later : List Event) : Type 0 where
  pub within-four : (a : ℕ) → served_of a (answers earlier zeros) < taken_of a earlier zeros → 4 ≤ serves later → AreaAnsweredWithin 4 a (drop (serves earlier) (answers (earlier ++ later) zeros))
  pub within-hundred : (a h : ℕ) → post_number a h (queue_of (bytes_after earlier zeros)) ≡ 0 → 100 ≤ serves later → AnsweredWithin 100 a h (drop (serves earlier) (answers (earlier ++ (post a h ∷ later)) zeros))

pub fair : (earlier later : List Event) → Fair earlier later
unfolding answers
fair earlier later = record {
  within-four = λ a w m. subst (λ (l : List Served). AreaAnsweredWithin 4 a l) (sym (later-answers earlier later zeros)) (area-within-four earlier later a w m);
  within-hundred = λ a h e m. subst (λ (l : List Served). AnsweredWithin 100 a h l) (sym (later-answers earlier (post a h ∷ later) zeros)) (hour-within-hundred earlier later a h e m);
}
