-- WHAT REQUEST S-8 PROMISES, sentence by sentence, for every run of posts and serves from the empty queue; a run
-- may have refused posts and serves. `after run empty` is the queue after a run. Assumes nothing.
use Rattle.std.specs.Prelude.{◌≡◌, refl, ◌⊎◌, ℕ, ◌+◌, ◌≤◌, ◌<◌, length}
use Rattle.std.proofs.Common.{sym, ◌∙◌, subst, ⊎_elim, length-append}
use Rattle.std.proofs.Math.Path.{ap}
use mathlib.Core.List.Memᴰ
use mathlib.Core.List.{List, [], ◌∷◌, ◌++◌, Memᴰ}
use Rattle.std.proofs.Math.Option.{Option, none, some}
use Rattle.queue_turns.specs.Meaning.Queue.{Queue, empty, Pair, pair, post_number, after_post, next, without, serve_answer, after_serve}
use Rattle.queue_turns.specs.Meaning.Runs.{Event, post, serve, step, after, serves, servings, ServedWithin, AreaServedWithin, posted_in, served_in, turn_after}
use Rattle.queue_turns.proofs.Steps.Invariant.{QueueValid, PostTaken, PostRefused, posting, taken_of, at-most-25, room, good-empty, good-after}
use Rattle.queue_turns.proofs.Steps.Fairness.{area-served, hour-served, nothing-found, nothing-waits}
use Rattle.queue_turns.proofs.Steps.Account as kept

-- in every queue that a run leads to, an area's hours are from 0 to 24 and none waits twice
pub reached : (run : List Event) → QueueValid (after run empty)
reached run = good-after run empty good-empty

-- "A waiting area is served within four serves": after any run, if area a has an hour waiting, one of the first
-- four serves of any later events serves area a
pub waiting-area-within-four : (earlier later : List Event) (a : ℕ) → a < 4 → 0 < length ((after earlier empty).waiting a) → 4 ≤ serves later
    → AreaServedWithin 4 a later (after earlier empty)
waiting-area-within-four earlier later a l waits m = area-served later a (after earlier empty) (reached earlier) l waits m

-- "and a posted hour within one hundred after its posting, whatever else is posted." While it waits, a second post
-- of it is refused by 63, so the first serve of the pair is of this posting.
pub posted-hour-within-hundred : (earlier later : List Event) (a h : ℕ) → post_number a h (after earlier empty) ≡ 0 → 100 ≤ serves later
    → ServedWithin 100 (pair a h) later (step (post a h) (after earlier empty))
unfolding step
posted-hour-within-hundred earlier later a h taken_is m = hour-served later a h (after earlier empty) (reached earlier) taken_is m

-- "up to 25 on the long day": at most 25 wait in an area, and a post that is not refused never finds 25 there
pub at-most-25-wait : (run : List Event) (a : ℕ) → length ((after run empty).waiting a) ≤ 25
at-most-25-wait run a = at-most-25 ((reached run).hours a)

pub always-room : (run : List Event) (a h : ℕ) → post_number a h (after run empty) ≡ 0 → length ((after run empty).waiting a) < 25
always-room run a h e = let t = taken_of a h (after run empty) e in room h t.hour-in t.new ((reached run).hours a)

-- "the next area in turn after the one last served (area 0 first of all)": what was served determines whose turn it
-- is
turn-from : (run : List Event) (q : Queue) → (after run q).turn ≡ turn_after q.turn (servings run q)
unfolding after servings step turn_after
turn-from [] q = refl
turn-from (post a h ∷ run) q = turn-from run (after_post a h q) ∙ ap (λ (t : ℕ). turn_after t (servings run (after_post a h q))) (same (posting a h q))
  where
    same : PostTaken a h q ⊎ PostRefused a h q → (after_post a h q).turn ≡ q.turn
    same = ⊎_elim (λ (t : PostTaken a h q). ap (λ (x : Queue). x.turn) t.leaves) (λ (r : PostRefused a h q). ap (λ (x : Queue). x.turn) r.unchanged)
turn-from (serve ∷ run) q = turn-from run (after_serve q) ∙ by (next q) refl
  where
    by : (o : Option Pair) → next q ≡ o → turn_after (after_serve q).turn (servings run (after_serve q)) ≡ turn_after q.turn (o ∷ servings run (after_serve q))
    by none e = ap (λ (t : ℕ). turn_after t (servings run (after_serve q))) (unfold after_serve in ap (λ (x : Option Pair). (without x q).turn) e)
    by (some p) e = ap (λ (t : ℕ). turn_after t (servings run (after_serve q))) (unfold after_serve in ap (λ (x : Option Pair). (without x q).turn) e)

pub turn_is : (run : List Event) → (after run empty).turn ≡ turn_after 0 (servings run empty)
turn_is run = turn-from run empty

-- "and its earliest posted": what an area posted is what was served from it followed by what waits there, in the
-- order posted. So nothing posted is lost, and nothing is served that was not posted.
pub served-in-order : (run : List Event) (a : ℕ) → posted_in a run empty ≡ served_in a run empty ++ (after run empty).waiting a
served-in-order run a = kept.account a run empty

pub none-lost : (run : List Event) (a : ℕ) → length (posted_in a run empty) ≡ length (served_in a run empty) + length ((after run empty).waiting a)
none-lost run a = ap length (served-in-order run a) ∙ length-append (served_in a run empty) ((after run empty).waiting a)

pub served-was-posted : (run : List Event) (a h : ℕ) → Memᴰ h (served_in a run empty) → Memᴰ h (posted_in a run empty)
served-was-posted run a h m = subst (λ (l : List ℕ). Memᴰ h l) (sym (served-in-order run a)) (Memᴰ.append_left ((after run empty).waiting a) m)

-- "A served hour may be posted again into the room it left": at once
pub post-again : (run : List Event) (p : Pair) → next (after run empty) ≡ some p → post_number p.area p.hour (step serve (after run empty)) ≡ 0
unfolding step
post-again run p e = kept.post-again (after run empty) p (reached run) e

-- "64 when a serve finds nothing": when, and only when, no area has an hour waiting
pub serve-64-only : (run : List Event) → (serve_answer (after run empty)).number ≡ 64 → (a : ℕ) → a < 4 → (after run empty).waiting a ≡ []
serve-64-only run e = nothing-waits (after run empty) (reached run) e

pub serve-64-always : (run : List Event) → ((a : ℕ) → a < 4 → (after run empty).waiting a ≡ []) → (serve_answer (after run empty)).number ≡ 64
serve-64-always run e = nothing-found (after run empty) e
