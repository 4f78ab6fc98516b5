-- CALLS ON THE BYTES, in the order in which the host makes them. Bytes that are all zero, changed only by the two
-- entries as their clauses [bytes] say, mean the queue that the run leads to. So what `queue_turns` promises of
-- runs holds of the host's calls. Both bounds also hold from any 101 bytes, even such as no call left.
-- Assumes nothing.
use Rattle.std.specs.Prelude.{◌≡◌, refl, ◌⊎◌, List, [], ◌∷◌, ◌++◌, ℕ, ◌+◌, ◌*◌, ◌≤◌, ◌<◌, length, get_or, replicate}
use Rattle.std.proofs.Common.{ap, ◌∙◌, ⊎_elim}
use Rattle.std.proofs.Math.Option.{Option}
use Rattle.base_causes.specs.declared.Outcome.{Outcome}
use Rattle.queue_turns.specs.Meaning.Queue.{empty, pair, post_number, serve_answer}
use Rattle.queue_turns.specs.Meaning.Runs.{Event, post, serve, step, after, serves, ServedWithin, AreaServedWithin}
use Rattle.queue_turns.specs.Steps.Invariant.{Hours}
use Rattle.queue_turns.proofs.Steps.Invariant.{PostTaken, PostRefused, posting, hours-more}
use Rattle.queue_turns.proofs.Steps.Fairness.{area-served, hour-served}
use Rattle.queue_bytes.specs.Meaning.Bytes.{hours_at, queue_of, bytes_unless, bytes_after_post, bytes_after_serve, bytes_after}
use Rattle.queue_bytes.proofs.Steps.ReadBack.{outside, good-bytes}
use Rattle.queue_bytes.proofs.Steps.ReadBack.{post-means, serve-means, length-post, length-serve, zeros-empty}

-- the queue of the bytes after some calls
pub calls-mean : (run : List Event) (bytes : List ℕ) → length bytes ≡ 101 → queue_of (bytes_after run bytes) ≡ after run (queue_of bytes)
unfolding bytes_after after step
calls-mean [] bytes len = refl
calls-mean (post a h ∷ run) bytes len = calls-mean run (bytes_after_post a h bytes) (length-post a h bytes len) ∙ ap (after run) (post-means a h bytes len)
calls-mean (serve ∷ run) bytes len = calls-mean run (bytes_after_serve bytes) (length-serve bytes len) ∙ ap (after run) (serve-means bytes len)

-- from zeros on: the queue, and what a further post and a further serve answer
pub from-zeros : (run : List Event) → queue_of (bytes_after run (replicate 101 0)) ≡ after run empty
from-zeros run = calls-mean run (replicate 101 0) refl ∙ ap (after run) zeros-empty

pub posts-answer : (run : List Event) (a h : ℕ) → post_number a h (queue_of (bytes_after run (replicate 101 0))) ≡ post_number a h (after run empty)
posts-answer run a h = ap (post_number a h) (from-zeros run)

pub serves-answer : (run : List Event) → serve_answer (queue_of (bytes_after run (replicate 101 0))) ≡ serve_answer (after run empty)
serves-answer run = ap serve_answer (from-zeros run)

-- a post changes no byte outside its area
pub post-elsewhere : (a h : ℕ) (b : List ℕ) → length b ≡ 101 → (i : ℕ) → (i < 25 * a) ⊎ (25 * a + 25 ≤ i) → get_or (bytes_after_post a h b) i 0 ≡ get_or b i 0
unfolding bytes_after_post
post-elsewhere a h b len i out = ⊎_elim
    (λ (t : PostTaken a h (queue_of b)). ap (λ (o : Option Outcome). get_or (bytes_unless o a h b) i 0) t.passes ∙ outside b a (hours_at b a ++ (h ∷ [])) len t.area_in (longer t) i out)
    (λ (r : PostRefused a h (queue_of b)). ap (λ (o : Option Outcome). get_or (bytes_unless o a h b) i 0) r.by_row)
    (posting a h (queue_of b))
  where
    longer : PostTaken a h (queue_of b) → Hours (hours_at b a ++ (h ∷ []))
    longer t = unfold queue_of in hours-more h {l = hours_at b a} t.hour-in t.new ((good-bytes b).hours a)

-- BOTH BOUNDS from any 101 bytes
pub any-bytes-within-four : (bytes : List ℕ) (later : List Event) (a : ℕ) → a < 4 → 0 < length ((queue_of bytes).waiting a) → 4 ≤ serves later
    → AreaServedWithin 4 a later (queue_of bytes)
any-bytes-within-four bytes later a l waits m = area-served later a (queue_of bytes) (good-bytes bytes) l waits m

pub any-bytes-within-hundred : (bytes : List ℕ) (later : List Event) (a h : ℕ) → post_number a h (queue_of bytes) ≡ 0 → 100 ≤ serves later
    → ServedWithin 100 (pair a h) later (step (post a h) (queue_of bytes))
unfolding step
any-bytes-within-hundred bytes later a h taken_is m = hour-served later a h (queue_of bytes) (good-bytes bytes) taken_is m
