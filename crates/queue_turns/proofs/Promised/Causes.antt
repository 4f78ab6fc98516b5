-- The numbers in the order asked; a refusal is given for its own cause and no other and leaves the queue unchanged;
-- each number in plain terms. All this holds for any queue, reached by a run or not. Assumes nothing.
use Rattle.std.specs.Prelude.{◌≡◌, true, false, List, [], ◌∷◌, ℕ, ◌≤◌, ◌<◌, T, get_or}
use Rattle.std.proofs.Math.Path.{refl}
use Rattle.std.proofs.Common.{⊎_elim, arith}
use Rattle.std.proofs.Math.Option.{none, some}
use Rattle.base_causes.proofs.Promised.Asked.{unnamed, ask, Asks}
use Rattle.base_causes.specs.Meaning.Causes.{Cause, verdict, refusal, answer}
use Rattle.base_causes.proofs.Promised.CauseLaws.{empty, Answered, answered, Soonest, soonest, lacks}
use Rattle.queue_turns.specs.Meaning.Queue.{Queue, among, post_causes, post_number, after_post, Pair, next, serve_causes, serve_answer, after_serve}
use Rattle.queue_turns.proofs.Steps.Invariant.{PostTaken, PostRefused, posting, refused-61, refused-62, refused-63, not-refused, number_by, answer-by, after_next, found_none}

module _ (a h : ℕ) (q : Queue) where
  abbrev rows : List Cause
  rows = post_causes a h q

  -- 61, 62, 63, in this order, none with an index
  pub post-order : Asks rows (ask 61 unnamed ∷ ask 62 unnamed ∷ ask 63 unnamed ∷ [])
  unfolding post_causes
  post-order = (refl, (λ k. refl, (refl, (λ k. refl, (refl, (λ k. refl, tt))))))

  -- 0 if and only if no row fails, else the first that fails and no other
  pub post-answers : Answered rows (answer (refusal rows))
  unfolding post_causes lacks
  post-answers = answered rows tt

  -- if a cause holds, in row j, it is not asked before the answer's
  pub post-first : (j k : ℕ) → k < (get_or rows j empty).places → T ((get_or rows j empty).fails k) → Soonest rows (answer (refusal rows)) j k
  post-first j k l f = soonest rows j k l f

  -- in plain terms: exactly one of these four applies to a post
  pub is-61 : 3 < a → post_number a h q ≡ 61
  is-61 p = number_by a h q (some (verdict 61 0)) (refused-61 a h q p)

  pub is-62 : a ≤ 3 → 24 < h → post_number a h q ≡ 62
  is-62 p l = number_by a h q (some (verdict 62 0)) (refused-62 a h q p l)

  pub is-63 : a ≤ 3 → h ≤ 24 → among h (q.waiting a) ≡ true → post_number a h q ≡ 63
  is-63 p l w = number_by a h q (some (verdict 63 0)) (refused-63 a h q p l w)

  pub is-taken : a ≤ 3 → h ≤ 24 → among h (q.waiting a) ≡ false → post_number a h q ≡ 0
  is-taken p l w = number_by a h q none (not-refused a h q p l w)

  -- "the queue unchanged"
  pub refused-post-unchanged : 0 < post_number a h q → after_post a h q ≡ q
  refused-post-unchanged p = ⊎_elim (λ (t : PostTaken a h q). absurd (never t.number_is)) (λ (r : PostRefused a h q). r.unchanged) (posting a h q)
    where
      never : post_number a h q ≡ 0 → ⊥
      never e = omega arith

module _ (q : Queue) where
  pub serve-order : Asks (serve_causes q) (ask 64 unnamed ∷ [])
  unfolding serve_causes
  serve-order = (refl, (λ k. refl, tt))

  pub serve-answers : Answered (serve_causes q) (verdict (serve_answer q).number (serve_answer q).index)
  unfolding serve_answer serve_causes lacks
  serve-answers = answered (serve_causes q) tt

  -- a serve answers what it finds
  pub serve-finds : (p : Pair) → next q ≡ some p → serve_answer q ≡ record { number = 0; index = 0; area = p.area; hour = p.hour }
  serve-finds p e = answer-by q (some p) e

  -- 64 has area 0 and hour 0, and leaves "the queue unchanged"
  pub refused-serve : (serve_answer q).number ≡ 64 → serve_answer q ≡ record { number = 64; index = 0; area = 0; hour = 0 }
  refused-serve e = answer-by q none (found_none q e)

  pub refused-serve-unchanged : (serve_answer q).number ≡ 64 → after_serve q ≡ q
  refused-serve-unchanged e = after_next q none (found_none q e)
