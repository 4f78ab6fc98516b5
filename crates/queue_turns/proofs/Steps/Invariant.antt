-- THE INVARIANT of the queue: an area's waiting hours are from 0 to 24 and differ. So there are at most 25 of them,
-- and a post that is not refused always finds room. Assumes nothing.
use Rattle.std.specs.Prelude.{◌≡◌, refl, Bool, true, false, cond, ◌||◌, ◌⊎◌, ℕ, zero, suc, ◌+◌, ◌%◌, ◌≤◌, ◌<◌, eqb, length}
use Rattle.std.proofs.Common.{sym, ◌∙◌, subst, true≢false, inl, inr, ⊎_elim, arith, eq-eqb, ne_eqb, lt-ltb, le-ltb, length-append}
use Rattle.std.proofs.Math.Path.{ap}
use mathlib.Core.List.{List, [], ◌∷◌, ◌++◌, tail}
use Rattle.std.proofs.Math.Option.{Option, none, some, none-ne-some, some-injective}
use Rattle.std.proofs.Math.Decide.{dec_lt}
use Rattle.std.proofs.lemmas.Bool.{eqb-false}
use Rattle.base_integers.specs.Meaning.NaturalSums.{sum_nat, only}
use Rattle.base_integers.specs.Steps.NaturalSums.{sum-zero, sum_one, sum_bound, only-le}
use Rattle.base_causes.specs.declared.Outcome.{Outcome}
use Rattle.base_causes.specs.Meaning.Causes.{verdict, refusal, answer}
use Rattle.base_causes.proofs.Promised.CauseLaws.{field-passes, field-fails}
use Rattle.queue_turns.specs.Meaning.Queue.{Queue, empty, among, put, post_causes, post_number, taken, taken_unless, after_post, Pair, pair, in_turn, first_waiting, earliest_else, next, is_none, serve_causes, ServeAnswer, pair_else, answer_with, serve_answer, without, after_serve}
use Rattle.queue_turns.specs.Meaning.Runs.{Event, post, serve, step, after}
use Rattle.queue_turns.specs.Steps.Invariant.{Hours, also, nothing}

pub record QueueValid (q : Queue) : Type 0 where
  pub turn_in : q.turn < 4
  pub hours : (a : ℕ) → Hours (q.waiting a)

-- a list of different hours is as long as the count of numbers below 25 in it
counted : {l : List ℕ} → Hours l → sum_nat 25 (λ k. only (among k l) 1) ≡ length l
unfolding among
counted nothing = sum-zero 25
counted (also {h = h} {hours = l} small new rest) =
    let more = sum_one 25 h (λ k. only (among k l) 1) (λ k. only (among k (h ∷ l)) 1) (omega arith)
    (λ i p other. ap (λ (b : Bool). only (b || among i l) 1) (ne_eqb h i (λ e. other (sym e)))) in
    let here : only (among h (h ∷ l)) 1 ≡ 1 = ap (λ (b : Bool). only (b || among h l) 1) (eq-eqb h h refl) in
    let before : only (among h l) 1 ≡ 0 = ap (λ (b : Bool). only b 1) new in
    omega (arith, more, here, before, counted rest)

-- at most 25
pub at-most-25 : {l : List ℕ} → Hours l → length l ≤ 25
at-most-25 {l} g = omega (arith, counted g, sum_bound 25 1 (λ k. only (among k l) 1) (λ k b. only-le (among k l) 1))

-- ---- a list with one hour more, and without its first

pub or_parts : (a b : Bool) → (a || b) ≡ false → (a ≡ false) × (b ≡ false)
or_parts true b e = absurd (true≢false e)
or_parts false b e = (refl, e)

or-both : {a b : Bool} → a ≡ false → b ≡ false → (a || b) ≡ false
or-both {a} {b} p q = ap (λ (x : Bool). x || b) p ∙ q

-- another hour is among the longer list only if it was among the shorter
among-more : (x h : ℕ) (l : List ℕ) → among x l ≡ false → (h ≡ x → ⊥) → among x (l ++ (h ∷ [])) ≡ false
unfolding among
among-more x h [] new other = or-both (ne_eqb h x other) refl
among-more x h (y ∷ l) new other =
    let parts = or_parts (eqb y x) (among x l) new in
    or-both parts.0 (among-more x h l parts.1 other)

pub hours-more : (h : ℕ) {l : List ℕ} → h ≤ 24 → among h l ≡ false → Hours l → Hours (l ++ (h ∷ []))
unfolding among
hours-more h small new nothing = also small refl nothing
hours-more h small new (also {h = x} {hours = l} s n rest) =
    let parts = or_parts (eqb x h) (among h l) new in
    also s (among-more x h l n (λ e. eqb-false x h parts.0 (sym e))) (hours-more h small parts.1 rest)

pub hours-less : {l : List ℕ} → Hours l → Hours (tail l)
hours-less nothing = nothing
hours-less (also s n rest) = rest

-- THERE IS ALWAYS ROOM: an hour that is not among an area's waiting hours finds fewer than 25
pub room : {l : List ℕ} (h : ℕ) → h ≤ 24 → among h l ≡ false → Hours l → length l < 25
room {l} h small new g = omega (arith, at-most-25 (hours-more h small new g), length-append l (h ∷ []))

-- ---- a post: which row refuses it

pub row-end : refusal [] ≡ none
unfolding refusal
row-end = refl

module _ (a h : ℕ) (q : Queue) where
  pub refused-61 : 3 < a → refusal (post_causes a h q) ≡ some (verdict 61 0)
  unfolding post_causes
  refused-61 p = field-fails 61 0 _ (lt-ltb _ a (omega arith))

  pub refused-62 : a ≤ 3 → 24 < h → refusal (post_causes a h q) ≡ some (verdict 62 0)
  unfolding post_causes
  refused-62 p r = field-passes 61 0 _ (le-ltb _ a (omega arith)) ∙ field-fails 62 0 _ (lt-ltb _ h (omega arith))

  pub refused-63 : a ≤ 3 → h ≤ 24 → among h (q.waiting a) ≡ true → refusal (post_causes a h q) ≡ some (verdict 63 0)
  unfolding post_causes
  refused-63 p r s = field-passes 61 0 _ (le-ltb _ a (omega arith)) ∙ field-passes 62 0 _ (le-ltb _ h (omega arith)) ∙ field-fails 63 0 _ s

  pub not-refused : a ≤ 3 → h ≤ 24 → among h (q.waiting a) ≡ false → refusal (post_causes a h q) ≡ none
  unfolding post_causes
  not-refused p r s = field-passes 61 0 _ (le-ltb _ a (omega arith)) ∙ field-passes 62 0 _ (le-ltb _ h (omega arith)) ∙ field-passes 63 0 _ s ∙ row-end

  pub number_by : (o : Option Outcome) → refusal (post_causes a h q) ≡ o → post_number a h q ≡ (answer o).number
  unfolding post_number
  number_by o e = ap (λ (x : Option Outcome). (answer x).number) e

  -- and what it leaves
  pub after-by : (o : Option Outcome) → refusal (post_causes a h q) ≡ o → after_post a h q ≡ taken_unless o a h q
  unfolding after_post
  after-by o e = ap (λ (x : Option Outcome). taken_unless x a h q) e

-- a post is taken, or refused with a number other than 0
pub record PostTaken (a h : ℕ) (q : Queue) : Type 0 where
  pub area_in : a < 4
  pub hour-in : h ≤ 24
  pub new : among h (q.waiting a) ≡ false
  pub passes : refusal (post_causes a h q) ≡ none
  pub number_is : post_number a h q ≡ 0
  pub leaves : after_post a h q ≡ taken a h q

pub record PostRefused (a h : ℕ) (q : Queue) : Type 0 where
  pub outcome : Outcome
  pub by_row : refusal (post_causes a h q) ≡ some outcome
  pub some_number : 0 < post_number a h q
  pub unchanged : after_post a h q ≡ q

pub posting : (a h : ℕ) (q : Queue) → PostTaken a h q ⊎ PostRefused a h q
posting a h q = by (dec_lt 3 a) (dec_lt 24 h) (among h (q.waiting a)) refl
  where
    refused : (n : ℕ) → 0 < n → refusal (post_causes a h q) ≡ some (verdict n 0) → PostRefused a h q
    refused n pos e = record { outcome = verdict n 0; by_row = e; some_number = omega (arith, number_by a h q (some (verdict n 0)) e); unchanged = after-by a h q (some (verdict n 0)) e }

    by : Dec (3 < a) → Dec (24 < h) → (z : Bool) → among h (q.waiting a) ≡ z → PostTaken a h q ⊎ PostRefused a h q
    by (yes p) y z s = inr (refused 61 (omega arith) (refused-61 a h q p))
    by (no p) (yes r) z s = inr (refused 62 (omega arith) (refused-62 a h q (omega arith) r))
    by (no p) (no r) true s = inr (refused 63 (omega arith) (refused-63 a h q (omega arith) (omega arith) s))
    by (no p) (no r) false s =
        let e = not-refused a h q (omega arith) (omega arith) s in
        inl (record { area_in = omega arith; hour-in = omega arith; new = s; passes = e; number_is = number_by a h q none e; leaves = after-by a h q none e })

-- the number 0 is only for a post that is taken
pub taken_of : (a h : ℕ) (q : Queue) → post_number a h q ≡ 0 → PostTaken a h q
taken_of a h q e = ⊎_elim (λ (t : PostTaken a h q). t) (λ (r : PostRefused a h q). absurd (never r.some_number)) (posting a h q)
  where
    never : 0 < post_number a h q → ⊥
    never p = omega (arith, e)

-- ---- a serve: what it takes was waiting, first

pub record Heads (w : ℕ → List ℕ) (p : Pair) : Type 0 where
  pub rest : List ℕ
  pub first : w p.area ≡ p.hour ∷ rest
  pub area_in : p.area < 4

heads-of : (w : ℕ → List ℕ) (n t : ℕ) (p : Pair) → first_waiting w (in_turn n t) ≡ some p → Heads w p
unfolding first_waiting in_turn
heads-of w zero t p e = absurd (none-ne-some p e)
heads-of w (suc n) t p e = by (w (t % 4)) refl (λ f. heads-of w n (t + 1) p f)
  where
    by : (l : List ℕ) → w (t % 4) ≡ l → (first_waiting w (in_turn n (t + 1)) ≡ some p → Heads w p) → Heads w p
    by [] f later = later (sym (ap (λ (l : List ℕ). earliest_else (t % 4) l (first_waiting w (in_turn n (t + 1)))) f) ∙ e)
    by (h ∷ hours) f later =
        let same : pair (t % 4) h ≡ p = some-injective (pair (t % 4) h) p (sym (ap (λ (l : List ℕ). earliest_else (t % 4) l (first_waiting w (in_turn n (t + 1)))) f) ∙ e) in
        subst (λ (x : Pair). Heads w x) same (record { rest = hours; first = f; area_in = omega arith })

pub next-heads : (q : Queue) (p : Pair) → next q ≡ some p → Heads q.waiting p
unfolding next
next-heads q p e = heads-of q.waiting 4 _ p e

-- ---- a serve: its answer and what it leaves, by what it finds

abbrev pub answer_by : Option Pair → ServeAnswer
answer_by none = record { number = 64; index = 0; area = 0; hour = 0 }
answer_by (some p) = record { number = 0; index = 0; area = p.area; hour = p.hour }

pub answer-by : (q : Queue) (o : Option Pair) → next q ≡ o → serve_answer q ≡ answer_by o
unfolding serve_answer serve_causes
answer-by q none e =
    ap (λ (x : Option Outcome). answer_with (answer x) (pair_else (next q))) (field-fails 64 0 [] (ap is_none e))
    ∙ ap (λ (x : Option Pair). answer_with (verdict 64 0) (pair_else x)) e
answer-by q (some p) e =
    ap (λ (x : Option Outcome). answer_with (answer x) (pair_else (next q))) (field-passes 64 0 [] (ap is_none e) ∙ row-end)
    ∙ ap (λ (x : Option Pair). answer_with (verdict 0 0) (pair_else x)) e

pub after_next : (q : Queue) (o : Option Pair) → next q ≡ o → after_serve q ≡ without o q
unfolding after_serve
after_next q o e = ap (λ (x : Option Pair). without x q) e

-- the number 64 means that nothing is found, and conversely
pub found_none : (q : Queue) → (serve_answer q).number ≡ 64 → next q ≡ none
found_none q e = by (next q) refl
  where
    by : (o : Option Pair) → next q ≡ o → next q ≡ none
    by none f = f
    by (some p) f = absurd (never (ap (λ (x : ServeAnswer). x.number) (answer-by q (some p) f)))
      where
        never : (serve_answer q).number ≡ 0 → ⊥
        never z = omega (arith, e)

-- ---- the invariant holds of the empty queue and through every event

pub put-here : (a : ℕ) (l : List ℕ) (w : ℕ → List ℕ) → put a l w a ≡ l
put-here a l w = ap (λ (b : Bool). cond b l (w a)) (eq-eqb a a refl)

pub put_other : (a b : ℕ) (l : List ℕ) (w : ℕ → List ℕ) → (b ≡ a → ⊥) → put a l w b ≡ w b
put_other a b l w other = ap (λ (x : Bool). cond x l (w b)) (ne_eqb b a other)

-- a taken hour waits behind those posted before it, and a served one waits no more
pub taken-last : (a h : ℕ) (q : Queue) → (taken a h q).waiting a ≡ q.waiting a ++ (h ∷ [])
taken-last a h q = put-here a (q.waiting a ++ (h ∷ [])) q.waiting

pub served-first : (p : Pair) (q : Queue) → (without (some p) q).waiting p.area ≡ tail (q.waiting p.area)
served-first p q = put-here p.area (tail (q.waiting p.area)) q.waiting

hours-put : (a : ℕ) (l : List ℕ) (w : ℕ → List ℕ) → Hours l → ((b : ℕ) → Hours (w b)) → (b : ℕ) → Hours (put a l w b)
hours-put a l w g all b = by (eqb b a)
  where
    by : (x : Bool) → Hours (cond x l (w b))
    by true = g
    by false = all b

pub good-empty : QueueValid empty
good-empty = record { turn_in = omega arith; hours = λ a. nothing }

pub good-taken : (a h : ℕ) (q : Queue) → h ≤ 24 → among h (q.waiting a) ≡ false → QueueValid q → QueueValid (taken a h q)
good-taken a h q small new g = record {
  turn_in = g.turn_in;
  hours = hours-put a (q.waiting a ++ (h ∷ [])) q.waiting (hours-more h small new (g.hours a)) g.hours;
}

pub good-without : (o : Option Pair) (q : Queue) → QueueValid q → QueueValid (without o q)
good-without none q g = g
good-without (some p) q g = record {
  turn_in = omega arith;
  hours = hours-put p.area (tail (q.waiting p.area)) q.waiting (hours-less (g.hours p.area)) g.hours;
}

pub good-post : (a h : ℕ) (q : Queue) → QueueValid q → QueueValid (after_post a h q)
good-post a h q g = ⊎_elim
    (λ (t : PostTaken a h q). subst (λ (x : Queue). QueueValid x) (sym t.leaves) (good-taken a h q t.hour-in t.new g))
    (λ (r : PostRefused a h q). subst (λ (x : Queue). QueueValid x) (sym r.unchanged) g)
    (posting a h q)

pub good-serve : (q : Queue) → QueueValid q → QueueValid (after_serve q)
unfolding after_serve
good-serve q g = good-without (next q) q g

pub good-step : (e : Event) (q : Queue) → QueueValid q → QueueValid (step e q)
unfolding step
good-step (post a h) q g = good-post a h q g
good-step serve q g = good-serve q g

pub good-after : (run : List Event) (q : Queue) → QueueValid q → QueueValid (after run q)
unfolding after
good-after [] q g = g
good-after (e ∷ run) q g = good-after run (step e q) (good-step e q g)
