-- FAIRNESS. An hour with p hours before it, in an area that is d areas from its turn, is served within 4p + d + 1
-- serves, whatever else is posted. A serve of another area lowers d, and one of this area lowers p.
-- Assumes nothing.
use Rattle.std.specs.Prelude.{◌≡◌, refl, ◌⊎◌, ℕ, zero, suc, ◌+◌, ◌*◌, ◌-◌, ◌%◌, ◌≤◌, ◌<◌, length}
use Rattle.std.proofs.Common.{sym, ap, ◌∙◌, subst, inl, inr, ⊎_elim, arith}
use mathlib.Core.List.{List, [], ◌∷◌, ◌++◌, tail, append_assoc, head-eq_of_cons-eq}
use Rattle.std.proofs.Math.Option.{Option, none, some, none-ne-some}
use Rattle.std.proofs.Math.Decide.{dec_lt, ℕ_discrete}
use Rattle.queue_turns.specs.Meaning.Queue.{Queue, put, post_number, after_post, pair, in_turn, first_waiting, earliest_else, next, ServeAnswer, serve_answer, after_serve}
use Rattle.queue_turns.specs.Meaning.Runs.{Event, post, serve, step, serves, servings, ServedWithin, AreaServedWithin}
use Rattle.queue_turns.proofs.Steps.Invariant.{QueueValid, PostTaken, PostRefused, posting, taken_of, room, put-here, put_other, taken-last, answer-by, after_next, found_none, good-post, good-serve}

-- ---- if an area that is d areas from its turn has an hour waiting, the next serve takes an area at most as far
-- from its turn

pub record Found (w : ℕ → List ℕ) (n t d : ℕ) : Type 0 where
  pub ahead : ℕ
  pub ahead-le : ahead ≤ d
  pub hour : ℕ
  pub rest : List ℕ
  pub first : w ((t + ahead) % 4) ≡ hour ∷ rest
  pub is : first_waiting w (in_turn n t) ≡ some (pair ((t + ahead) % 4) hour)

mod-here : (t : ℕ) → t % 4 ≡ (t + 0) % 4
mod-here t = ap (λ (x : ℕ). x % 4) (omega arith)

mod-later : (t e : ℕ) → (t + 1 + e) % 4 ≡ (t + (e + 1)) % 4
mod-later t e = ap (λ (x : ℕ). x % 4) (omega arith)

found_here : (w : ℕ → List ℕ) (n t d h : ℕ) (hours : List ℕ) → w (t % 4) ≡ h ∷ hours → Found w (suc n) t d
unfolding first_waiting in_turn
found_here w n t d h hours f = record {
  ahead = 0;
  ahead-le = omega arith;
  hour = h;
  rest = hours;
  first = sym (ap w (mod-here t)) ∙ f;
  is = ap (λ (l : List ℕ). earliest_else (t % 4) l (first_waiting w (in_turn n (t + 1)))) f ∙ ap (λ (a : ℕ). some (pair a h)) (mod-here t);
}

found-later : (w : ℕ → List ℕ) (n t e : ℕ) → w (t % 4) ≡ [] → Found w n (t + 1) e → Found w (suc n) t (e + 1)
unfolding first_waiting in_turn
found-later w n t e f known = record {
  ahead = known.ahead + 1;
  ahead-le = omega (arith, known.ahead-le);
  hour = known.hour;
  rest = known.rest;
  first = sym (ap w (mod-later t known.ahead)) ∙ known.first;
  is =
      ap (λ (l : List ℕ). earliest_else (t % 4) l (first_waiting w (in_turn n (t + 1)))) f
      ∙ known.is
      ∙ ap (λ (a : ℕ). some (pair a known.hour)) (mod-later t known.ahead);
}

nowhere : {l : List ℕ} → l ≡ [] → 0 < length l → ⊥
nowhere e p = let z = ap length e in omega arith

found : (w : ℕ → List ℕ) (n t d : ℕ) → d < n → 0 < length (w ((t + d) % 4)) → Found w n t d
found w zero t d l waits = absurd (none_below l)
  where
    none_below : d < 0 → ⊥
    none_below h = omega arith
found w (suc n) t zero l waits = by (w (t % 4)) refl
  where
    by : (hours : List ℕ) → w (t % 4) ≡ hours → Found w (suc n) t zero
    by (h ∷ hours) f = found_here w n t zero h hours f
    by [] f = absurd (nowhere (sym (ap w (mod-here t)) ∙ f) waits)
found w (suc n) t (suc e) l waits =
    subst (λ (d : ℕ). Found w (suc n) t d) (sym (one_more e))
    (by (w (t % 4)) refl (found w n (t + 1) e (less l)))
  where
    one_more : (k : ℕ) → suc k ≡ k + 1
    one_more k = omega arith

    less : suc e < suc n → e < n
    less h = omega arith

    by : (hours : List ℕ) → w (t % 4) ≡ hours → (0 < length (w ((t + 1 + e) % 4)) → Found w n (t + 1) e) → Found w (suc n) t (e + 1)
    by (h ∷ hours) f later = found_here w n t (e + 1) h hours f
    by [] f later = found-later w n t e f
        (later (subst (λ (a : ℕ). 0 < length (w a)) (sym (mod-later t e ∙ ap (λ (k : ℕ). (t + k) % 4) (sym (one_more e)))) waits))

-- how many areas come before area a in turn
abbrev pub distance : ℕ → ℕ → ℕ
distance t a = (a + 4 - t) % 4

-- ---- the account

-- an hour in an area's list behind some hours, after one event
pub record Stands (a h : ℕ) (before behind : List ℕ) (q : Queue) : Type 0 where
  pub good : QueueValid q
  pub area_in : a < 4
  pub line : q.waiting a ≡ before ++ (h ∷ behind)

-- a post leaves the hour and those before it where they are
stands-post : (b k a h : ℕ) (before behind : List ℕ) (q : Queue) → Stands a h before behind q
    → (more : List ℕ) × Stands a h before more (after_post b k q) × ((after_post b k q).turn ≡ q.turn)
stands-post b k a h before behind q s = ⊎_elim one_more as_it_was (posting b k q)
  where
    as_it_was : PostRefused b k q → (more : List ℕ) × Stands a h before more (after_post b k q) × ((after_post b k q).turn ≡ q.turn)
    as_it_was r = (behind, record { good = good-post b k q s.good; area_in = s.area_in; line = ap (λ (x : Queue). x.waiting a) r.unchanged ∙ s.line }, ap (λ (x : Queue). x.turn) r.unchanged)

    one_more : PostTaken b k q → (more : List ℕ) × Stands a h before more (after_post b k q) × ((after_post b k q).turn ≡ q.turn)
    one_more t = by (ℕ_discrete a b)
      where
        turned : (after_post b k q).turn ≡ q.turn
        turned = ap (λ (x : Queue). x.turn) t.leaves

        by : Dec (a ≡ b) → (more : List ℕ) × Stands a h before more (after_post b k q) × ((after_post b k q).turn ≡ q.turn)
        by (yes e) = (
          behind ++ (k ∷ []),
          record {
            good = good-post b k q s.good;
            area_in = s.area_in;
            line =
                ap (λ (x : Queue). x.waiting a) t.leaves
                ∙ ap (λ (x : ℕ). put b (q.waiting b ++ (k ∷ [])) q.waiting x) e
                ∙ put-here b (q.waiting b ++ (k ∷ [])) q.waiting
                ∙ ap (λ (x : ℕ). q.waiting x ++ (k ∷ [])) (sym e)
                ∙ ap (λ (l : List ℕ). l ++ (k ∷ [])) s.line
                ∙ append_assoc before (h ∷ behind) (k ∷ []);
          },
          turned,
        )
        by (no other) = (
          behind,
          record {
            good = good-post b k q s.good;
            area_in = s.area_in;
            line = ap (λ (x : Queue). x.waiting a) t.leaves ∙ put_other b a (q.waiting b ++ (k ∷ [])) q.waiting other ∙ s.line;
          },
          turned,
        )

-- ---- turns, as numbers

reaches : (t a : ℕ) → t < 4 → a < 4 → (t + distance t a) % 4 ≡ a
reaches t a p q = omega arith

near : (t a : ℕ) → distance t a ≤ 3
near t a = omega arith

apart : (t a e : ℕ) → t < 4 → a < 4 → e < distance t a → a ≡ (t + e) % 4 → ⊥
apart t a e p q l r = omega arith

turned_by : (x : ℕ) → x < 8 → ((x % 4 ≡ x) × (x < 4)) ⊎ ((x % 4 + 4 ≡ x) × (4 ≤ x))
turned_by x l = elim (dec_lt x 4) [ yes p ↦ inl (omega arith, p) | no p ↦ inr (omega arith, omega arith) ]

-- the distance takes the turn to the area, perhaps past area 3
distance_is : (t a : ℕ) → t < 4 → a < 4 → (t + distance t a ≡ a) ⊎ (t + distance t a ≡ a + 4)
distance_is t a p q = elim (dec_lt a t) [ yes l ↦ inr (omega arith) | no l ↦ inl (omega arith) ]

distance-of : (u a k : ℕ) → u < 4 → a < 4 → k < 4 → (u + k ≡ a) ⊎ (u + k ≡ a + 4) → distance u a ≡ k
distance-of u a k p q r (inl e) = omega arith
distance-of u a k p q r (inr e) = omega arith

next-turn : (x : ℕ) → (x % 4 + 1) % 4 ≡ (x + 1) % 4
next-turn x = omega arith

turn_on : (t a d e : ℕ) → t < 4 → a < 4 → d ≤ 3 → e < d → (t + d ≡ a) ⊎ (t + d ≡ a + 4)
    → ((t + e + 1) % 4 + (d - e - 1) ≡ a) ⊎ ((t + e + 1) % 4 + (d - e - 1) ≡ a + 4)
turn_on t a d e p q r l (inl w) = inl (omega arith)
turn_on t a d e p q r l (inr w) = ⊎_elim (λ u. inr (omega arith)) (λ u. inl (omega arith)) (turned_by (t + e + 1) (omega arith))

nearer : (t a e : ℕ) → t < 4 → a < 4 → e < distance t a → distance (((t + e) % 4 + 1) % 4) a < distance t a
nearer t a e p q l = by (distance t a) refl
  where
    by : (d : ℕ) → distance t a ≡ d → distance (((t + e) % 4 + 1) % 4) a < distance t a
    by d f =
        let small : d ≤ 3 = omega (arith, near t a) in
        let less : e < d = subst (λ (x : ℕ). e < x) f l in
        let sums = subst (λ (x : ℕ). (t + x ≡ a) ⊎ (t + x ≡ a + 4)) f (distance_is t a p q) in
        let is = distance-of ((t + e + 1) % 4) a (d - e - 1) (mod-less (t + e + 1)) q (few d small) (turn_on t a d e p q small less sums) in
        let same = ap (λ (u : ℕ). distance u a) (next-turn (t + e)) in
        subst (λ (x : ℕ). x < distance t a) (sym (same ∙ is)) (subst (λ (x : ℕ). d - e - 1 < x) (sym f) (fewer d less))
      where
        mod-less : (x : ℕ) → x % 4 < 4
        mod-less x = omega arith

        few : (d : ℕ) → d ≤ 3 → d - e - 1 < 4
        few d small = omega arith

        fewer : (d : ℕ) → e < d → d - e - 1 < d
        fewer d less = omega arith

-- how many serves an hour may have to wait for, not counting its own
abbrev pub wait : ℕ → List ℕ → Queue → ℕ
wait a before q = 4 * length before + distance q.turn a

-- a serve takes the hour, or leaves it with less to wait for
pub data ServeStep (a h : ℕ) (before behind : List ℕ) (q : Queue) : Type 0 where
  served : next q ≡ some (pair a h) → ServeStep a h before behind q
  closer : (fewer : List ℕ) → Stands a h fewer behind (after_serve q) → wait a fewer (after_serve q) < wait a before q → ServeStep a h before behind q

-- another area is served
step_other : (a h : ℕ) (before behind : List ℕ) (q : Queue) → Stands a h before behind q
    → (e x : ℕ) → e < distance q.turn a → next q ≡ some (pair ((q.turn + e) % 4) x) → ServeStep a h before behind q
step_other a h before behind q s e x l is =
    let b : ℕ = (q.turn + e) % 4 in
    let left = after_next q (some (pair b x)) is in
    closer before (record {
      good = good-serve q s.good;
      area_in = s.area_in;
      line = ap (λ (y : Queue). y.waiting a) left ∙ put_other b a (tail (q.waiting b)) q.waiting (apart q.turn a e s.good.turn_in s.area_in l) ∙ s.line;
    })
    (less (after_serve q).turn (ap (λ (y : Queue). y.turn) left))
  where
    less : (t : ℕ) → t ≡ ((q.turn + e) % 4 + 1) % 4 → 4 * length before + distance t a < wait a before q
    less t r = subst (λ (y : ℕ). 4 * length before + distance y a < wait a before q) (sym r) (omega (arith, nearer q.turn a e s.good.turn_in s.area_in l))

-- this area is served: its first hour goes
step-own : (a h : ℕ) (before behind : List ℕ) (q : Queue) → Stands a h before behind q
    → (x : ℕ) (rest : List ℕ) → q.waiting a ≡ x ∷ rest → next q ≡ some (pair a x) → ServeStep a h before behind q
step-own a h [] behind q s x rest f is = served (is ∙ ap (λ (y : ℕ). some (pair a y)) (head-eq_of_cons-eq (sym f ∙ s.line)))
step-own a h (y ∷ before) behind q s x rest f is =
    let left = after_next q (some (pair a x)) is in
    closer before (record {
      good = good-serve q s.good;
      area_in = s.area_in;
      line = ap (λ (z : Queue). z.waiting a) left ∙ put-here a (tail (q.waiting a)) q.waiting ∙ ap tail s.line;
    })
    (omega (arith, near (after_serve q).turn a))

pub serve-step : (a h : ℕ) (before behind : List ℕ) (q : Queue) → Stands a h before behind q → ServeStep a h before behind q
unfolding next
serve-step a h before behind q s = by (found q.waiting 4 q.turn d (omega (arith, near q.turn a)) waits)
  where
    d : ℕ
    d = distance q.turn a

    there : (q.turn + d) % 4 ≡ a
    there = reaches q.turn a s.good.turn_in s.area_in

    some-hours : (l : List ℕ) → 0 < length (l ++ (h ∷ behind))
    some-hours [] = omega arith
    some-hours (x ∷ l) = omega arith

    waits : 0 < length (q.waiting ((q.turn + d) % 4))
    waits = subst (λ (l : List ℕ). 0 < length l) (sym (ap q.waiting there ∙ s.line)) (some-hours before)

    by : Found q.waiting 4 q.turn d → ServeStep a h before behind q
    by f = which (dec_lt f.ahead d)
      where
        is : next q ≡ some (pair ((q.turn + f.ahead) % 4) f.hour)
        is = f.is

        which : Dec (f.ahead < d) → ServeStep a h before behind q
        which (yes l) = step_other a h before behind q s f.ahead f.hour l is
        which (no l) =
            let same : f.ahead ≡ d = omega (arith, f.ahead-le) in
            let own : (q.turn + f.ahead) % 4 ≡ a = ap (λ (k : ℕ). (q.turn + k) % 4) same ∙ there in
            step-own a h before behind q s f.hour f.rest (sym (ap q.waiting own) ∙ f.first) (is ∙ ap (λ (b : ℕ). some (pair b f.hour)) own)

-- AN HOUR IS SERVED IN TIME: with p hours before it, d areas from its turn, within any n serves above 4p + d,
-- whatever else the run does
pub due : (run : List Event) (n a h : ℕ) (before behind : List ℕ) (q : Queue) → Stands a h before behind q → wait a before q < n → n ≤ serves run
    → ServedWithin n (pair a h) run q
unfolding serves servings step
due [] n a h before behind q s l m = absurd (never l m)
  where
    never : wait a before q < n → n ≤ 0 → ⊥
    never x y = omega arith
due (post b k ∷ run) n a h before behind q s l m =
    let kept = stands-post b k a h before behind q s in
    let r = due run n a h before kept.0 (after_post b k q) kept.1 (subst (λ (t : ℕ). 4 * length before + distance t a < n) (sym kept.2) l) m in
    record { place = r.place; within = r.within; serving = r.serving }
due (serve ∷ run) zero a h before behind q s l m = absurd (never l)
  where
    never : wait a before q < 0 → ⊥
    never x = omega arith
due (serve ∷ run) (suc n) a h before behind q s l m =
    by (serve-step a h before behind q s) (λ fewer t c. due run n a h fewer behind (after_serve q) t c (less m))
  where
    less : suc n ≤ suc (serves run) → n ≤ serves run
    less x = omega arith

    by : ServeStep a h before behind q
        → ((fewer : List ℕ) → Stands a h fewer behind (after_serve q) → wait a fewer (after_serve q) < n → ServedWithin n (pair a h) run (after_serve q))
        → ServedWithin (suc n) (pair a h) (serve ∷ run) q
    by (served e) later = record { place = 0; within = omega arith; serving = e }
    by (closer fewer t c) later =
        let r = later fewer t (omega (arith, c, l)) in
        record { place = suc r.place; within = omega (arith, r.within); serving = r.serving }

-- ---- in any good queue: an area with an hour waiting is served within four serves
pub area-served : (run : List Event) (a : ℕ) (q : Queue) → QueueValid q → a < 4 → 0 < length (q.waiting a) → 4 ≤ serves run → AreaServedWithin 4 a run q
area-served run a q g l waits m = by (q.waiting a) refl waits
  where
    by : (hours : List ℕ) → q.waiting a ≡ hours → 0 < length hours → AreaServedWithin 4 a run q
    by [] e w = absurd (nowhere {l = []} refl w)
    by (h ∷ hours) e w = record {
      hour = h;
      served = due run 4 a h [] hours q (record { good = g; area_in = l; line = e }) (omega (arith, near q.turn a)) m;
    }

-- and an hour that was posted within one hundred
pub hour-served : (run : List Event) (a h : ℕ) (q : Queue) → QueueValid q → post_number a h q ≡ 0 → 100 ≤ serves run
    → ServedWithin 100 (pair a h) run (after_post a h q)
hour-served run a h q g taken_is m =
    let t = taken_of a h q taken_is in
    due run 100 a h (q.waiting a) [] (after_post a h q)
    (record {
      good = good-post a h q g;
      area_in = t.area_in;
      line = ap (λ (x : Queue). x.waiting a) t.leaves ∙ taken-last a h q;
    })
    (omega (arith, near (after_post a h q).turn a, room h t.hour-in t.new (g.hours a)))
    m

-- ---- 64: only, and always, when no area has an hour waiting

all-empty : (w : ℕ → List ℕ) (n t : ℕ) → ((a : ℕ) → a < 4 → w a ≡ []) → first_waiting w (in_turn n t) ≡ none
unfolding first_waiting in_turn
all-empty w zero t e = refl
all-empty w (suc n) t e = ap (λ (l : List ℕ). earliest_else (t % 4) l (first_waiting w (in_turn n (t + 1)))) (e (t % 4) (omega arith)) ∙ all-empty w n (t + 1) e

-- a serve answers 64
pub nothing-found : (q : Queue) → ((a : ℕ) → a < 4 → q.waiting a ≡ []) → (serve_answer q).number ≡ 64
unfolding next
nothing-found q e = ap (λ (x : ServeAnswer). x.number) (answer-by q none (all-empty q.waiting 4 q.turn e))

pub nothing-waits : (q : Queue) → QueueValid q → (serve_answer q).number ≡ 64 → (a : ℕ) → a < 4 → q.waiting a ≡ []
unfolding next
nothing-waits q g e a l = by (q.waiting a) refl
  where
    by : (hours : List ℕ) → q.waiting a ≡ hours → hours ≡ []
    by [] f = refl
    by (h ∷ hours) f = absurd (some-found
        (found q.waiting 4 q.turn (distance q.turn a) (omega (arith, near q.turn a))
        (subst (λ (l : List ℕ). 0 < length l) (sym (ap q.waiting (reaches q.turn a g.turn_in l) ∙ f)) (omega arith))))
      where
        some-found : Found q.waiting 4 q.turn (distance q.turn a) → ⊥
        some-found k = none-ne-some (pair ((q.turn + k.ahead) % 4) k.hour) (sym (found_none q e) ∙ k.is)
