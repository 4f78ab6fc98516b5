-- NOTHING IS LOST, MADE UP OR OVERTAKEN: an area's hours at the start and those posted are those served and those
-- waiting at the end, in one order. A served hour may be posted again at once. Assumes nothing.
use Rattle.std.specs.Prelude.{◌≡◌, refl, Bool, true, false, cond, ◌&&◌, ℕ, ◌≤◌, ◌<◌, eqb}
use Rattle.std.proofs.Common.{sym, ap, ◌∙◌, subst, ⊎_elim, arith, eq-eqb, ne_eqb}
use Rattle.std.proofs.Math.Bool.{and-false}
use mathlib.Core.List.{List, [], ◌∷◌, ◌++◌, tail, append_assoc, append-nil}
use Rattle.std.proofs.Math.Option.{Option, none, some}
use Rattle.std.proofs.Math.Decide.{ℕ_discrete}
use Rattle.queue_turns.specs.Meaning.Queue.{Queue, among, put, post_number, after_post, Pair, next, without, after_serve}
use Rattle.queue_turns.specs.Meaning.Runs.{Event, post, serve, step, after, servings, posted_in, of_area, hours_of, served_in}
use Rattle.queue_turns.specs.Steps.Invariant.{Hours, also}
use Rattle.queue_turns.proofs.Steps.Invariant.{QueueValid, PostTaken, PostRefused, Heads, posting, next-heads, put-here, put_other, served-first, not-refused, number_by}

-- what a post adds to the hours that an area posted
adds : ℕ → ℕ → ℕ → Queue → List ℕ → List ℕ
adds a b h q l = cond (eqb b a && eqb (post_number b h q) 0) (h ∷ l) l

post-account : (a b h : ℕ) (q : Queue) (l : List ℕ) → q.waiting a ++ adds a b h q l ≡ (after_post b h q).waiting a ++ l
unfolding adds
post-account a b h q l = ⊎_elim now-waits unchanged (posting b h q)
  where
    adds-by : (x : Bool) → (eqb b a && eqb (post_number b h q) 0) ≡ x → q.waiting a ++ adds a b h q l ≡ q.waiting a ++ cond x (h ∷ l) l
    adds-by x e = ap (λ (y : Bool). q.waiting a ++ cond y (h ∷ l) l) e

    unchanged : PostRefused b h q → q.waiting a ++ adds a b h q l ≡ (after_post b h q).waiting a ++ l
    unchanged r =
        adds-by false (ap (λ (y : Bool). eqb b a && y) (ne_eqb (post_number b h q) 0 (λ e. above (post_number b h q) r.some_number e)) ∙ and-false (eqb b a))
        ∙ sym (ap (λ (x : Queue). x.waiting a ++ l) r.unchanged)
      where
        above : (n : ℕ) → 0 < n → n ≡ 0 → ⊥
        above n p e = omega arith

    now-waits : PostTaken b h q → q.waiting a ++ adds a b h q l ≡ (after_post b h q).waiting a ++ l
    now-waits t = by (ℕ_discrete b a)
      where
        more : List ℕ
        more = q.waiting b ++ (h ∷ [])

        by : Dec (b ≡ a) → q.waiting a ++ adds a b h q l ≡ (after_post b h q).waiting a ++ l
        by (yes e) =
            adds-by true (ap (λ (y : Bool). y && eqb (post_number b h q) 0) (eq-eqb b a e) ∙ eq-eqb (post_number b h q) 0 t.number_is)
            ∙ sym (append_assoc (q.waiting a) (h ∷ []) l)
            ∙ ap (λ (x : ℕ). (q.waiting x ++ (h ∷ [])) ++ l) (sym e)
            ∙ sym (ap (λ (x : List ℕ). x ++ l) (put-here b more q.waiting))
            ∙ ap (λ (x : ℕ). put b more q.waiting x ++ l) e
            ∙ sym (ap (λ (x : Queue). x.waiting a ++ l) t.leaves)
        by (no other) =
            adds-by false (ap (λ (y : Bool). y && eqb (post_number b h q) 0) (ne_eqb b a other))
            ∙ sym (ap (λ (x : List ℕ). x ++ l) (put_other b a more q.waiting (λ e. other (sym e))))
            ∙ sym (ap (λ (x : Queue). x.waiting a ++ l) t.leaves)

-- what a serve takes from the front of its area's hours
serve-account : (a : ℕ) (q : Queue) (l : List ℕ) → of_area a (next q) ((after_serve q).waiting a ++ l) ≡ q.waiting a ++ l
unfolding after_serve
serve-account a q l = by (next q) refl
  where
    by : (o : Option Pair) → next q ≡ o → of_area a o ((without o q).waiting a ++ l) ≡ q.waiting a ++ l
    by none e = refl
    by (some p) e = which (ℕ_discrete p.area a) (next-heads q p e)
      where
        rest : List ℕ
        rest = tail (q.waiting p.area)

        which : Dec (p.area ≡ a) → Heads q.waiting p → of_area a (some p) (put p.area rest q.waiting a ++ l) ≡ q.waiting a ++ l
        which (yes f) k =
            ap (λ (x : Bool). cond x (p.hour ∷ (put p.area rest q.waiting a ++ l)) (put p.area rest q.waiting a ++ l)) (eq-eqb p.area a f)
            ∙ ap (λ (x : ℕ). p.hour ∷ (put p.area rest q.waiting x ++ l)) (sym f)
            ∙ ap (λ (x : List ℕ). p.hour ∷ (x ++ l)) (put-here p.area rest q.waiting ∙ ap tail k.first)
            ∙ ap (λ (x : List ℕ). x ++ l) (sym k.first)
            ∙ ap (λ (x : ℕ). q.waiting x ++ l) f
        which (no other) k =
            ap (λ (x : Bool). cond x (p.hour ∷ (put p.area rest q.waiting a ++ l)) (put p.area rest q.waiting a ++ l)) (ne_eqb p.area a other)
            ∙ ap (λ (x : List ℕ). x ++ l) (put_other p.area a rest q.waiting (λ f. other (sym f)))

of-area-append : (a : ℕ) (o : Option Pair) (l m : List ℕ) → of_area a o (l ++ m) ≡ of_area a o l ++ m
of-area-append a none l m = refl
of-area-append a (some p) l m = by (eqb p.area a)
  where
    by : (x : Bool) → cond x (p.hour ∷ (l ++ m)) (l ++ m) ≡ cond x (p.hour ∷ l) l ++ m
    by true = refl
    by false = refl

-- an area's hours after a run from any queue: those waiting and those posted are those served and those waiting
-- then
pub account : (a : ℕ) (run : List Event) (q : Queue) → q.waiting a ++ posted_in a run q ≡ served_in a run q ++ (after run q).waiting a
unfolding posted_in served_in hours_of servings after step adds
account a [] q = append-nil (q.waiting a)
account a (post b h ∷ run) q = post-account a b h q (posted_in a run (after_post b h q)) ∙ account a run (after_post b h q)
account a (serve ∷ run) q =
    sym (serve-account a q (posted_in a run (after_serve q)))
    ∙ ap (λ (l : List ℕ). of_area a (next q) l) (account a run (after_serve q))
    ∙ of-area-append a (next q) (hours_of a (servings run (after_serve q))) ((after run (after_serve q)).waiting a)

-- A SERVED HOUR MAY BE POSTED AGAIN, at once, into the room it left
new-again : {h : ℕ} {rest : List ℕ} → Hours (h ∷ rest) → (among h rest ≡ false) × (h ≤ 24)
new-again (also small new more) = (new, small)

pub post-again : (q : Queue) (p : Pair) → QueueValid q → next q ≡ some p → post_number p.area p.hour (after_serve q) ≡ 0
unfolding after_serve
post-again q p g e =
    let k = next-heads q p e in
    let known = new-again (subst (λ (l : List ℕ). Hours l) k.first (g.hours p.area)) in
    let now-waits : (after_serve q).waiting p.area ≡ k.rest =
    ap (λ (o : Option Pair). (without o q).waiting p.area) e ∙ served-first p q ∙ ap tail k.first in
    number_by p.area p.hour (after_serve q) none
    (not-refused p.area p.hour (after_serve q) (omega (arith, k.area_in)) known.1
    (ap (λ (l : List ℕ). among p.hour l) now-waits ∙ known.0))
