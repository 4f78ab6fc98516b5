-- THE BYTES THAT CALLS LEAVE, from zeros on: in each area the cells of its waiting hours in order, then free ones; and
-- a turn below 4. Assumes nothing.
use Rattle.std.specs.Prelude.{◌≡◌, refl, ◌≢◌, ℕ, zero, suc, ◌+◌, ◌*◌, ◌-◌, ◌%◌, ◌≤◌, ◌<◌, length, get_or, set, replicate}
use Rattle.std.proofs.Common.{sym, ◌∙◌, subst, ⊎_elim, arith, length-set, get_or-set_other, get_or-set_same}
use Rattle.std.proofs.Math.Path.{ap}
use mathlib.Core.List.{List, [], ◌∷◌, ◌++◌, map, tail}
use Rattle.std.proofs.Math.Option.{Option, none, some}
use Rattle.std.proofs.Math.Decide.{ℕ_discrete}
use Rattle.base_causes.specs.declared.Outcome.{Outcome}
use Rattle.queue_turns.specs.Meaning.Queue.{Queue, Pair, next}
use Rattle.queue_turns.specs.Meaning.Runs.{Event, post, serve}
use Rattle.queue_turns.specs.Steps.Invariant.{Hours}
use Rattle.queue_turns.proofs.Steps.Invariant.{PostTaken, PostRefused, posting, hours-more, hours-less, next-heads, put-here, put_other}
use Rattle.queue_bytes.specs.Meaning.Bytes.{cells_of, cells_at, hours_at, queue_of, with_hours, bytes_unless, bytes_after_post, bytes_without, bytes_after_serve, bytes_after}
use Rattle.queue_bytes.proofs.Steps.ReadBack.{good-bytes, cells_agree, length-with, cells-own, cells-other, hours-at-with, turn-with, hours-turned}
use Rattle.queue_bytes.proofs.Steps.ReadBack.{zeros-empty}

pub record Tidied (b : List ℕ) : Type 0 where
  pub long : length b ≡ 101
  pub cells : (c : ℕ) → c < 4 → cells_at b c ≡ cells_of (hours_at b c)
  pub turn_in : get_or b 100 0 < 4

tidied-with : (b : List ℕ) (a : ℕ) (l : List ℕ) → a < 4 → Hours l → Tidied b → Tidied (with_hours b a l)
tidied-with b a l m g t = record {
  long = length-with b a l t.long m g;
  cells = λ c k. by c k (ℕ_discrete c a);
  turn_in = subst (λ (n : ℕ). n < 4) (sym (turn-with b a l t.long m g)) t.turn_in;
}
  where
    own : cells_at (with_hours b a l) a ≡ cells_of (hours_at (with_hours b a l) a)
    own = cells-own b a l t.long m g ∙ ap cells_of (sym (hours-at-with b a l t.long m g a ∙ put-here a l (hours_at b)))

    by : (c : ℕ) → c < 4 → Dec (c ≡ a) → cells_at (with_hours b a l) c ≡ cells_of (hours_at (with_hours b a l) c)
    by c k (yes e) = subst (λ (x : ℕ). cells_at (with_hours b a l) x ≡ cells_of (hours_at (with_hours b a l) x)) (sym e) own
    by c k (no n) = cells-other b a l t.long m g c k n ∙ t.cells c k ∙ ap cells_of (sym (hours-at-with b a l t.long m g c ∙ put_other a c l (hours_at b) n))

tidied-turned : (b : List ℕ) (n : ℕ) → n < 4 → Tidied b → Tidied (set b 100 n)
tidied-turned b n m t = record {
  long = length-set b 100 n ∙ t.long;
  cells = λ c k. cells_agree (set b 100 n) b c (length-set b 100 n ∙ t.long) t.long k (λ i l. get_or-set_other b 100 (25 * c + i) n 0 (below c i k l)) ∙ t.cells c k ∙ ap cells_of (sym (hours-turned b n t.long m c));
  turn_in = subst (λ (x : ℕ). x < 4) (sym (get_or-set_same b 100 n 0 (omega (arith, t.long)))) m;
}
  where
    below : (c i : ℕ) → c < 4 → i < 25 → 25 * c + i ≢ 100
    below c i k l e = omega (arith, k, l, e)

pub tidied-post : (a h : ℕ) (b : List ℕ) → Tidied b → Tidied (bytes_after_post a h b)
unfolding bytes_after_post
tidied-post a h b t = ⊎_elim
    (λ (w : PostTaken a h (queue_of b)). subst (λ (o : Option Outcome). Tidied (bytes_unless o a h b)) (sym w.passes) (tidied-with b a (hours_at b a ++ (h ∷ [])) w.area_in (longer w) t))
    (λ (r : PostRefused a h (queue_of b)). subst (λ (o : Option Outcome). Tidied (bytes_unless o a h b)) (sym r.by_row) t)
    (posting a h (queue_of b))
  where
    longer : PostTaken a h (queue_of b) → Hours (hours_at b a ++ (h ∷ []))
    longer w = unfold queue_of in hours-more h {l = hours_at b a} w.hour-in w.new ((good-bytes b).hours a)

pub tidied-serve : (b : List ℕ) → Tidied b → Tidied (bytes_after_serve b)
unfolding bytes_after_serve
tidied-serve b t = by (next (queue_of b)) refl
  where
    by : (o : Option Pair) → next (queue_of b) ≡ o → Tidied (bytes_without o b)
    by none e = t
    by (some p) e = tidied-turned (with_hours b p.area (tail (hours_at b p.area))) ((p.area + 1) % 4) (omega arith)
        (tidied-with b p.area (tail (hours_at b p.area)) (next-heads (queue_of b) p e).area_in (unfold queue_of in hours-less ((good-bytes b).hours p.area)) t)

pub tidied-zeros : Tidied (replicate 101 0)
unfolding cells_of
tidied-zeros = record { long = refl; cells = λ c l. free c l ∙ ap cells_of (sym (none-waits c)); turn_in = omega arith }
  where
    none-waits : (c : ℕ) → hours_at (replicate 101 0) c ≡ []
    none-waits c = unfold queue_of in ap (λ (q : Queue). q.waiting c) zeros-empty

    free : (c : ℕ) → c < 4 → cells_at (replicate 101 0) c ≡ replicate 25 0
    free zero l = refl
    free (suc zero) l = refl
    free (suc (suc zero)) l = refl
    free (suc (suc (suc zero))) l = refl
    free (suc (suc (suc (suc c)))) l = absurd (omega (arith, l))

pub tidied-after : (run : List Event) (b : List ℕ) → Tidied b → Tidied (bytes_after run b)
unfolding bytes_after
tidied-after [] b t = t
tidied-after (post a h ∷ run) b t = tidied-after run (bytes_after_post a h b) (tidied-post a h b t)
tidied-after (serve ∷ run) b t = tidied-after run (bytes_after_serve b) (tidied-serve b t)

-- the cells of some hours, one by one
in_cells : (l rest : List ℕ) (k : ℕ) → k < length l → get_or (map (λ h. h + 1) l ++ rest) k 0 ≡ get_or l k 0 + 1
in_cells [] rest k m = absurd (none_below m)
  where
    none_below : k < 0 → ⊥
    none_below m = omega arith
in_cells (h ∷ l) rest zero m = refl
in_cells (h ∷ l) rest (suc k) m = in_cells l rest k (omega (arith, m))

past-cells : (l rest : List ℕ) (k : ℕ) → ((j : ℕ) → get_or rest j 0 ≡ 0) → length l ≤ k → get_or (map (λ h. h + 1) l ++ rest) k 0 ≡ 0
past-cells [] rest k f m = f k
past-cells (h ∷ l) rest zero f m = absurd (above m)
  where
    above : suc (length l) ≤ 0 → ⊥
    above m = omega arith
past-cells (h ∷ l) rest (suc k) f m = past-cells l rest k f (omega (arith, m))

zeros : (n k : ℕ) → ◌≡◌ {A = ℕ} (get_or (replicate n 0) k 0) 0
zeros zero k = refl
zeros (suc n) zero = refl
zeros (suc n) (suc k) = zeros n k

pub cell-hour : (l : List ℕ) (k : ℕ) → k < length l → get_or (cells_of l) k 0 ≡ get_or l k 0 + 1
unfolding cells_of
cell-hour l k m = in_cells l (replicate (25 - length l) 0) k m

pub cell_free : (l : List ℕ) (k : ℕ) → length l ≤ k → get_or (cells_of l) k 0 ≡ 0
unfolding cells_of
cell_free l k m = past-cells l (replicate (25 - length l) 0) k (zeros (25 - length l)) m
