-- What the code answers and leaves, against the definitions: a refused post, one that is taken, a serve that finds
-- nothing, and one that takes an hour. Assumes nothing.
use Rattle.std.specs.Prelude.{◌≡◌, true, false, ℕ, ◌+◌, ◌*◌, ◌-◌, ◌%◌, ◌≤◌, ◌<◌, length, drop}
use Rattle.std.proofs.Math.Path.{refl, sym, ap}
use Rattle.std.proofs.Common.{◌∙◌, subst}
use mathlib.Core.List.{List, [], ◌∷◌, ◌++◌, tail}
use Rattle.std.proofs.Math.Option.{Option, none, some}
use Rattle.std.specs.declared.option.Option as code
use Rattle.std.specs.declared.option.Option.TheVariants.{None, Some}
use Rattle.std.specs.declared.result.Result.{Result}
use Rattle.std.specs.declared.result.Result.TheVariants.{Ok, Err}
use native.Mathlib.Omega.{arith}
use Rattle.std.proofs.Math.ListN.{get_or, set}
use Rattle.std.proofs.Math.Seq.{paste}
use Rattle.base_causes.specs.declared.Outcome.{Outcome}
use Rattle.base_causes.specs.Meaning.Causes.{verdict, refusal}
use Rattle.queue_bytes.specs.declared.Waiting.{Waiting}
use Rattle.queue_bytes.specs.declared.Refusal.{Refusal}
use Rattle.queue_bytes.specs.declared.Refusal.TheVariants.{UnknownArea, UnknownHour, WaitsAlready}
use Rattle.queue_bytes.specs.declared.DeskQueue.{DeskQueue}
use Rattle.queue_bytes.specs.declared.Taken.{Taken}
use Rattle.queue_turns.specs.Meaning.Queue.{Pair, pair, among, post_causes, after_post, next, serve_answer}
use Rattle.queue_turns.specs.Steps.Invariant.{Hours, also}
use Rattle.queue_turns.proofs.Steps.Invariant.{at-most-25, Heads, next-heads, refused-61, refused-62, refused-63, not-refused, number_by, answer_by, answer-by}
use Rattle.queue_bytes.specs.Meaning.Bytes.{cells_of, hours_at, queue_of, with_hours, bytes_unless, bytes_after_post, bytes_without, bytes_after_serve}
use Rattle.queue_bytes.proofs.Steps.ReadBack.{good-bytes, post-means}
use Rattle.queue_bytes.specs.Steps.Cells.{waiting_of, Addable}
use Rattle.queue_bytes.proofs.Steps.Cells.{addable, among_of, cells-less}
use Rattle.queue_bytes.specs.Meaning.Answer.{given}
use Rattle.queue_bytes.specs.Steps.Walks.{area_of}
use Rattle.queue_bytes.specs.Steps.Answers as shown

-- ---- posts

module _ (a h : ℕ) (b : List ℕ) where
  bytes-by : (o : Option Outcome) → refusal (post_causes a h (queue_of b)) ≡ o → bytes_unless o a h b ≡ bytes_after_post a h b
  unfolding bytes_after_post
  bytes-by o e = sym (ap (λ (x : Option Outcome). bytes_unless x a h b) e)

  abbrev PostStep : Result DeskQueue Refusal → Type 0
  PostStep = shown.PostStep a h b

  module _ (size : length b ≡ 101) where
    refused-by : (e : Refusal) → refusal (post_causes a h (queue_of b)) ≡ some (verdict (shown.refusal_number e) 0) → PostStep (Err e)
    refused-by e f = record {
      number_is = sym (number_by a h (queue_of b) (some (verdict (shown.refusal_number e) 0)) f);
      bytes-are = bytes-by (some (verdict (shown.refusal_number e) 0)) f;
      size = size;
    }

    pub post-61 : 3 < a → PostStep (Err UnknownArea)
    post-61 p = refused-by UnknownArea (refused-61 a h (queue_of b) p)

    pub post-62 : a ≤ 3 → 24 < h → PostStep (Err UnknownHour)
    post-62 p q = refused-by UnknownHour (refused-62 a h (queue_of b) p q)

    pub post-63 : a ≤ 3 → h ≤ 24 → among h (hours_at b a) ≡ true → PostStep (Err WaitsAlready)
    unfolding queue_of
    post-63 p q r = refused-by WaitsAlready (refused-63 a h (queue_of b) p q r)

    pub post-taken : a ≤ 3 → h ≤ 24 → among h (hours_at b a) ≡ false → {after : DeskQueue} → after.bytes ≡ paste b (25 * a) (cells_of (hours_at b a ++ (h ∷ []))) 25 → PostStep (Ok after)
    unfolding queue_of with_hours
    post-taken p q r g =
        let e = not-refused a h (queue_of b) p q r in
        record { number_is = sym (number_by a h (queue_of b) none e); bytes-are = g ∙ bytes-by none e; size = size }

  -- the bytes that a refused post leaves mean the queue after it
  pub refused_means : (r : Result DeskQueue Refusal) (e : Refusal) → PostStep r → r ≡ Err e → queue_of b ≡ after_post a h (queue_of b)
  refused_means r e s is = ap queue_of (sym (ap (shown.bytes_unless_refused b) is) ∙ s.bytes-are) ∙ post-means a h b s.size

-- ---- serves

module _ (b : List ℕ) where
  serving-by : (o : Option Pair) → next (queue_of b) ≡ o → (given (answer_by o) ≡ given (serve_answer (queue_of b))) × (bytes_without o b ≡ bytes_after_serve b)
  unfolding bytes_after_serve
  serving-by o e = (sym (ap given (answer-by (queue_of b) o e)), sym (ap (λ (x : Option Pair). bytes_without x b) e))

  first_of : (p : Pair) → next (queue_of b) ≡ some p → Heads (hours_at b) p
  unfolding queue_of
  first_of p e = next-heads (queue_of b) p e

  abbrev ServeStep : code.Option Taken → Type 0
  ServeStep = shown.ServeStep b

  pub serve-64 : length b ≡ 101 → None ≡ area_of (next (queue_of b)) → ServeStep None
  serve-64 size f = by (next (queue_of b)) refl
    where
      by : (o : Option Pair) → next (queue_of b) ≡ o → ServeStep None
      by none e = let r = serving-by none e in record { answer-is = r.0; bytes-are = r.1; size = size }
      by (some p) e = cc (f, ap area_of e)

  -- what waits in the found area, and what then is left
  pub record Taking (a : ℕ) : Type 0 where
    pub hour : ℕ
    pub rest : List ℕ
    pub line : hours_at b a ≡ hour ∷ rest
    pub is : next (queue_of b) ≡ some (pair a hour)
    pub area-in : a < 4

  pub taking : (a : ℕ) → Some a ≡ area_of (next (queue_of b)) → Taking a
  taking a f = by (next (queue_of b)) refl
    where
      by : (o : Option Pair) → next (queue_of b) ≡ o → Taking a
      by none e = cc (f, ap area_of e)
      by (some p) e =
          let k = first_of p e in
          let same : a ≡ p.area = cc (f, ap area_of e) in
          record {
            hour = p.hour;
            rest = k.rest;
            line = ap (hours_at b) same ∙ k.first;
            is = e ∙ ap (λ (x : ℕ). some (pair x p.hour)) (sym same);
            area-in = subst (λ (x : ℕ). x < 4) (sym same) k.area_in;
          }

  pub good-hours : (a : ℕ) → Hours (hours_at b a)
  good-hours a = unfold queue_of in (good-bytes b).hours a

  -- the first cell is the hour plus 1
  pub first_cell : (a : ℕ) (t : Taking a) (w : Waiting) → w ≡ waiting_of (hours_at b a) → get_or w.cells 0 0 ≡ t.hour + 1
  unfolding cells_of
  first_cell a t w e = ap (λ (v : Waiting). get_or v.cells 0 0) e ∙ ap (λ (hours : List ℕ). get_or (cells_of hours) 0 0) t.line

  -- and the hour is at most 24
  pub hour-in : (a : ℕ) (t : Taking a) → t.hour ≤ 24
  hour-in a t = small (subst (λ (hours : List ℕ). Hours hours) t.line (good-hours a))
    where
      small : {h : ℕ} {rest : List ℕ} → Hours (h ∷ rest) → h ≤ 24
      small (also l new more) = l

  pub cells_left : (a : ℕ) (t : Taking a) (w : Waiting) → w ≡ waiting_of (hours_at b a) → drop 1 w.cells ++ (0 ∷ []) ≡ cells_of (tail (hours_at b a))
  cells_left a t w e =
      ap (λ (v : Waiting). drop 1 v.cells ++ (0 ∷ [])) e
      ∙ ap (λ (hours : List ℕ). drop 1 (cells_of hours) ++ (0 ∷ [])) t.line
      ∙ cells-less t.hour t.rest (subst (λ (hours : List ℕ). length hours ≤ 25) t.line (at-most-25 (good-hours a)))
      ∙ sym (ap (λ (hours : List ℕ). cells_of (tail hours)) t.line)

  -- with c the first cell, and the cells that were stored
  pub serve-taken : length b ≡ 101 → (a : ℕ) (t : Taking a) (c : ℕ) (cells stored : List ℕ) → c ≡ t.hour + 1 → cells ≡ cells_of (tail (hours_at b a)) → stored ≡ paste b (25 * a) cells 25
      → ServeStep (Some (record { area = a; hour = c - 1; left = record { bytes = set stored 100 ((a + 1) % 4) } }))
  unfolding with_hours
  serve-taken size a t c cells stored e f g =
      let r = serving-by (some (pair a t.hour)) t.is in
      record {
        answer-is = ap (λ (h : ℕ). shown.served_of (Some (record { area = a; hour = h; left = record { bytes = b } }))) (back c t.hour e) ∙ r.0;
        bytes-are = ap (λ (x : List ℕ). set x 100 ((a + 1) % 4)) (g ∙ ap (λ (x : List ℕ). paste b (25 * a) x 25) f) ∙ r.1;
        size = size;
      }
    where
      back : (x h : ℕ) → x ≡ h + 1 → x - 1 ≡ h
      back x h u = omega arith

-- ---- the cell of an hour that is posted

one-back : (h : ℕ) → h + 1 - 1 ≡ h
one-back h = omega arith

pub among-hour : (w : Waiting) (h : ℕ) (hours : List ℕ) → w ≡ waiting_of hours → among (h + 1) w.cells ≡ among h hours
among-hour w h hours e = among_of w (h + 1) hours (above h) e ∙ ap (λ (k : ℕ). among k hours) (one-back h)
  where
    above : (k : ℕ) → 0 < k + 1
    above k = omega arith

pub post-addable : (w : Waiting) (h : ℕ) (b : List ℕ) (a : ℕ) → w ≡ waiting_of (hours_at b a) → h ≤ 24 → among (h + 1) w.cells ≡ false → Addable w (h + 1)
post-addable w h b a e small new = addable w (h + 1) (record { hours = hours_at b a; good = good-hours b a; is = e }) (omega arith) (omega arith) new

pub post-stored : (b : List ℕ) (a h : ℕ) (v : Waiting) → v ≡ waiting_of (hours_at b a ++ ((h + 1 - 1) ∷ []))
    → paste b (25 * a) v.cells 25 ≡ paste b (25 * a) (cells_of (hours_at b a ++ (h ∷ []))) 25
post-stored b a h v e =
    ap (λ (x : Waiting). paste b (25 * a) x.cells 25) e
    ∙ ap (λ (k : ℕ). paste b (25 * a) (cells_of (hours_at b a ++ (k ∷ []))) 25) (one-back h)
