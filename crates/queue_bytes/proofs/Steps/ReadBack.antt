-- WHAT IS WRITTEN IS READ BACK: the bytes afterwards mean the queue after the post or the serve. And any bytes mean
-- a good queue. Assumes nothing.
use Rattle.std.specs.Prelude.{◌≡◌, Bool, true, not, ◌&&◌, ◌||◌, ◌⊎◌, ◌≢◌, ℕ, zero, suc, ◌+◌, ◌*◌, ◌-◌, ◌%◌, ◌≤◌, ◌<◌, eqb, get_or, take, drop, set, replicate}
use Rattle.std.proofs.Math.Path.{refl, sym, ap, fun_ext}
use Rattle.std.proofs.Common.{◌∙◌, subst, inl, inr, ⊎_elim, length-append, length-drop, length-set, get_or-append-add, get_or-take, get_or-drop, get_or-set_same, length-take-le}
use Rattle.std.proofs.Math.Bool.{false, cond}
use Rattle.std.proofs.lemmas.Bool.{false≢true}
use mathlib.Core.List.{List, [], ◌∷◌, ◌++◌, map, tail, append_assoc, append-nil}
use Rattle.std.proofs.Math.Option.{Option, none, some}
use native.Mathlib.Omega.{arith}
use Rattle.std.proofs.Math.Decide.{dec_lt, ℕ_discrete}
use borrow.Author.Tests.{ne_eqb, eqb-false, lt-ltb, le-ltb, ltb-true}
use Rattle.std.proofs.Math.Dec.{ltb}
use Rattle.std.proofs.Math.ListN.{length, get_or-append}
use Rattle.std.proofs.lemmas.List.{length-replicate, get_or-replicate}
use Rattle.std.proofs.Math.Seq.{paste, length-paste, get_or-set_other, ext_get_or}
use Rattle.base_causes.specs.declared.Outcome.{Outcome}
use Rattle.base_causes.specs.Meaning.Causes.{refusal}
use Rattle.queue_turns.specs.Meaning.Queue.{empty, Pair, among, put, post_causes, taken, after_post, next, without, after_serve}
use Rattle.queue_turns.specs.Steps.Invariant.{Hours, nothing, also}
use Rattle.queue_turns.proofs.Steps.Invariant.{QueueValid, PostTaken, PostRefused, posting, hours-more, hours-less, at-most-25, or_parts, next-heads, put-here, put_other}
use Rattle.queue_bytes.specs.Meaning.Bytes.{is_new, keep, keep_all, hours_in, cells_of, cells_at, hours_at, queue_of, with_hours, bytes_unless, bytes_after_post, bytes_without, bytes_after_serve}
use Rattle.queue_bytes.specs.Steps.ReadBack.{New}

and_parts : (a b : Bool) → (a && b) ≡ true → (a ≡ true) × (b ≡ true)
and_parts true b e = (refl, e)
and_parts false b e = absurd (false≢true e)

not-true-is : (a : Bool) → not a ≡ true → a ≡ false
not-true-is true e = sym e
not-true-is false e = refl

pub new-of : (hours : List ℕ) (c : ℕ) → is_new hours c ≡ true → New hours c
unfolding is_new
new-of hours c e =
    let p = and_parts (ltb 0 c) (ltb c 26 && not (among (c - 1) hours)) e in
    let q = and_parts (ltb c 26) (not (among (c - 1) hours)) p.1 in
    record { above = ltb-true 0 c p.0; below = ltb-true c 26 q.0; new = not-true-is (among (c - 1) hours) q.1 }

pub is-new : (hours : List ℕ) (c : ℕ) → New hours c → is_new hours c ≡ true
unfolding is_new
is-new hours c n = rw (lt-ltb 0 c n.above, lt-ltb c 26 n.below, n.new) refl

pub hours-keep : (hours : List ℕ) (c : ℕ) → Hours hours → Hours (keep hours c)
hours-keep hours c g = by (is_new hours c) refl
  where
    by : (x : Bool) → is_new hours c ≡ x → Hours (cond x (hours ++ ((c - 1) ∷ [])) hours)
    by true e = let n = new-of hours c e in hours-more (c - 1) (omega (arith, n.below)) n.new g
    by false e = g

pub hours-all : (cells hours : List ℕ) → Hours hours → Hours (keep_all hours cells)
unfolding keep_all
hours-all [] hours g = g
hours-all (c ∷ cells) hours g = hours-all cells (keep hours c) (hours-keep hours c g)

pub hours-in : (cells : List ℕ) → Hours (hours_in cells)
unfolding hours_in
hours-in cells = hours-all cells [] nothing

-- ANY BYTES MEAN A GOOD QUEUE
pub good-bytes : (bytes : List ℕ) → QueueValid (queue_of bytes)
unfolding queue_of hours_at
good-bytes bytes = record { turn_in = omega arith; hours = λ a. by a (ltb a 4) }
  where
    by : (a : ℕ) (x : Bool) → Hours (cond x (hours_in (cells_at bytes a)) [])
    by a true = hours-in (cells_at bytes a)
    by a false = nothing

pub keep-more : (cells hours : List ℕ) (c : ℕ) → keep_all hours (cells ++ (c ∷ [])) ≡ keep (keep_all hours cells) c
unfolding keep_all
keep-more [] hours c = refl
keep-more (d ∷ cells) hours c = keep-more cells (keep hours d) c

-- free cells add nothing
keep-free : (n : ℕ) (hours : List ℕ) → keep_all hours (replicate n 0) ≡ hours
unfolding keep_all is_new
keep-free zero hours = refl
keep-free (suc n) hours = keep-free n hours

-- an hour in the middle of different hours is not among those before it
hours-mid : (seen : List ℕ) (h : ℕ) (l : List ℕ) → Hours (seen ++ (h ∷ l)) → (h ≤ 24) × (among h seen ≡ false)
unfolding among
hours-mid [] h l (also small new rest) = (small, refl)
hours-mid (x ∷ seen) h l (also small new rest) =
    let later = hours-mid seen h l rest in
    (later.0, ap (λ (b : Bool). b || among h seen) (ne_eqb x h (λ e. differ seen new e)) ∙ later.1)
  where
    differ : (s : List ℕ) → among x (s ++ (h ∷ l)) ≡ false → x ≡ h → ⊥
    differ [] n e = eqb-false h x (or_parts (eqb h x) (among x l) n).0 (sym e)
    differ (y ∷ s) n e = differ s (or_parts (eqb y x) (among x (s ++ (h ∷ l))) n).1 e

keep-cells : (l seen rest : List ℕ) → Hours (seen ++ l) → keep_all seen (map (λ h. h + 1) l ++ rest) ≡ keep_all (seen ++ l) rest
unfolding keep_all
keep-cells [] seen rest g = ap (λ (s : List ℕ). keep_all s rest) (sym (append-nil seen))
keep-cells (h ∷ l) seen rest g =
    let known = hours-mid seen h l g in
    let back : h + 1 - 1 ≡ h = omega arith in
    let new = is-new seen (h + 1) (record { above = omega arith; below = omega (arith, known.0); new = ap (λ (k : ℕ). among k seen) back ∙ known.1 }) in
    let one : keep seen (h + 1) ≡ seen ++ (h ∷ []) = ap (λ (b : Bool). cond b (seen ++ ((h + 1 - 1) ∷ [])) seen) new ∙ ap (λ (k : ℕ). seen ++ (k ∷ [])) back in
    let joined : (seen ++ (h ∷ [])) ++ l ≡ seen ++ (h ∷ l) = append_assoc seen (h ∷ []) l in
    ap (λ (s : List ℕ). keep_all s (map (λ k. k + 1) l ++ rest)) one
    ∙ keep-cells l (seen ++ (h ∷ [])) rest (subst (λ (s : List ℕ). Hours s) (sym joined) g)
    ∙ ap (λ (s : List ℕ). keep_all s rest) joined

-- WHAT IS WRITTEN IS READ BACK
pub read_back : (l : List ℕ) → Hours l → hours_in (cells_of l) ≡ l
unfolding hours_in cells_of
read_back l g = keep-cells l [] (replicate (25 - length l) 0) g ∙ keep-free (25 - length l) l

pub length-cells-map : (l : List ℕ) → length (map (λ h. h + 1) l) ≡ length l
length-cells-map [] = refl
length-cells-map (h ∷ l) = ap suc (length-cells-map l)

pub length-cells : (l : List ℕ) → length l ≤ 25 → length (cells_of l) ≡ 25
unfolding cells_of
length-cells l small =
    omega (arith, length-append (map (λ h. h + 1) l) (replicate (25 - length l) 0), length-cells-map l, length-replicate {A = ℕ} (25 - length l) 0)

-- ---- the bytes with one area's cells replaced

module _ (d : List ℕ) (at : ℕ) (s : List ℕ) (n : ℕ) (fits : at + n ≤ length d) (all : length s ≡ n) where
  front : length (take at d ++ take n s) ≡ at + n
  front = omega (arith, length-append (take at d) (take n s), length-take-le at d (omega arith), length-take-le n s (omega arith))

  paste-before : (i : ℕ) → i < at → get_or (paste d at s n) i 0 ≡ get_or d i 0
  paste-before i l =
      get_or-append (take at d ++ take n s) (drop (at + n) d) 0 i (omega (arith, front))
      ∙ get_or-append (take at d) (take n s) 0 i (omega (arith, length-take-le at d (omega arith)))
      ∙ get_or-take at d i 0 l

  paste-inside : (i : ℕ) → i < n → get_or (paste d at s n) (at + i) 0 ≡ get_or s i 0
  paste-inside i l =
      let k : at ≡ length (take at d) = sym (length-take-le at d (omega arith)) in
      get_or-append (take at d ++ take n s) (drop (at + n) d) 0 (at + i) (omega (arith, front))
      ∙ ap (λ (j : ℕ). get_or (take at d ++ take n s) (j + i) 0) k
      ∙ get_or-append-add (take at d) (take n s) i 0
      ∙ get_or-take n s i 0 l

  paste-after : (i : ℕ) → at + n ≤ i → get_or (paste d at s n) i 0 ≡ get_or d i 0
  paste-after i l =
      let k : i ≡ length (take at d ++ take n s) + (i - (at + n)) = omega (arith, front) in
      ap (λ (j : ℕ). get_or (paste d at s n) j 0) k
      ∙ get_or-append-add (take at d ++ take n s) (drop (at + n) d) (i - (at + n)) 0
      ∙ get_or-drop (at + n) d (i - (at + n)) 0
      ∙ ap (λ (j : ℕ). get_or d j 0) (back i l)
    where
      back : (j : ℕ) → at + n ≤ j → at + n + (j - (at + n)) ≡ j
      back j m = omega arith

pub length-cells-at : (bytes : List ℕ) (a : ℕ) → length bytes ≡ 101 → a < 4 → length (cells_at bytes a) ≡ 25
length-cells-at bytes a len l = length-take-le 25 (drop (25 * a) bytes) (omega (arith, length-drop (25 * a) bytes))

pub getD-cells : (bytes : List ℕ) (a i : ℕ) → i < 25 → get_or (cells_at bytes a) i 0 ≡ get_or bytes (25 * a + i) 0
getD-cells bytes a i l = get_or-take 25 (drop (25 * a) bytes) i 0 l ∙ get_or-drop (25 * a) bytes i 0

-- two buffers that agree on an area's bytes have the same cells there
pub cells_agree : (x y : List ℕ) (a : ℕ) → length x ≡ 101 → length y ≡ 101 → a < 4 → ((i : ℕ) → i < 25 → get_or x (25 * a + i) 0 ≡ get_or y (25 * a + i) 0)
    → cells_at x a ≡ cells_at y a
cells_agree x y a lx ly l same =
    let nx = length-cells-at x a lx l in
    let ny = length-cells-at y a ly l in
    ext_get_or 0 (cells_at x a) (cells_at y a) (nx ∙ sym ny)
    (λ i m. getD-cells x a i (less i m nx) ∙ same i (less i m nx) ∙ sym (getD-cells y a i (less i m nx)))
  where
    less : (i : ℕ) → i < length (cells_at x a) → length (cells_at x a) ≡ 25 → i < 25
    less i m e = subst (λ (n : ℕ). i < n) e m

module _ (b : List ℕ) (a : ℕ) (l : List ℕ) (len : length b ≡ 101) (area_in : a < 4) (g : Hours l) where
  room-there : 25 * a + 25 ≤ length b
  room-there = omega arith

  pub length-with : length (with_hours b a l) ≡ 101
  unfolding with_hours
  length-with = length-paste b (25 * a) (cells_of l) 25 room-there (le-of-eq' (length-cells l (at-most-25 g))) ∙ len
    where
      le-of-eq' : length (cells_of l) ≡ 25 → 25 ≤ length (cells_of l)
      le-of-eq' e = omega arith

  pub cells-own : cells_at (with_hours b a l) a ≡ cells_of l
  unfolding with_hours
  cells-own =
      let full = length-cells l (at-most-25 g) in
      let n = length-cells-at (with_hours b a l) a length-with area_in in
      ext_get_or 0 (cells_at (with_hours b a l) a) (cells_of l) (n ∙ sym full)
      (λ i m. getD-cells (with_hours b a l) a i (subst (λ (k : ℕ). i < k) n m) ∙ paste-inside b (25 * a) (cells_of l) 25 room-there full i (subst (λ (k : ℕ). i < k) n m))

  pub outside : (i : ℕ) → (i < 25 * a) ⊎ (25 * a + 25 ≤ i) → get_or (with_hours b a l) i 0 ≡ get_or b i 0
  unfolding with_hours
  outside i (inl p) = paste-before b (25 * a) (cells_of l) 25 room-there (length-cells l (at-most-25 g)) i p
  outside i (inr p) = paste-after b (25 * a) (cells_of l) 25 room-there (length-cells l (at-most-25 g)) i p

  pub cells-other : (c : ℕ) → c < 4 → (c ≡ a → ⊥) → cells_at (with_hours b a l) c ≡ cells_at b c
  cells-other c m other = cells_agree (with_hours b a l) b c length-with len m (λ i k. outside (25 * c + i) (side i k (dec_lt c a)))
    where
      side : (i : ℕ) → i < 25 → Dec (c < a) → (25 * c + i < 25 * a) ⊎ (25 * a + 25 ≤ 25 * c + i)
      side i k (yes p) = inl (omega arith)
      side i k (no p) = inr (beyond (dec_lt a c))
        where
          beyond : Dec (a < c) → 25 * a + 25 ≤ 25 * c + i
          beyond (yes q) = omega arith
          beyond (no q) = absurd (other (omega arith))

  pub hours-at-with : (c : ℕ) → hours_at (with_hours b a l) c ≡ put a l (hours_at b) c
  unfolding hours_at
  hours-at-with c = by (ℕ_discrete c a)
    where
      by : Dec (c ≡ a) → hours_at (with_hours b a l) c ≡ put a l (hours_at b) c
      by (yes e) =
          ap (λ (k : ℕ). hours_at (with_hours b a l) k) e
          ∙ ap (λ (x : Bool). cond x (hours_in (cells_at (with_hours b a l) a)) []) (lt-ltb a 4 area_in)
          ∙ ap hours_in cells-own
          ∙ read_back l g
          ∙ sym (put-here a l (hours_at b))
          ∙ ap (λ (k : ℕ). put a l (hours_at b) k) (sym e)
      by (no other) = which (dec_lt c 4) ∙ sym (put_other a c l (hours_at b) other)
        where
          which : Dec (c < 4) → hours_at (with_hours b a l) c ≡ hours_at b c
          which (yes m) = ap (λ (cells : List ℕ). cond (ltb c 4) (hours_in cells) []) (cells-other c m other)
          which (no m) =
              let past : ltb c 4 ≡ false = le-ltb c 4 (omega arith) in
              ap (λ (x : Bool). cond x (hours_in (cells_at (with_hours b a l) c)) []) past ∙ sym (ap (λ (x : Bool). cond x (hours_in (cells_at b c)) []) past)

  pub turn-with : get_or (with_hours b a l) 100 0 ≡ get_or b 100 0
  turn-with = outside 100 (inr (omega arith))

  -- an area's cells replaced by those of good hours: the queue with these hours there
  pub queue-with : queue_of (with_hours b a l) ≡ record { waiting = put a l (hours_at b); turn = get_or b 100 0 % 4 }
  unfolding queue_of
  queue-with = λ i. record { waiting = fun_ext hours-at-with i; turn = turn-with i % 4 }

-- the last byte replaced: the queue with another turn
module _ (b : List ℕ) (t : ℕ) (len : length b ≡ 101) (turn_in : t < 4) where
  pub hours-turned : (c : ℕ) → hours_at (set b 100 t) c ≡ hours_at b c
  unfolding hours_at
  hours-turned c = by (dec_lt c 4)
    where
      by : Dec (c < 4) → hours_at (set b 100 t) c ≡ hours_at b c
      by (yes m) = ap (λ (cells : List ℕ). cond (ltb c 4) (hours_in cells) [])
          (cells_agree (set b 100 t) b c (length-set b 100 t ∙ len) len m (λ i k. get_or-set_other b 100 (25 * c + i) t 0 (below i k)))
        where
          below : (i : ℕ) → i < 25 → 25 * c + i ≢ 100
          below i k e = omega arith
      by (no m) =
          let past : ltb c 4 ≡ false = le-ltb c 4 (omega arith) in
          ap (λ (x : Bool). cond x (hours_in (cells_at (set b 100 t) c)) []) past ∙ sym (ap (λ (x : Bool). cond x (hours_in (cells_at b c)) []) past)

  turn-set : get_or (set b 100 t) 100 0 % 4 ≡ t
  turn-set = ap (λ (x : ℕ). x % 4) (get_or-set_same b 100 t 0 (omega arith)) ∙ small t turn_in
    where
      small : (x : ℕ) → x < 4 → x % 4 ≡ x
      small x m = omega arith

  pub queue-turned : queue_of (set b 100 t) ≡ record { waiting = hours_at b; turn = t }
  unfolding queue_of
  queue-turned = λ i. record { waiting = fun_ext hours-turned i; turn = turn-set i }

-- ---- THE BYTES AFTER A POST OR A SERVE MEAN THE QUEUE AFTER IT

pub post-means : (a h : ℕ) (b : List ℕ) → length b ≡ 101 → queue_of (bytes_after_post a h b) ≡ after_post a h (queue_of b)
unfolding bytes_after_post
post-means a h b len = ⊎_elim now-waits unchanged (posting a h (queue_of b))
  where
    bytes-by : (o : Option Outcome) → refusal (post_causes a h (queue_of b)) ≡ o → queue_of (bytes_after_post a h b) ≡ queue_of (bytes_unless o a h b)
    bytes-by o e = ap (λ (x : Option Outcome). queue_of (bytes_unless x a h b)) e

    unchanged : PostRefused a h (queue_of b) → queue_of (bytes_after_post a h b) ≡ after_post a h (queue_of b)
    unchanged r = bytes-by (some r.outcome) r.by_row ∙ sym r.unchanged

    now-waits : PostTaken a h (queue_of b) → queue_of (bytes_after_post a h b) ≡ after_post a h (queue_of b)
    now-waits t =
        bytes-by none t.passes
        ∙ queue-with b a (hours_at b a ++ (h ∷ [])) len t.area_in (hours-more h t.hour-in (new_in t.new) (hours-of a))
        ∙ same
        ∙ sym t.leaves
      where
        new_in : among h ((queue_of b).waiting a) ≡ false → among h (hours_at b a) ≡ false
        new_in e = unfold queue_of in e

        hours-of : (c : ℕ) → Hours (hours_at b c)
        hours-of c = unfold queue_of in (good-bytes b).hours c

        same : record { waiting = put a (hours_at b a ++ (h ∷ [])) (hours_at b); turn = get_or b 100 0 % 4 } ≡ taken a h (queue_of b)
        same = unfold queue_of in refl

pub serve-means : (b : List ℕ) → length b ≡ 101 → queue_of (bytes_after_serve b) ≡ after_serve (queue_of b)
unfolding bytes_after_serve after_serve
serve-means b len = by (next (queue_of b)) refl
  where
    by : (o : Option Pair) → next (queue_of b) ≡ o → queue_of (bytes_without o b) ≡ without o (queue_of b)
    by none e = refl
    by (some p) e =
        queue-turned (with_hours b p.area rest) ((p.area + 1) % 4) (length-with b p.area rest len area_in good-rest) (small (p.area + 1))
        ∙ (λ i. record { waiting = fun_ext (hours-at-with b p.area rest len area_in good-rest) i; turn = (p.area + 1) % 4 })
        ∙ same
      where
        small : (x : ℕ) → x % 4 < 4
        small x = omega arith

        rest : List ℕ
        rest = tail (hours_at b p.area)

        area_in : p.area < 4
        area_in = (next-heads (queue_of b) p e).area_in

        good-rest : Hours rest
        good-rest = unfold queue_of in hours-less ((good-bytes b).hours p.area)

        same : record { waiting = put p.area rest (hours_at b); turn = (p.area + 1) % 4 } ≡ without (some p) (queue_of b)
        same = unfold queue_of in refl

-- ---- 101 bytes stay 101 bytes

pub length-post : (a h : ℕ) (b : List ℕ) → length b ≡ 101 → length (bytes_after_post a h b) ≡ 101
unfolding bytes_after_post
length-post a h b len = ⊎_elim
    (λ (t : PostTaken a h (queue_of b)). ap (λ (o : Option Outcome). length (bytes_unless o a h b)) t.passes ∙ length-with b a (hours_at b a ++ (h ∷ [])) len t.area_in (longer t))
    (λ (r : PostRefused a h (queue_of b)). ap (λ (o : Option Outcome). length (bytes_unless o a h b)) r.by_row ∙ len)
    (posting a h (queue_of b))
  where
    longer : PostTaken a h (queue_of b) → Hours (hours_at b a ++ (h ∷ []))
    longer t = unfold queue_of in hours-more h {l = hours_at b a} t.hour-in t.new ((good-bytes b).hours a)

pub length-serve : (b : List ℕ) → length b ≡ 101 → length (bytes_after_serve b) ≡ 101
unfolding bytes_after_serve
length-serve b len = by (next (queue_of b)) refl
  where
    by : (o : Option Pair) → next (queue_of b) ≡ o → length (bytes_without o b) ≡ 101
    by none e = len
    by (some p) e =
        length-set (with_hours b p.area (tail (hours_at b p.area))) 100 ((p.area + 1) % 4)
        ∙ length-with b p.area (tail (hours_at b p.area)) len (next-heads (queue_of b) p e).area_in
        (unfold queue_of in hours-less ((good-bytes b).hours p.area))

-- ALL ZEROS ARE THE EMPTY QUEUE
pub zeros-empty : queue_of (replicate 101 0) ≡ empty
unfolding queue_of hours_at
zeros-empty = λ i. record { waiting = fun_ext none-waits i; turn = 0 }
  where
    free : (c : ℕ) → c < 4 → cells_at (replicate 101 0) c ≡ replicate 25 0
    free c l =
        let n = length-cells-at (replicate 101 0) c refl l in
        ext_get_or 0 (cells_at (replicate 101 0) c) (replicate 25 0) n
        (λ i m. getD-cells (replicate 101 0) c i (subst (λ (k : ℕ). i < k) n m)
        ∙ get_or-replicate 101 (25 * c + i) 0 0 (within c i l (subst (λ (k : ℕ). i < k) n m))
        ∙ sym (get_or-replicate 25 i 0 0 (subst (λ (k : ℕ). i < k) n m)))
      where
        within : (c i : ℕ) → c < 4 → i < 25 → 25 * c + i < 101
        within c i p q = omega arith

    none-waits : (c : ℕ) → hours_at (replicate 101 0) c ≡ []
    none-waits c = by (dec_lt c 4)
      where
        by : Dec (c < 4) → hours_at (replicate 101 0) c ≡ []
        by (yes l) =
            ap (λ (x : Bool). cond x (hours_in (cells_at (replicate 101 0) c)) []) (lt-ltb c 4 l)
            ∙ ap hours_in (free c l)
            ∙ (unfold hours_in in keep-free 25 [])
        by (no l) = ap (λ (x : Bool). cond x (hours_in (cells_at (replicate 101 0) c)) []) (le-ltb c 4 (omega arith))
