-- S-8 IN PLAIN BYTES, both ways and for any bytes: what a post answers, and what a serve answers. `get_or bytes k 0`
-- is the byte at place k of the 101, counted from 0. Area a has the 25 bytes from 25 a on, and an hour stands there
-- as the hour plus 1; byte 100 says whose turn it is. Assumes nothing.
use Rattle.std.specs.Prelude.{◌≡◌, refl, ◌↔◌, ◌⊎◌, Bool, true, false, cond, ℕ, zero, suc, ◌+◌, ◌*◌, ◌-◌, ◌/◌, ◌%◌, ◌≤◌, ◌<◌, get_or, drop}
use Rattle.std.proofs.Common.{sym, ◌∙◌, ⊎_elim, inr, true≢false, lt-ltb, length-take}
use Rattle.std.proofs.Math.Path.{ap, subst}
use Rattle.std.proofs.Math.Logic.{inl}
use mathlib.Core.List.{List, [], ◌∷◌}
use Rattle.std.proofs.Math.Option.{none, some}
use native.Mathlib.Omega.{arith}
use Rattle.std.proofs.Math.Decide.{dec_lt}
use Rattle.std.proofs.Math.ListN.{get_or-eq_default}
use Rattle.queue_turns.specs.Meaning.Queue.{among, post_number, pair, next, serve_answer}
use Rattle.queue_turns.proofs.Promised.Causes.{is-61, is-62, is-63, is-taken}
use Rattle.queue_turns.proofs.Steps.Invariant.{answer-by}
use Rattle.queue_bytes.specs.declared.Served.{Served}
use Rattle.queue_bytes.specs.Meaning.Answer.{given}
use Rattle.queue_bytes.specs.Meaning.Bytes.{hours_in, cells_at, hours_at, queue_of}
use Rattle.queue_bytes.proofs.Promised.Along.{served, nothing}
use Rattle.queue_bytes.proofs.Steps.ReadBack.{getD-cells}
use Rattle.queue_bytes.proofs.Steps.Said as said

-- AN HOUR WAITS in an area: one of the area's 25 bytes is the hour plus 1
pub record Waits (bytes : List ℕ) (a h : ℕ) : Type 0 where
  pub place : ℕ
  pub place_in : place < 25
  pub byte-is : get_or bytes (25 * a + place) 0 ≡ h + 1

-- WHAT A POST ANSWERS
pub record PostNumbers (bytes : List ℕ) (a h n : ℕ) : Type 0 where
  pub gives-61 : (n ≡ 61) ↔ (3 < a)
  pub gives-62 : (n ≡ 62) ↔ ((a ≤ 3) × (24 < h))
  pub gives-63 : (n ≡ 63) ↔ ((a ≤ 3) × (h ≤ 24) × Waits bytes a h)
  pub gives-0 : (n ≡ 0) ↔ ((a ≤ 3) × (h ≤ 24) × (Waits bytes a h → ⊥))

-- a free byte of an area: 0, or over 25
abbrev pub Free : ℕ → Type 0
Free byte = (byte ≡ 0) ⊎ (25 < byte)

-- the first byte of area a that is not free is hour h
pub record FirstHour (bytes : List ℕ) (a h : ℕ) : Type 0 where
  pub place : ℕ
  pub place_in : place < 25
  pub byte-is : get_or bytes (25 * a + place) 0 ≡ h + 1
  pub hour-in : h ≤ 24
  pub free-before : (k : ℕ) → k < place → Free (get_or bytes (25 * a + k) 0)

-- WHAT A SERVE TAKES: the first area with an hour, in turn from the area in byte 100, modulo 4, and its first hour
pub record Takes (bytes : List ℕ) (a h : ℕ) : Type 0 where
  pub ahead : ℕ
  pub ahead_in : ahead < 4
  pub area-is : a ≡ (get_or bytes 100 0 + ahead) % 4
  pub none_before : (j : ℕ) → j < ahead → (k : ℕ) → k < 25 → Free (get_or bytes (25 * ((get_or bytes 100 0 + j) % 4) + k) 0)
  pub first-hour : FirstHour bytes a h

-- WHAT IT ANSWERS: 64 if and only if the 100 bytes of the areas are free
pub record ServeAnswers (bytes : List ℕ) (r : Served) : Type 0 where
  pub gives-64 : (r.number ≡ 64) ↔ ((k : ℕ) → k < 100 → Free (get_or bytes k 0))
  pub gives-0 : (a h : ℕ) → (r ≡ served a h) ↔ Takes bytes a h
  pub one_of : (r ≡ nothing) ⊎ ((a : ℕ) × (h : ℕ) × (r ≡ served a h))

-- ---- cells and bytes
past-cells : (bytes : List ℕ) (a k : ℕ) → 25 ≤ k → get_or (cells_at bytes a) k 0 ≡ 0
past-cells bytes a k l = get_or-eq_default (cells_at bytes a) 0 (omega (arith, l, length-take 25 (drop (25 * a) bytes)))

hours-there : (bytes : List ℕ) (a : ℕ) → a ≤ 3 → hours_at bytes a ≡ hours_in (cells_at bytes a)
unfolding hours_at
hours-there bytes a l = ap (λ (b : Bool). cond b (hours_in (cells_at bytes a)) []) (lt-ltb a 4 (omega (arith, l)))

-- ---- a post
module _ (bytes : List ℕ) (a h : ℕ) where
  among-cells : a ≤ 3 → h ≤ 24 → among h ((queue_of bytes).waiting a) ≡ among (h + 1) (cells_at bytes a)
  unfolding queue_of hours_in among
  among-cells l m = ap (among h) (hours-there bytes a l) ∙ said.keep-all-among h (cells_at bytes a) [] m

  waits-of : a ≤ 3 → h ≤ 24 → among h ((queue_of bytes).waiting a) ≡ true → Waits bytes a h
  waits-of l m e =
      let w = said.among-place (h + 1) (cells_at bytes a) (sym (among-cells l m) ∙ e) in
      let k : w.0 < 25 = omega (arith, w.1, length-take 25 (drop (25 * a) bytes)) in
      record { place = w.0; place_in = k; byte-is = sym (getD-cells bytes a w.0 k) ∙ w.2 }

  of-waits : a ≤ 3 → h ≤ 24 → Waits bytes a h → among h ((queue_of bytes).waiting a) ≡ true
  of-waits l m w = among-cells l m ∙ said.place-among (h + 1) (cells_at bytes a) w.place (omega arith) (getD-cells bytes a w.place w.place_in ∙ w.byte-is)

  pub post-numbers : PostNumbers bytes a h (post_number a h (queue_of bytes))
  post-numbers = by (dec_lt 3 a) (dec_lt 24 h) (among h ((queue_of bytes).waiting a)) refl
    where
      given_is : (n : ℕ) → post_number a h (queue_of bytes) ≡ n → PostNumbers bytes a h n → PostNumbers bytes a h (post_number a h (queue_of bytes))
      given_is n e w = subst (λ (k : ℕ). PostNumbers bytes a h k) (sym e) w

      by : Dec (3 < a) → Dec (24 < h) → (b : Bool) → among h ((queue_of bytes).waiting a) ≡ b → PostNumbers bytes a h (post_number a h (queue_of bytes))
      by (yes p) d b q = given_is 61 (is-61 a h (queue_of bytes) p) (record {
        gives-61 = (λ e. p, λ x. refl);
        gives-62 = (λ e. absurd (omega (arith, e)), λ x. absurd (omega (arith, p, x.0)));
        gives-63 = (λ e. absurd (omega (arith, e)), λ x. absurd (omega (arith, p, x.0)));
        gives-0 = (λ e. absurd (omega (arith, e)), λ x. absurd (omega (arith, p, x.0)));
      })
      by (no p) (yes l) b q = given_is 62 (is-62 a h (queue_of bytes) (omega (arith, p)) l) (record {
        gives-61 = (λ e. absurd (omega (arith, e)), λ x. absurd (p x));
        gives-62 = (λ e. (omega (arith, p), l), λ x. refl);
        gives-63 = (λ e. absurd (omega (arith, e)), λ x. absurd (omega (arith, l, x.1)));
        gives-0 = (λ e. absurd (omega (arith, e)), λ x. absurd (omega (arith, l, x.1)));
      })
      by (no p) (no l) true q = given_is 63 (is-63 a h (queue_of bytes) (omega (arith, p)) (omega (arith, l)) q) (record {
        gives-61 = (λ e. absurd (omega (arith, e)), λ x. absurd (p x));
        gives-62 = (λ e. absurd (omega (arith, e)), λ x. absurd (l x.1));
        gives-63 = (λ e. (omega (arith, p), omega (arith, l), waits-of (omega (arith, p)) (omega (arith, l)) q), λ x. refl);
        gives-0 = (λ e. absurd (omega (arith, e)), λ x. absurd (x.2 (waits-of x.0 x.1 q)));
      })
      by (no p) (no l) false q = given_is 0 (is-taken a h (queue_of bytes) (omega (arith, p)) (omega (arith, l)) q) (record {
        gives-61 = (λ e. absurd (omega (arith, e)), λ x. absurd (p x));
        gives-62 = (λ e. absurd (omega (arith, e)), λ x. absurd (l x.1));
        gives-63 = (λ e. absurd (omega (arith, e)), λ x. absurd (true≢false (sym (of-waits x.0 x.1 x.2) ∙ q)));
        gives-0 = (λ e. (omega (arith, p), omega (arith, l), λ w. true≢false (sym (of-waits (omega (arith, p)) (omega (arith, l)) w) ∙ q)), λ x. refl);
      })

-- ---- a serve
module _ (bytes : List ℕ) where
  abbrev turn : ℕ
  turn = get_or bytes 100 0

  abbrev FreeArea : ℕ → Type 0
  FreeArea a = (k : ℕ) → k < 25 → Free (get_or bytes (25 * a + k) 0)

  hours-none : (a : ℕ) → a ≤ 3 → FreeArea a → hours_at bytes a ≡ []
  unfolding hours_in
  hours-none a l f = hours-there bytes a l ∙ said.none_said (cells_at bytes a) (λ k. by k (dec_lt k 25))
    where
      by : (k : ℕ) → Dec (k < 25) → Free (get_or (cells_at bytes a) k 0)
      by k (yes m) = subst Free (sym (getD-cells bytes a k m)) (f k m)
      by k (no m) = inl (past-cells bytes a k (omega (arith, m)))

  hours-first : (a h : ℕ) → a ≤ 3 → FirstHour bytes a h → (rest : List ℕ) × (hours_at bytes a ≡ h ∷ rest)
  unfolding hours_in
  hours-first a h l w =
      let s = said.first_said (cells_at bytes a) h (record {
        place = w.place;
        cell-is = getD-cells bytes a w.place w.place_in ∙ w.byte-is;
        hour-in = w.hour-in;
        free-before = λ k m. subst Free (sym (getD-cells bytes a k (omega (arith, m, w.place_in)))) (w.free-before k m);
      }) in (s.0, hours-there bytes a l ∙ s.1)

  free-or-first : (a : ℕ) → FreeArea a ⊎ ((h : ℕ) × FirstHour bytes a h)
  free-or-first a = ⊎_elim
      (λ (f : said.AllFree (cells_at bytes a)). inl (λ k m. subst Free (getD-cells bytes a k m) (f k)))
      (λ (w : (h : ℕ) × said.First (cells_at bytes a) h). inr (w.0, there w.0 w.1 (dec_lt w.1.place 25)))
      (said.all-or-first (cells_at bytes a))
    where
      there : (h : ℕ) (w : said.First (cells_at bytes a) h) → Dec (w.place < 25) → FirstHour bytes a h
      there h w (yes m) = record {
        place = w.place;
        place_in = m;
        byte-is = sym (getD-cells bytes a w.place m) ∙ w.cell-is;
        hour-in = w.hour-in;
        free-before = λ k l. subst Free (getD-cells bytes a k (omega (arith, l, m))) (w.free-before k l);
      }
      there h w (no m) = absurd (omega (arith, w.cell-is, past-cells bytes a w.place (omega (arith, m))))

  -- one of the first n areas in turn has an hour, or none has
  record Found (n : ℕ) : Type 0 where
    ahead : ℕ
    ahead_in : ahead < n
    hour : ℕ
    none_before : (j : ℕ) → j < ahead → FreeArea ((turn + j) % 4)
    first-hour : FirstHour bytes ((turn + ahead) % 4) hour

  look : (n : ℕ) → ((j : ℕ) → j < n → FreeArea ((turn + j) % 4)) ⊎ Found n
  look zero = inl (λ j l. absurd (none_below j l))
    where
      none_below : (j : ℕ) → j < 0 → ⊥
      none_below j l = omega arith
  look (suc n) = ⊎_elim
      (λ (f : (j : ℕ) → j < n → FreeArea ((turn + j) % 4)). ⊎_elim
      (λ (g : FreeArea ((turn + n) % 4)). inl (λ j l. more f g j l (dec_lt j n)))
      (λ (w : (h : ℕ) × FirstHour bytes ((turn + n) % 4) h). inr (record { ahead = n; ahead_in = omega arith; hour = w.0; none_before = f; first-hour = w.1 }))
      (free-or-first ((turn + n) % 4)))
      (λ (w : Found n). inr (record { ahead = w.ahead; ahead_in = omega (arith, w.ahead_in); hour = w.hour; none_before = w.none_before; first-hour = w.first-hour }))
      (look n)
    where
      more : ((j : ℕ) → j < n → FreeArea ((turn + j) % 4)) → FreeArea ((turn + n) % 4) → (j : ℕ) → j < suc n → Dec (j < n) → FreeArea ((turn + j) % 4)
      more f g j l (yes m) = f j m
      more f g j l (no m) = let last : n ≡ j = omega (arith, l, m) in subst (λ (i : ℕ). FreeArea ((turn + i) % 4)) last g

  all-free : ((j : ℕ) → j < 4 → FreeArea ((turn + j) % 4)) → (k : ℕ) → k < 100 → Free (get_or bytes k 0)
  all-free f k l =
      let a : ℕ = k / 25 in
      let j : ℕ = (a + 4 - turn % 4) % 4 in
      let there : (turn + j) % 4 ≡ a = omega (arith, l) in
      let back : 25 * ((turn + j) % 4) + k % 25 ≡ k = omega (arith, there) in
      subst (λ (i : ℕ). Free (get_or bytes i 0)) back (f j (omega arith) (k % 25) (omega arith))

  -- what is found
  next-none : ((k : ℕ) → k < 100 → Free (get_or bytes k 0)) → next (queue_of bytes) ≡ none
  unfolding next queue_of
  next-none f = said.none_found (hours_at bytes) 4 (turn % 4) (λ j l. hours-none ((turn % 4 + j) % 4) (omega arith) (λ k m. f (25 * ((turn % 4 + j) % 4) + k) (omega (arith, m))))

  next-some : (a h : ℕ) → Takes bytes a h → next (queue_of bytes) ≡ some (pair a h)
  unfolding next queue_of
  next-some a h t =
      let same : (j : ℕ) → (turn % 4 + j) % 4 ≡ (turn + j) % 4 = λ j. omega arith in
      let here : a ≡ (turn % 4 + t.ahead) % 4 = omega (arith, t.area-is, same t.ahead) in
      let w = hours-first a h (omega (arith, here)) t.first-hour in
      subst (λ (i : ℕ). next (queue_of bytes) ≡ some (pair i h)) (sym here)
      (said.found_at (hours_at bytes) 4 (turn % 4) t.ahead h w.0 t.ahead_in
      (λ j l. ap (hours_at bytes) (same j) ∙ hours-none ((turn + j) % 4) (omega arith) (t.none_before j l))
      (subst (λ (i : ℕ). hours_at bytes i ≡ h ∷ w.0) here w.1))

  abbrev r : Served
  r = given (serve_answer (queue_of bytes))

  when-free : ((k : ℕ) → k < 100 → Free (get_or bytes k 0)) → r ≡ nothing
  when-free f = ap given (answer-by (queue_of bytes) none (next-none f))

  when-taken : (a h : ℕ) → Takes bytes a h → r ≡ served a h
  when-taken a h t = ap given (answer-by (queue_of bytes) (some (pair a h)) (next-some a h t))

  number_is : {x : Served} → r ≡ x → r.number ≡ x.number
  number_is e = ap (λ (y : Served). y.number) e

  pub serve-answers : ServeAnswers bytes r
  serve-answers = ⊎_elim none-there one-there (look 4)
    where
      none-there : ((j : ℕ) → j < 4 → FreeArea ((turn + j) % 4)) → ServeAnswers bytes r
      none-there f =
          let e = when-free (all-free f) in
          record {
            gives-64 = (λ q. all-free f, λ g. number_is e);
            gives-0 = λ a h. (λ q. absurd (omega (arith, number_is e, number_is q)), λ t. absurd (omega (arith, number_is e, number_is (when-taken a h t))));
            one_of = inl e;
          }

      one-there : Found 4 → ServeAnswers bytes r
      one-there w =
          let a : ℕ = (turn + w.ahead) % 4 in
          let t : Takes bytes a w.hour = record { ahead = w.ahead; ahead_in = w.ahead_in; area-is = refl; none_before = w.none_before; first-hour = w.first-hour } in
          let e = when-taken a w.hour t in
          record {
            gives-64 = (λ q. absurd (omega (arith, number_is e, q)), λ g. absurd (omega (arith, number_is e, number_is (when-free g))));
            gives-0 = λ b h. (
              λ q. subst (λ (x : Served). Takes bytes x.area x.hour) (sym e ∙ q) t,
              λ u. when-taken b h u,
            );
            one_of = inr (a, w.hour, e);
          }
