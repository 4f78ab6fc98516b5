-- What holds of every table of causes: a refusal is given for its own cause and no other, nothing asked earlier
-- fails, and the rows before it passed. To prove a refusal, walk the rows: `row-passes` past each that passes,
-- `row-fails` at the one that fails. Assumes nothing.
use Rattle.std.specs.Prelude.{◌≡◌, refl, Bool, true, false, not, cond, ◌&&◌, ◌||◌, List, [], ◌∷◌, ◌++◌, ℕ, zero, suc, ◌+◌, ◌≤◌, ◌<◌, length, get_or, T, eqb, ltb}
use Rattle.std.proofs.Common.{sym, ap, ◌∙◌, subst, arith, ltb→lt, T_not, below_more}
use Rattle.std.proofs.Math.Option.{Option, none, some, some-ne-none, none-ne-some, some-injective}
use Rattle.std.proofs.Math.Decide.{dec_lt}
use Rattle.std.proofs.Math.Dec.{eqb_refl}
use Rattle.base_integers.specs.Steps.Ranges.{nor-left, nor-right, and_left, and_right, is_true, is_false, and_both}
use Rattle.base_causes.specs.declared.Outcome.{Outcome}
use Rattle.std.specs.declared.option.Option as code
use Rattle.std.specs.declared.option.Option.TheVariants.{None, Some}
use Rattle.base_causes.specs.Meaning.Causes.{Pass, Cause, verdict, failing, first_below, any_below, place_else, first_field, cause_else, refusal, answer, field}
use Rattle.base_causes.specs.Meaning.Place.{place_of}

pub no_less : (k : ℕ) → k < 0 → ⊥
no_less k h = omega arith

-- THE FIRST PLACE at which a test holds: k, and none before it
pub record First (n : ℕ) (f : ℕ → Bool) (k : ℕ) : Type 0 where
  pub place_in : k < n
  pub holds : T (f k)
  pub none_before : (i : ℕ) → i < k → T (not (f i))

below-or-last : (f : ℕ → Bool) (n k : ℕ) → k < suc n → (k < n → T (not (f k))) → T (not (f n)) → T (not (f k))
below-or-last f n k h ih l = elim (dec_lt k n) [ yes b ↦ ih b | no g ↦ subst (λ (j : ℕ). T (not (f j))) (is_last g) l ]
  where
    is_last : (k < n → ⊥) → n ≡ k
    is_last g = omega arith

pub first-none : (n : ℕ) (f : ℕ → Bool) → ((i : ℕ) → i < n → T (not (f i))) → first_below n f ≡ none
unfolding first_below
first-none zero f h = refl
first-none (suc n) f h = step (f n) (first_below n f) (first-none n f (λ i l. h i (omega arith))) (h n (omega arith))
  where
    step : (b : Bool) (o : Option ℕ) → o ≡ none → T (not b) → ◌≡◌ {A = Option ℕ} (elim o [ some k ↦ some k | none ↦ cond b (some n) none ]) none
    step true o e t = absurd t
    step false (some k) e t = absurd (some-ne-none k e)
    step false none e t = refl

pub first_some : (n : ℕ) (f : ℕ → Bool) (k : ℕ) → First n f k → first_below n f ≡ some k
unfolding first_below
first_some zero f k h = absurd (no_less k h.place_in)
first_some (suc n) f k h = elim (dec_lt k n) [ yes l ↦ earlier (first_below n f) (first_some n f k (record { place_in = l; holds = h.holds; none_before = h.none_before })) | no g ↦ here (first_below n f) (first-none n f (λ i l. h.none_before i (omega (arith, h.place_in)))) (omega (arith, h.place_in)) ]
  where
    earlier : (o : Option ℕ) → o ≡ some k → ◌≡◌ {A = Option ℕ} (elim o [ some j ↦ some j | none ↦ cond (f n) (some n) none ]) (some k)
    earlier o e = rw e

    last : (b : Bool) → T b → cond b (some n) none ≡ some n
    last true t = refl
    last false t = absurd t

    here : (o : Option ℕ) → o ≡ none → k ≡ n → ◌≡◌ {A = Option ℕ} (elim o [ some j ↦ some j | none ↦ cond (f n) (some n) none ]) (some k)
    here o e q = rw e (last (f n) (subst (λ (i : ℕ). T (f i)) q h.holds) ∙ ap some (sym q))

last_none : (b : Bool) (n : ℕ) → cond b (some n) none ≡ none → T (not b)
last_none true n e = absurd (some-ne-none n e)
last_none false n e = tt

one_place : (f : ℕ → Bool) (n k : ℕ) (o : Option ℕ) → k < suc n → (o ≡ none → k < n → T (not (f k)))
    → ◌≡◌ {A = Option ℕ} (elim o [ some j ↦ some j | none ↦ cond (f n) (some n) none ]) none → T (not (f k))
one_place f n k (some j) h ih e = absurd (some-ne-none j e)
one_place f n k none h ih e = below-or-last f n k h (ih refl) (last_none (f n) n e)

pub not-below : (n : ℕ) (f : ℕ → Bool) → first_below n f ≡ none → (k : ℕ) → k < n → T (not (f k))
unfolding first_below
not-below zero f e k h = absurd (no_less k h)
not-below (suc n) f e k h = one_place f n k (first_below n f) h (λ q b. not-below n f q k b) e

first-is-step : (n : ℕ) (f : ℕ → Bool) (k : ℕ) (o : Option ℕ) → ((j : ℕ) → o ≡ some j → First n f j) → (o ≡ none → (i : ℕ) → i < n → T (not (f i)))
    → (b : Bool) → f n ≡ b → ◌≡◌ {A = Option ℕ} (elim o [ some j ↦ some j | none ↦ cond b (some n) none ]) (some k) → First (suc n) f k
first-is-step n f k (some j) ih un b q e = let w = ih k e in record { place_in = omega (arith, w.place_in); holds = w.holds; none_before = w.none_before }
first-is-step n f k none ih un true q e = subst (λ (i : ℕ). First (suc n) f i) (some-injective n k e) (record { place_in = omega arith; holds = subst (λ (b : Bool). T b) (sym q) tt; none_before = un refl })
first-is-step n f k none ih un false q e = absurd (none-ne-some k e)

pub first-is : (n : ℕ) (f : ℕ → Bool) (k : ℕ) → first_below n f ≡ some k → First n f k
unfolding first_below
first-is zero f k e = absurd (none-ne-some k e)
first-is (suc n) f k e = first-is-step n f k (first_below n f) (λ j q. first-is n f j q) (λ q i l. not-below n f q i l) (f n) refl e

-- a place is below its count
pub place-below : (n : ℕ) (f : ℕ → Bool) (k m : ℕ) → first_below n f ≡ some k → n ≤ m → k < m
place-below n f k m e h = omega (arith, (first-is n f k e).place_in)

-- tests with the same values
pub first-ext : (n : ℕ) (f g : ℕ → Bool) → ((k : ℕ) → k < n → f k ≡ g k) → first_below n f ≡ first_below n g
unfolding first_below
first-ext zero f g h = refl
first-ext (suc n) f g h = step (first_below n f) (first_below n g) (first-ext n f g (λ k l. h k (omega arith))) (f n) (g n) (h n (omega arith))
  where
    step : (x y : Option ℕ) → x ≡ y → (a b : Bool) → a ≡ b
        → ◌≡◌ {A = Option ℕ} (elim x [ some k ↦ some k | none ↦ cond a (some n) none ]) (elim y [ some k ↦ some k | none ↦ cond b (some n) none ])
    step x y e a b q = λ j. elim (e j) [ some k ↦ some k | none ↦ cond (q j) (some n) none ]

-- what a search in code found
pub at_place : (p : code.Option ℕ) (x : Option ℕ) (k : ℕ) → place_of p ≡ x → p ≡ Some k → x ≡ some k
at_place p x k e q = sym e ∙ ap place_of q

pub at_none : (p : code.Option ℕ) (x : Option ℕ) → place_of p ≡ x → p ≡ None → x ≡ none
at_none p x e q = sym e ∙ ap place_of q

-- a test that holds nowhere, and one that holds somewhere
pub no_place : (n : ℕ) (f : ℕ → Bool) → T (not (any_below n f)) → (k : ℕ) → k < n → T (not (f k))
unfolding any_below
no_place zero f t k h = absurd (no_less k h)
no_place (suc n) f t k h = below-or-last f n k h (λ b. no_place n f (nor-left (any_below n f) (f n) t) k b) (nor-right (any_below n f) (f n) t)

pub any_none : (n : ℕ) (f : ℕ → Bool) → ((k : ℕ) → k < n → T (not (f k))) → any_below n f ≡ false
unfolding any_below
any_none zero f h = refl
any_none (suc n) f h = step (any_below n f) (any_none n f (λ k l. h k (omega arith))) (f n) (h n (omega arith))
  where
    step : (a : Bool) → a ≡ false → (b : Bool) → T (not b) → a || b ≡ false
    step a e true t = absurd t
    step a e false t = ap (λ (x : Bool). x || false) e

pub any_some : (n : ℕ) (f : ℕ → Bool) (k : ℕ) → k < n → T (f k) → any_below n f ≡ true
unfolding any_below
any_some zero f k h t = absurd (no_less k h)
any_some (suc n) f k h t = elim (dec_lt k n) [ yes l ↦ ap (λ (x : Bool). x || f n) (any_some n f k l t) | no g ↦ here (any_below n f) (f n) (subst (λ (i : ℕ). T (f i)) (is_last g) t) ]
  where
    is_last : (k < n → ⊥) → k ≡ n
    is_last g = omega arith

    here : (a b : Bool) → T b → a || b ≡ true
    here true b t = refl
    here false true t = refl
    here false false t = absurd t

pub any_place : (n : ℕ) (f : ℕ → Bool) → T (any_below n f) → (k : ℕ) × (k < n) × T (f k)
unfolding any_below
any_place zero f t = absurd t
any_place (suc n) f t = by (any_below n f) refl t (any_place n f)
  where
    by : (a : Bool) → any_below n f ≡ a → T (a || f n) → (T (any_below n f) → (k : ℕ) × (k < n) × T (f k)) → (k : ℕ) × (k < suc n) × T (f k)
    by true e u ih = let w = ih (is_true e) in (w.0, omega (arith, w.1), w.2)
    by false e u ih = (n, omega arith, u)

-- A LOOP THAT LOOKS for the first place, or for any. Its invariant is `first_below m f ≡ none`, or
-- `any_below m f ≡ false`; here are the two ends of a turn and the end of the loop
module _ (f : ℕ → Bool) (m : ℕ) where
  -- the first place
  pub first-here : {n : ℕ} → m < n → first_below m f ≡ none → f m ≡ true → first_below n f ≡ some m
  first-here {n} h e q = first_some n f m (record { place_in = h; holds = is_true q; none_before = not-below m f e })

  pub first-later : first_below m f ≡ none → f m ≡ false → first_below (m + 1) f ≡ none
  first-later e q = first-none (m + 1) f (below_more (λ (k : ℕ). T (not (f k))) m (not-below m f e) (is_false q))

  pub first-nowhere : {n : ℕ} → m ≤ n → n ≤ m → first_below m f ≡ none → first_below n f ≡ none
  first-nowhere {n} h k e = let all : n ≡ m = omega arith in ap (λ (i : ℕ). first_below i f) all ∙ e

  -- some place
  pub any_here : {n : ℕ} → m < n → f m ≡ true → any_below n f ≡ true
  any_here {n} h q = any_some n f m h (is_true q)

  pub any-later : any_below m f ≡ false → f m ≡ false → any_below (m + 1) f ≡ false
  any-later e q = any_none (m + 1) f (below_more (λ (k : ℕ). T (not (f k))) m (no_place m f (is_false e)) (is_false q))

-- a row with no place
abbrev pub empty : Cause
empty = record { number = 0; places = 0; fails = λ k. false; index = λ k. 0 }

pub row_by : (r : Cause) (rs : List Cause) (o : Option ℕ) → first_below r.places r.fails ≡ o → refusal (r ∷ rs) ≡ cause_else r o (refusal rs)
unfolding refusal
row_by r rs o e = ap (λ (x : Option ℕ). cause_else r x (refusal rs)) e

-- the row fails where a search for its first place found k, and passes where it found none
pub row-found : (r : Cause) (rs : List Cause) (k : ℕ) → first_below r.places r.fails ≡ some k → refusal (r ∷ rs) ≡ some (verdict r.number (r.index k))
row-found r rs k e = row_by r rs (some k) e

pub row-clear : (r : Cause) (rs : List Cause) → first_below r.places r.fails ≡ none → refusal (r ∷ rs) ≡ refusal rs
row-clear r rs e = row_by r rs none e

pub row-fails : (r : Cause) (rs : List Cause) (k : ℕ) → First r.places r.fails k → refusal (r ∷ rs) ≡ some (verdict r.number (r.index k))
row-fails r rs k w = row-found r rs k (first_some r.places r.fails k w)

pub row-passes : (r : Cause) (rs : List Cause) → Pass r → refusal (r ∷ rs) ≡ refusal rs
row-passes r rs p = row-clear r rs (first-none r.places r.fails p.pass)

-- THE ROWS, ASKED IN ORDER, and their result: past each that passes, at the one that fails
pub record Comes (rs : List Cause) (o : Option Outcome) : Type 0 where
  pub is : refusal rs ≡ o

pub past : {r : Cause} {rs : List Cause} {o : Option Outcome} → Pass r → Comes rs o → Comes (r ∷ rs) o
past {r} {rs} {o} p q = record { is = row-passes r rs p ∙ q.is }

-- a search for its first place found none, or one
pub clear : {r : Cause} {rs : List Cause} {o : Option Outcome} → failing r ≡ none → Comes rs o → Comes (r ∷ rs) o
clear {r} {rs} {o} e q = record { is = row-clear r rs e ∙ q.is }

pub fails-at : {r : Cause} {rs : List Cause} (k : ℕ) → failing r ≡ some k → Comes (r ∷ rs) (some (verdict r.number (r.index k)))
fails-at {r} {rs} k e = record { is = row-found r rs k e }

pub none_left : Comes [] none
unfolding refusal
none_left = record { is = refl }

-- a cause tested once
pub once-fails : {b : Bool} → b ≡ true → first_below 1 (λ k. b) ≡ some 0
unfolding first_below
once-fails e = ap (λ (x : Bool). cond x (some 0) none) e

pub once-passes : {b : Bool} → b ≡ false → first_below 1 (λ k. b) ≡ none
unfolding first_below
once-passes e = ap (λ (x : Bool). cond x (some 0) none) e

pub field-fails : (n k : ℕ) {b : Bool} (rs : List Cause) → b ≡ true → refusal (field n k b ∷ rs) ≡ some (verdict n k)
unfolding first_below
field-fails n k {b} rs e = row-found (field n k b) rs 0 (ap (λ (x : Bool). cond x (some 0) none) e)

pub field-passes : (n k : ℕ) {b : Bool} (rs : List Cause) → b ≡ false → refusal (field n k b ∷ rs) ≡ refusal rs
unfolding first_below
field-passes n k {b} rs e = row-clear (field n k b) rs (ap (λ (x : Bool). cond x (some 0) none) e)

-- TWO TABLES, one after the other
abbrev pub else-refusal : Option Outcome → Option Outcome → Option Outcome
else-refusal (some o) x = some o
else-refusal none x = x

pub refusal-append : (qs rs : List Cause) → refusal (qs ++ rs) ≡ else-refusal (refusal qs) (refusal rs)
unfolding refusal
refusal-append [] rs = refl
refusal-append (q ∷ qs) rs = step (first_below q.places q.fails) refl (refusal-append qs rs)
  where
    step : (o : Option ℕ) → first_below q.places q.fails ≡ o → refusal (qs ++ rs) ≡ else-refusal (refusal qs) (refusal rs)
        → refusal (q ∷ (qs ++ rs)) ≡ else-refusal (refusal (q ∷ qs)) (refusal rs)
    step (some k) e ih = row-found q (qs ++ rs) k e ∙ ap (λ (x : Option Outcome). else-refusal x (refusal rs)) (sym (row-found q qs k e))
    step none e ih = row-clear q (qs ++ rs) e ∙ ih ∙ ap (λ (x : Option Outcome). else-refusal x (refusal rs)) (sym (row-clear q qs e))

-- WHAT AN OUTCOME'S NUMBER SAYS. A row is known by its number and the index of its first place, which tells the
-- header fields apart
unfoldable pub is_cause : ℕ → ℕ → Cause → Bool
is_cause n k r = eqb r.number n && eqb (r.index 0) k

unfoldable pub row_of : ℕ → ℕ → List Cause → Cause
row_of n k [] = empty
row_of n k (r ∷ rs) = elim (is_cause n k r) [ true ↦ r | false ↦ row_of n k rs ]

unfoldable pub has_cause : ℕ → ℕ → List Cause → Bool
has_cause n k [] = false
has_cause n k (r ∷ rs) = elim (is_cause n k r) [ true ↦ true | false ↦ has_cause n k rs ]

-- the rows before the first of number n
unfoldable pub before : ℕ → List Cause → List Cause
before n [] = []
before n (r ∷ rs) = elim (eqb r.number n) [ true ↦ [] | false ↦ r ∷ before n rs ]

-- one row: o is where it fails first, a whether it is the row that stops, b whether it is the row looked for
one-row : (n i k : ℕ) (r : Cause) (rs : List Cause) (o : Option ℕ) → first_below r.places r.fails ≡ o → ((answer (refusal rs)).number ≡ n → T (has_cause i k (before n rs)) → Pass (row_of i k rs))
    → (answer (cause_else r o (refusal rs))).number ≡ n
    → (a : Bool) → eqb r.number n ≡ a → (b : Bool) → is_cause i k r ≡ b
    → T (has_cause i k (elim a [ true ↦ [] | false ↦ r ∷ before n rs ])) → Pass (elim b [ true ↦ r | false ↦ row_of i k rs ])
unfolding has_cause
one-row n i k r rs o q ih e true t b u h = absurd h
one-row n i k r rs (some j) q ih e false t b u h = absurd (subst (λ (b : Bool). T b) t (subst (λ (m : ℕ). T (eqb r.number m)) e (eqb_refl r.number)))
one-row n i k r rs none q ih e false t true u h = record { pass = not-below r.places r.fails q }
one-row n i k r rs none q ih e false t false u h = ih e (rest (is_cause i k r) u h)
  where
    rest : (c : Bool) → c ≡ false → T (elim c [ true ↦ true | false ↦ has_cause i k (before n rs) ]) → T (has_cause i k (before n rs))
    rest true e h = absurd (subst (λ (b : Bool). T b) e tt)
    rest false e h = h

-- if it is n, every row before the first of number n passed
pub row-passed : (n : ℕ) (rs : List Cause) → (answer (refusal rs)).number ≡ n → (i k : ℕ) → T (has_cause i k (before n rs)) → Pass (row_of i k rs)
unfolding refusal before row_of
row-passed n [] e i k h = record { pass = λ j l. absurd (no_less j l) }
row-passed n (r ∷ rs) e i k h = one-row n i k r rs (first_below r.places r.fails) refl (λ e h. row-passed n rs e i k h) e (eqb r.number n) refl (is_cause i k r) refl h

-- no row has the number n
unfoldable pub lacks : ℕ → List Cause → Bool
lacks n [] = true
lacks n (r ∷ rs) = not (eqb r.number n) && lacks n rs

lacks-step : (n : ℕ) (r : Cause) (rs : List Cause) (o : Option ℕ) → first_below r.places r.fails ≡ o → T (not (eqb r.number n))
    → ((o : Outcome) → refusal rs ≡ some o → o.number ≡ n → ⊥) → (x : Outcome) → cause_else r o (refusal rs) ≡ some x → x.number ≡ n → ⊥
lacks-step n r rs (some k) q t ih x e m = T_not (eqb r.number n) t (subst (λ (j : ℕ). T (eqb r.number j)) (ap (λ (o : Outcome). o.number) (some-injective (verdict r.number (r.index k)) x e) ∙ m) (eqb_refl r.number))
lacks-step n r rs none q t ih x e m = ih x e m

pub not-refused : (n : ℕ) (rs : List Cause) → T (lacks n rs) → (x : Outcome) → refusal rs ≡ some x → x.number ≡ n → ⊥
unfolding lacks refusal
not-refused n [] t x e m = none-ne-some x e
not-refused n (r ∷ rs) t x e m = lacks-step n r rs (first_below r.places r.fails) refl (and_left (not (eqb r.number n)) (lacks n rs) t) (not-refused n rs (and_right (not (eqb r.number n)) (lacks n rs) t)) x e m

-- two tables, the first without a row n: the number n means that the first refused nothing and the second answered
-- n
pub record Later (n : ℕ) (qs rs : List Cause) : Type 0 where
  pub none_first : refusal qs ≡ none
  pub then-second : (answer (refusal rs)).number ≡ n

pub later : (n : ℕ) (qs rs : List Cause) → T (lacks n qs) → (answer (refusal (qs ++ rs))).number ≡ n → Later n qs rs
later n qs rs t e = by (refusal qs) refl (sym (ap (λ (x : Option Outcome). (answer x).number) (refusal-append qs rs)) ∙ e)
  where
    by : (o : Option Outcome) → refusal qs ≡ o → (answer (else-refusal (refusal qs) (refusal rs))).number ≡ n → Later n qs rs
    by (some x) q e = absurd (not-refused n qs t x q (sym (ap (λ (y : Option Outcome). (answer (else-refusal y (refusal rs))).number) q) ∙ e))
    by none q e = record { none_first = q; then-second = sym (ap (λ (y : Option Outcome). (answer (else-refusal y (refusal rs))).number) q) ∙ e }

-- rows between two tables, none of number n: if the answer is n, it is the answer without them
pub left_out : (n : ℕ) (qs ms rs : List Cause) → T (lacks n ms) → (answer (refusal (qs ++ (ms ++ rs)))).number ≡ n → refusal (qs ++ (ms ++ rs)) ≡ refusal (qs ++ rs)
left_out n qs ms rs t e = refusal-append qs (ms ++ rs) ∙ by (refusal qs) (sym (ap (λ (x : Option Outcome). (answer x).number) (refusal-append qs (ms ++ rs))) ∙ e) ∙ sym (refusal-append qs rs)
  where
    by : (o : Option Outcome) → (answer (else-refusal o (refusal (ms ++ rs)))).number ≡ n → else-refusal o (refusal (ms ++ rs)) ≡ else-refusal o (refusal rs)
    by (some x) e = refl
    by none e = refusal-append ms rs ∙ ap (λ (x : Option Outcome). else-refusal x (refusal rs)) (later n ms rs t e).none_first

pub none-zero : (rs : List Cause) → refusal rs ≡ none → (answer (refusal rs)).number ≡ 0
none-zero rs e = ap (λ (x : Option Outcome). (answer x).number) e

-- no row has the number 0, so 0 means that none refused
pub zero-none : (rs : List Cause) → T (lacks 0 rs) → (answer (refusal rs)).number ≡ 0 → refusal rs ≡ none
zero-none rs t e = by (refusal rs) refl e
  where
    by : (o : Option Outcome) → refusal rs ≡ o → (answer o).number ≡ 0 → refusal rs ≡ none
    by (some x) q e = absurd (not-refused 0 rs t x q e)
    by none q e = q

has-step : (n k : ℕ) (r : Cause) (rs qs : List Cause) → (T (has_cause n k qs) → T (has_cause n k rs)) → (a b : Bool) → is_cause n k r ≡ b
    → T (has_cause n k (elim a [ true ↦ [] | false ↦ r ∷ qs ])) → T (elim b [ true ↦ true | false ↦ has_cause n k rs ])
unfolding has_cause
has-step n k r rs qs ih true b e h = absurd h
has-step n k r rs qs ih false true e h = tt
has-step n k r rs qs ih false false e h = ih (same (is_cause n k r) e h)
  where
    same : (c : Bool) → c ≡ false → T (elim c [ true ↦ true | false ↦ has_cause n k qs ]) → T (has_cause n k qs)
    same true e h = absurd (subst (λ (b : Bool). T b) e tt)
    same false e h = h

-- a row before one of number n is a row
pub has-before : (n i k : ℕ) (rs : List Cause) → T (has_cause i k (before n rs)) → T (has_cause i k rs)
unfolding has_cause before
has-before n i k [] h = h
has-before n i k (r ∷ rs) h = has-step i k r rs (before n rs) (has-before n i k rs) (eqb r.number n) (is_cause i k r) refl h

-- THE ROW OF A NUMBER, or one with no place; the rows after it
unfoldable pub cause_numbered : ℕ → List Cause → Cause
cause_numbered n [] = empty
cause_numbered n (r ∷ rs) = elim (eqb r.number n) [ true ↦ r | false ↦ cause_numbered n rs ]

abbrev pub behind : ℕ → List Cause → List Cause
behind n [] = []
behind n (r ∷ rs) = elim (eqb r.number n) [ true ↦ rs | false ↦ behind n rs ]

-- the rows after the row of a number and an offset
abbrev pub behind_row : ℕ → ℕ → List Cause → List Cause
behind_row n k [] = []
behind_row n k (r ∷ rs) = elim (eqb r.number n && eqb (r.index 0) k) [ true ↦ rs | false ↦ behind_row n k rs ]

-- where nothing is refused every row passes: the row of a number, and a header field by its offset
none-refused : (r : Cause) (rs : List Cause) → refusal (r ∷ rs) ≡ none → Pass r × (refusal rs ≡ none)
unfolding refusal
none-refused r rs e = by (failing r) refl e
  where
    by : (x : Option ℕ) → failing r ≡ x → cause_else r x (refusal rs) ≡ none → Pass r × (refusal rs ≡ none)
    by (some k) q e = absurd (some-ne-none (verdict r.number (r.index k)) e)
    by none q e = (record { pass = not-below r.places r.fails q }, e)

either-passes : (b : Bool) (r q : Cause) → Pass r → Pass q → Pass (elim b [ true ↦ r | false ↦ q ])
either-passes true r q x y = x
either-passes false r q x y = y

pub number-passes : (rs : List Cause) → refusal rs ≡ none → (n : ℕ) → Pass (cause_numbered n rs)
unfolding cause_numbered
number-passes [] e n = record { pass = λ j l. absurd (no_less j l) }
number-passes (r ∷ rs) e n = let w = none-refused r rs e in either-passes (eqb r.number n) r (cause_numbered n rs) w.0 (number-passes rs w.1 n)

pub field-at-passes : (rs : List Cause) → refusal rs ≡ none → (n k : ℕ) → Pass (row_of n k rs)
unfolding row_of
field-at-passes [] e n k = record { pass = λ j l. absurd (no_less j l) }
field-at-passes (r ∷ rs) e n k = let w = none-refused r rs e in either-passes (is_cause n k r) r (row_of n k rs) w.0 (field-at-passes rs w.1 n k)

-- and the row at a place of the list
pub all_pass : (rs : List Cause) → refusal rs ≡ none → (j : ℕ) → Pass (get_or rs j empty)
unfolding refusal
all_pass [] e j = record { pass = λ k h. absurd (no_less k h) }
all_pass (r ∷ rs) e j = by_row (first_below r.places r.fails) refl (λ q i. all_pass rs q i) e j
  where
    by_row : (x : Option ℕ) → first_below r.places r.fails ≡ x → (refusal rs ≡ none → (i : ℕ) → Pass (get_or rs i empty)) → cause_else r x (refusal rs) ≡ none → (j : ℕ) → Pass (get_or (r ∷ rs) j empty)
    by_row (some k) q ih e j = absurd (some-ne-none (verdict r.number (r.index k)) e)
    by_row none q ih e zero = record { pass = not-below r.places r.fails q }
    by_row none q ih e (suc i) = ih e i

-- NO OTHER CAUSE GIVES AN ANSWER: a refusal has a row of its number that fails at its place, and nothing before
-- that row or that place fails
pub record CausedBy (rs : List Cause) (o : Outcome) : Type 0 where
  pub position : ℕ
  pub place : ℕ
  pub position_in : position < length rs
  pub earlier-pass : (i : ℕ) → i < position → Pass (get_or rs i empty)
  pub first-place : First (get_or rs position empty).places (get_or rs position empty).fails place
  pub is : o ≡ verdict (get_or rs position empty).number ((get_or rs position empty).index place)

cause-later : (r : Cause) (rs : List Cause) (o : Outcome) → Pass r → CausedBy rs o → CausedBy (r ∷ rs) o
cause-later r rs o p w = record {
  position = suc w.position;
  place = w.place;
  position_in = omega (arith, w.position_in);
  earlier-pass = before-it;
  first-place = w.first-place;
  is = w.is;
}
  where
    before-it : (i : ℕ) → i < suc w.position → Pass (get_or (r ∷ rs) i empty)
    before-it zero l = p
    before-it (suc i) l = w.earlier-pass i (omega arith)

pub caused : (rs : List Cause) (o : Outcome) → refusal rs ≡ some o → CausedBy rs o
unfolding refusal
caused [] o e = absurd (none-ne-some o e)
caused (r ∷ rs) o e = by_row (first_below r.places r.fails) refl (λ q. caused rs o q) e
  where
    by_row : (x : Option ℕ) → first_below r.places r.fails ≡ x → (refusal rs ≡ some o → CausedBy rs o) → cause_else r x (refusal rs) ≡ some o → CausedBy (r ∷ rs) o
    by_row (some k) q ih e = record {
      position = 0;
      place = k;
      position_in = omega arith;
      earlier-pass = λ i l. absurd (no_less i l);
      first-place = first-is r.places r.fails k q;
      is = sym (some-injective (verdict r.number (r.index k)) o e);
    }
    by_row none q ih e = cause-later r rs o (record { pass = not-below r.places r.fails q }) (ih e)

-- the same for an outcome whose number is not 0
pub answer-caused : (rs : List Cause) → 0 < (answer (refusal rs)).number → CausedBy rs (answer (refusal rs))
answer-caused rs h = by (refusal rs) refl
  where
    never : (n : ℕ) → 0 < n → n ≡ 0 → ⊥
    never n h e = omega arith

    by : (o : Option Outcome) → refusal rs ≡ o → CausedBy rs (answer (refusal rs))
    by (some x) q = subst (λ (y : Outcome). CausedBy rs y) (sym (ap answer q)) (caused rs x q)
    by none q = absurd (never (answer (refusal rs)).number h (ap (λ (y : Option Outcome). (answer y).number) q))

-- no cause that holds, in row j at place k, is asked before it
pub record Soonest (rs : List Cause) (o : Outcome) (j k : ℕ) : Type 0 where
  pub cause : CausedBy rs o
  pub row_first : cause.position ≤ j
  pub place-first : cause.position ≡ j → cause.place ≤ k

pub soonest : (rs : List Cause) (j k : ℕ) → k < (get_or rs j empty).places → T ((get_or rs j empty).fails k) → Soonest rs (answer (refusal rs)) j k
soonest rs j k h f = by (refusal rs) refl
  where
    found : (w : CausedBy rs (answer (refusal rs))) → Soonest rs (answer (refusal rs)) j k
    found w = record {
      cause = w;
      row_first = elim (dec_lt j w.position) [ yes l ↦ absurd (T_not ((get_or rs j empty).fails k) ((w.earlier-pass j l).pass k h) f) | no g ↦ omega arith ];
      place-first = λ e. elim (dec_lt k w.place) [
        | yes l ↦ absurd (T_not ((get_or rs j empty).fails k) (subst (λ (i : ℕ). T (not ((get_or rs i empty).fails k))) e (w.first-place.none_before k l)) f)
        | no g ↦ omega arith
      ];
    }

    by : (o : Option Outcome) → refusal rs ≡ o → Soonest rs (answer (refusal rs)) j k
    by (some x) q = found (subst (λ (y : Outcome). CausedBy rs y) (sym (ap (λ (y : Option Outcome). answer y) q)) (caused rs x q))
    by none q = absurd (T_not ((get_or rs j empty).fails k) ((all_pass rs q j).pass k h) f)

-- THE ROW THAT AN OUTCOME'S NUMBER NAMES, where only one row has that number: the rows before it pass, it fails
-- first at a place, and its index is returned
pub record RowNamed (qs : List Cause) (r : Cause) (o : Outcome) : Type 0 where
  pub earlier : refusal qs ≡ none
  pub place : ℕ
  pub first-place : First r.places r.fails place
  pub is : o ≡ verdict r.number (r.index place)

pub row_named : (n : ℕ) (qs : List Cause) (r : Cause) (rs : List Cause) → 0 < n → T (lacks n qs) → T (lacks n rs)
    → (answer (refusal (qs ++ (r ∷ rs)))).number ≡ n → RowNamed qs r (answer (refusal (qs ++ (r ∷ rs))))
row_named n qs r rs h before-it after-it e = by (first_below r.places r.fails) refl
  where
    first : Later n qs (r ∷ rs)
    first = later n qs (r ∷ rs) before-it e

    here : refusal (qs ++ (r ∷ rs)) ≡ refusal (r ∷ rs)
    here = refusal-append qs (r ∷ rs) ∙ ap (λ (x : Option Outcome). else-refusal x (refusal (r ∷ rs))) first.none_first

    never : (o : Option Outcome) → refusal rs ≡ o → (answer o).number ≡ n → ⊥
    never (some x) q m = not-refused n rs after-it x q m
    never none q m = omega arith

    by : (o : Option ℕ) → first_below r.places r.fails ≡ o → RowNamed qs r (answer (refusal (qs ++ (r ∷ rs))))
    by (some k) q = record {
      earlier = first.none_first;
      place = k;
      first-place = first-is r.places r.fails k q;
      is = ap answer (here ∙ row-found r rs k q);
    }
    by none q = absurd (never (refusal rs) refl (sym (ap (λ (x : Option Outcome). (answer x).number) (row-clear r rs q)) ∙ first.then-second))

-- the same, with the row found by its number
lacks-before : (n : ℕ) (rs : List Cause) → T (lacks n (before n rs))
unfolding lacks before
lacks-before n [] = tt
lacks-before n (r ∷ rs) = by (eqb r.number n) refl (lacks-before n rs)
  where
    by : (b : Bool) → eqb r.number n ≡ b → T (lacks n (before n rs)) → T (lacks n (elim b [ true ↦ [] | false ↦ r ∷ before n rs ]))
    by true e ih = tt
    by false e ih = and_both (not (eqb r.number n)) (lacks n (before n rs)) (is_false e) ih

split : (n : ℕ) (rs : List Cause) → T (not (lacks n rs)) → rs ≡ before n rs ++ (cause_numbered n rs ∷ behind n rs)
unfolding lacks before cause_numbered
split n [] t = absurd t
split n (r ∷ rs) t = by (eqb r.number n) t (split n rs)
  where
    by : (b : Bool) → T (not (not b && lacks n rs)) → (T (not (lacks n rs)) → rs ≡ before n rs ++ (cause_numbered n rs ∷ behind n rs))
        → r ∷ rs ≡ elim b [ true ↦ [] | false ↦ r ∷ before n rs ] ++ (elim b [ true ↦ r | false ↦ cause_numbered n rs ] ∷ elim b [ true ↦ rs | false ↦ behind n rs ])
    by true t ih = refl
    by false t ih = ap (λ (l : List Cause). r ∷ l) (ih t)

pub row-by-number : (n : ℕ) (rs : List Cause) → 0 < n → T (not (lacks n rs)) → T (lacks n (behind n rs)) → (answer (refusal rs)).number ≡ n → RowNamed (before n rs) (cause_numbered n rs) (answer (refusal rs))
row-by-number n rs h some-row after-it e =
    let same = split n rs some-row in
    subst (λ (l : List Cause). RowNamed (before n rs) (cause_numbered n rs) (answer (refusal l))) (sym same)
    (row_named n (before n rs) (cause_numbered n rs) (behind n rs) h (lacks-before n rs) after-it (ap (λ (l : List Cause). (answer (refusal l)).number) (sym same) ∙ e))

-- CONVERSELY: where the rows before it pass and it fails first at a place, its number and the place's index are the
-- answer
pub row-answers : (n : ℕ) (rs : List Cause) → T (not (lacks n rs)) → refusal (before n rs) ≡ none → (k : ℕ) → First (cause_numbered n rs).places (cause_numbered n rs).fails k
    → answer (refusal rs) ≡ verdict (cause_numbered n rs).number ((cause_numbered n rs).index k)
row-answers n rs some-row passed k w =
    ap (λ (l : List Cause). answer (refusal l)) (split n rs some-row)
    ∙ ap answer (
    refusal-append (before n rs) (cause_numbered n rs ∷ behind n rs)
    ∙ ap (λ (x : Option Outcome). else-refusal x (refusal (cause_numbered n rs ∷ behind n rs))) passed
    ∙ row-fails (cause_numbered n rs) (behind n rs) k w
    )

-- two tables refuse nothing if and only if neither does
pub none_both : (qs rs : List Cause) → refusal qs ≡ none → refusal rs ≡ none → refusal (qs ++ rs) ≡ none
none_both qs rs e f = refusal-append qs rs ∙ ap (λ (x : Option Outcome). else-refusal x (refusal rs)) e ∙ f

pub none_each : (qs rs : List Cause) → refusal (qs ++ rs) ≡ none → (refusal qs ≡ none) × (refusal rs ≡ none)
none_each qs rs e = by (refusal qs) (refusal rs) (sym (refusal-append qs rs) ∙ e)
  where
    by : (x y : Option Outcome) → else-refusal x y ≡ none → (x ≡ none) × (y ≡ none)
    by (some o) y q = absurd (some-ne-none o q)
    by none y q = (refl, q)

-- THE FIELD THAT IT NAMES: the first of its row at fault
pub first-field : (w : ℕ) (f : ℕ → Bool) → T (any_below w f) → First w f (first_field w f)
unfolding first_field
first-field w f t = by (first_below w f) refl
  where
    by : (o : Option ℕ) → first_below w f ≡ o → First w f (place_else (first_below w f))
    by (some k) q = subst (λ (x : Option ℕ). First w f (place_else x)) (sym q) (first-is w f k q)
    by none q = absurd (subst (λ (b : Bool). T b) (any_none w f (not-below w f q)) t)

-- it is one of them, if there is any
pub field_below : (w : ℕ) (f : ℕ → Bool) → 0 < w → first_field w f < w
unfolding first_field
field_below w f h = by (first_below w f) refl
  where
    by : (o : Option ℕ) → first_below w f ≡ o → place_else (first_below w f) < w
    by (some k) q = subst (λ (x : Option ℕ). place_else x < w) (sym q) (first-is w f k q).place_in
    by none q = subst (λ (x : Option ℕ). place_else x < w) (sym q) h

-- BOTH WAYS. Every row passes: nothing is refused
pub passes_none : (rs : List Cause) → ((j : ℕ) → Pass (get_or rs j empty)) → refusal rs ≡ none
unfolding refusal
passes_none [] f = refl
passes_none (r ∷ rs) f = row-passes r rs (f 0) ∙ passes_none rs (λ j. f (suc j))

-- the first row that fails, at its first place, is what is refused
pub cause-refuses : (rs : List Cause) (o : Outcome) → CausedBy rs o → refusal rs ≡ some o
cause-refuses rs o w = at_position rs w.position w.position_in w.earlier-pass w.first-place ∙ ap (λ (x : Outcome). some x) (sym w.is)
  where
    at_position : (rs : List Cause) (j : ℕ) → j < length rs → ((i : ℕ) → i < j → Pass (get_or rs i empty)) → First (get_or rs j empty).places (get_or rs j empty).fails w.place
        → refusal rs ≡ some (verdict (get_or rs j empty).number ((get_or rs j empty).index w.place))
    at_position [] j h e f = absurd (no_less j h)
    at_position (r ∷ rs) zero h e f = row-fails r rs w.place f
    at_position (r ∷ rs) (suc j) h e f = row-passes r rs (e 0 (omega arith)) ∙ at_position rs j (omega (arith, h)) (λ i l. e (suc i) (omega (arith, l))) f

-- the answer of a table: 0 if and only if every row passes at every place; else the first row that fails, at its
-- first place, and no other
pub record Answered (rs : List Cause) (o : Outcome) : Type 0 where
  pub zero-passes : o.number ≡ 0 → (j : ℕ) → Pass (get_or rs j empty)
  pub passes-zero : ((j : ℕ) → Pass (get_or rs j empty)) → o ≡ verdict 0 0
  pub refused-cause : 0 < o.number → CausedBy rs o
  pub cause-refused : (x : Outcome) → CausedBy rs x → o ≡ x

pub answered : (rs : List Cause) → T (lacks 0 rs) → Answered rs (answer (refusal rs))
answered rs t = record {
  zero-passes = λ e. all_pass rs (zero-none rs t e);
  passes-zero = λ f. ap answer (passes_none rs f);
  refused-cause = answer-caused rs;
  cause-refused = λ x w. ap answer (cause-refuses rs x w);
}

-- every number of a table is below n
unfoldable pub numbers_below : ℕ → List Cause → Bool
numbers_below n [] = true
numbers_below n (r ∷ rs) = ltb r.number n && numbers_below n rs

pub number-below : (n : ℕ) (rs : List Cause) → 0 < n → T (numbers_below n rs) → (answer (refusal rs)).number < n
unfolding numbers_below refusal
number-below n [] z t = z
number-below n (r ∷ rs) z t = by (first_below r.places r.fails) (ltb→lt r.number n (and_left (ltb r.number n) (numbers_below n rs) t)) (number-below n rs z (and_right (ltb r.number n) (numbers_below n rs) t))
  where
    by : (o : Option ℕ) → r.number < n → (answer (refusal rs)).number < n → (answer (cause_else r o (refusal rs))).number < n
    by (some k) h l = h
    by none h l = l
