-- THE HOURS OF SOME CELLS: which, and which is first; and what a walk over areas in turn finds. Assumes nothing.
use Rattle.std.specs.Prelude.{◌≡◌, ◌⊎◌, Bool, true, false, cond, ◌&&◌, ◌||◌, eqb, ltb, length, get_or}
use Rattle.std.proofs.Math.Path.{refl, ap}
use Rattle.std.proofs.Common.{sym, ◌∙◌, inl, inr, ⊎_elim, true≢false, eq-eqb, ne_eqb, eqb-true, lt-ltb, le-ltb}
use mathlib.Core.List.{List, [], ◌∷◌, ◌++◌}
use Rattle.std.proofs.Math.Option.{none, some}
use Prim.Native.Nat.{ℕ, zero, suc, ◌+◌, ◌-◌, ◌%◌, ◌≤◌, ◌<◌}
use native.Mathlib.Omega.{arith}
use Rattle.std.proofs.Math.Decide.{dec_lt, ℕ_discrete}
use Rattle.queue_turns.specs.Meaning.Queue.{among, pair, in_turn, first_waiting, earliest_else}
use Rattle.queue_bytes.specs.Meaning.Bytes.{is_new, keep, keep_all}
use Rattle.queue_bytes.proofs.Steps.ReadBack.{new-of, is-new}

or-false : (b : Bool) → (b || false) ≡ b
or-false true = refl
or-false false = refl

or-true : (b : Bool) → (b || true) ≡ true
or-true true = refl
or-true false = refl

or_assoc : (a b c : Bool) → ((a || b) || c) ≡ (a || (b || c))
or_assoc true b c = refl
or_assoc false b c = refl

-- ---- an hour is among those of some cells if and only if a cell holds it
among-append : (x h : ℕ) (l : List ℕ) → among x (l ++ (h ∷ [])) ≡ (among x l || eqb h x)
unfolding among
among-append x h [] = or-false (eqb h x)
among-append x h (y ∷ l) = ap (λ (b : Bool). eqb y x || b) (among-append x h l) ∙ sym (or_assoc (eqb y x) (among x l) (eqb h x))

keep-among : (h c : ℕ) (hours : List ℕ) → h ≤ 24 → among h (keep hours c) ≡ (among h hours || eqb c (h + 1))
keep-among h c hours small = by (is_new hours c) refl
  where
    same : 0 < c → eqb (c - 1) h ≡ eqb c (h + 1)
    same p = which (ℕ_discrete c (h + 1))
      where
        which : Dec (c ≡ h + 1) → eqb (c - 1) h ≡ eqb c (h + 1)
        which (yes e) = eq-eqb (c - 1) h (omega arith) ∙ sym (eq-eqb c (h + 1) e)
        which (no n) = ne_eqb (c - 1) h (λ e. n (omega arith)) ∙ sym (ne_eqb c (h + 1) n)

    old : is_new hours c ≡ false → c ≡ h + 1 → among h hours ≡ true
    old f e = which (among h hours) refl
      where
        back : c - 1 ≡ h
        back = omega arith

        which : (b : Bool) → among h hours ≡ b → among h hours ≡ true
        which true q = q
        which false q = absurd (true≢false (sym (is-new hours c (record { above = omega (arith, e); below = omega (arith, e); new = ap (λ (k : ℕ). among k hours) back ∙ q })) ∙ f))

    by : (b : Bool) → is_new hours c ≡ b → among h (cond b (hours ++ ((c - 1) ∷ [])) hours) ≡ (among h hours || eqb c (h + 1))
    by true f = among-append h (c - 1) hours ∙ ap (λ (b : Bool). among h hours || b) (same (new-of hours c f).above)
    by false f = which (ℕ_discrete c (h + 1))
      where
        which : Dec (c ≡ h + 1) → among h hours ≡ (among h hours || eqb c (h + 1))
        which (yes e) = old f e ∙ sym (or-true (among h hours)) ∙ ap (λ (b : Bool). among h hours || b) (sym (eq-eqb c (h + 1) e))
        which (no n) = sym (or-false (among h hours)) ∙ ap (λ (b : Bool). among h hours || b) (sym (ne_eqb c (h + 1) n))

pub keep-all-among : (h : ℕ) (cells hours : List ℕ) → h ≤ 24 → among h (keep_all hours cells) ≡ (among h hours || among (h + 1) cells)
unfolding keep_all among
keep-all-among h [] hours small = sym (or-false (among h hours))
keep-all-among h (c ∷ cells) hours small =
    keep-all-among h cells (keep hours c) small
    ∙ ap (λ (b : Bool). b || among (h + 1) cells) (keep-among h c hours small)
    ∙ or_assoc (among h hours) (eqb c (h + 1)) (among (h + 1) cells)

-- a number is among some if and only if it is at one of their places
pub among-place : (x : ℕ) (l : List ℕ) → among x l ≡ true → (k : ℕ) × (k < length l) × (get_or l k 0 ≡ x)
unfolding among
among-place x [] e = absurd (true≢false (sym e))
among-place x (y ∷ l) e = by (eqb y x) refl e (among-place x l)
  where
    by : (b : Bool) → eqb y x ≡ b → (b || among x l) ≡ true → (among x l ≡ true → (k : ℕ) × (k < length l) × (get_or l k 0 ≡ x)) → (k : ℕ) × (k < length (y ∷ l)) × (get_or (y ∷ l) k 0 ≡ x)
    by true q u ih = (0, omega arith, eqb-true y x q)
    by false q u ih = let w = ih u in (suc w.0, omega (arith, w.1), w.2)

pub place-among : (x : ℕ) (l : List ℕ) (k : ℕ) → 0 < x → get_or l k 0 ≡ x → among x l ≡ true
unfolding among
place-among x [] k p e = absurd (omega (arith, p, e))
place-among x (y ∷ l) zero p e = ap (λ (b : Bool). b || among x l) (eq-eqb y x e)
place-among x (y ∷ l) (suc k) p e = ap (λ (b : Bool). eqb y x || b) (place-among x l k p e) ∙ or-true (eqb y x)

-- ---- the first hour of some cells. A free cell: 0, or over 25
abbrev pub Free : ℕ → Type 0
Free byte = (byte ≡ 0) ⊎ (25 < byte)

pub record First (cells : List ℕ) (h : ℕ) : Type 0 where
  pub place : ℕ
  pub cell-is : get_or cells place 0 ≡ h + 1
  pub hour-in : h ≤ 24
  pub free-before : (k : ℕ) → k < place → Free (get_or cells k 0)

abbrev pub AllFree : List ℕ → Type 0
AllFree cells = (k : ℕ) → Free (get_or cells k 0)

free-or-not : (c : ℕ) → Free c ⊎ ((0 < c) × (c ≤ 25))
free-or-not c = by (ℕ_discrete c 0) (dec_lt 25 c)
  where
    by : Dec (c ≡ 0) → Dec (25 < c) → Free c ⊎ ((0 < c) × (c ≤ 25))
    by (yes e) d = inl (inl e)
    by (no n) (yes l) = inl (inr l)
    by (no n) (no m) = inr (above (dec_lt 0 c), omega (arith, m))
      where
        above : Dec (0 < c) → 0 < c
        above (yes p) = p
        above (no p) = absurd (n (omega (arith, p)))

pub all-or-first : (cells : List ℕ) → AllFree cells ⊎ ((h : ℕ) × First cells h)
all-or-first [] = inl (λ k. inl refl)
all-or-first (c ∷ cells) = ⊎_elim (λ (f : Free c). ⊎_elim (λ (a : AllFree cells). inl (free_all f a)) (λ (w : (h : ℕ) × First cells h). inr (w.0, later f w.0 w.1)) (all-or-first cells)) (λ (n : (0 < c) × (c ≤ 25)). inr (c - 1, here n.0 n.1)) (free-or-not c)
  where
    free_all : Free c → AllFree cells → AllFree (c ∷ cells)
    free_all f a zero = f
    free_all f a (suc k) = a k

    later : Free c → (h : ℕ) → First cells h → First (c ∷ cells) h
    later f h w = record { place = suc w.place; cell-is = w.cell-is; hour-in = w.hour-in; free-before = before }
      where
        before : (k : ℕ) → k < suc w.place → Free (get_or (c ∷ cells) k 0)
        before zero l = f
        before (suc k) l = w.free-before k (omega (arith, l))

    here : 0 < c → c ≤ 25 → First (c ∷ cells) (c - 1)
    here p l = record { place = 0; cell-is = omega (arith, p); hour-in = omega (arith, l); free-before = λ k n. absurd (none_below k n) }
      where
        none_below : (k : ℕ) → k < 0 → ⊥
        none_below k n = omega arith

skip : (c : ℕ) → Free c → keep [] c ≡ []
unfolding is_new among
skip c (inl e) = ap (λ (b : Bool). cond (b && (ltb c 26 && true)) ((c - 1) ∷ []) []) (le-ltb 0 c (omega (arith, e)))
skip c (inr l) = ap (λ (b : Bool). cond (ltb 0 c && (b && true)) ((c - 1) ∷ []) []) (le-ltb c 26 (omega (arith, l))) ∙ ap (λ (b : Bool). cond (b && false) ((c - 1) ∷ []) []) (lt-ltb 0 c (omega (arith, l)))

say : (h : ℕ) → h ≤ 24 → keep [] (h + 1) ≡ h ∷ []
unfolding among
say h l = ap (λ (b : Bool). cond b ((h + 1 - 1) ∷ []) []) (is-new [] (h + 1) (record { above = omega arith; below = omega (arith, l); new = refl })) ∙ ap (λ (k : ℕ). k ∷ []) (omega arith)

-- the first hour stays first
stays : (cells l : List ℕ) (x : ℕ) → (rest : List ℕ) × (keep_all (x ∷ l) cells ≡ x ∷ rest)
unfolding keep_all
stays [] l x = (l, refl)
stays (c ∷ cells) l x = by (is_new (x ∷ l) c) (λ m. stays cells m x)
  where
    by : (b : Bool) → ((m : List ℕ) → (rest : List ℕ) × (keep_all (x ∷ m) cells ≡ x ∷ rest)) → (rest : List ℕ) × (keep_all (cond b ((x ∷ l) ++ ((c - 1) ∷ [])) (x ∷ l)) cells ≡ x ∷ rest)
    by true ih = ih (l ++ ((c - 1) ∷ []))
    by false ih = ih l

pub none_said : (cells : List ℕ) → AllFree cells → keep_all [] cells ≡ []
unfolding keep_all
none_said [] f = refl
none_said (c ∷ cells) f = ap (λ (l : List ℕ). keep_all l cells) (skip c (f 0)) ∙ none_said cells (λ k. f (suc k))

said_at : (cells : List ℕ) (h place : ℕ) → get_or cells place 0 ≡ h + 1 → h ≤ 24 → ((k : ℕ) → k < place → Free (get_or cells k 0)) → (rest : List ℕ) × (keep_all [] cells ≡ h ∷ rest)
unfolding keep_all
said_at [] h place e l f = absurd (omega (arith, e))
said_at (c ∷ cells) h zero e l f = let w = stays cells [] h in (w.0, ap (λ (x : ℕ). keep_all (keep [] x) cells) e ∙ ap (λ (x : List ℕ). keep_all x cells) (say h l) ∙ w.1)
said_at (c ∷ cells) h (suc k) e l f = let w = said_at cells h k e l (λ j m. f (suc j) (omega (arith, m))) in (w.0, ap (λ (x : List ℕ). keep_all x cells) (skip c (f 0 (omega arith))) ∙ w.1)

pub first_said : (cells : List ℕ) (h : ℕ) → First cells h → (rest : List ℕ) × (keep_all [] cells ≡ h ∷ rest)
first_said cells h w = said_at cells h w.place w.cell-is w.hour-in w.free-before

-- ---- areas in turn
module _ (w : ℕ → List ℕ) where
  pub none_found : (n t : ℕ) → ((j : ℕ) → j < n → w ((t + j) % 4) ≡ []) → first_waiting w (in_turn n t) ≡ none
  unfolding first_waiting in_turn
  none_found zero t f = refl
  none_found (suc n) t f =
      ap (λ (l : List ℕ). earliest_else (t % 4) l (first_waiting w (in_turn n (t + 1)))) (ap (λ (k : ℕ). w (k % 4)) (omega arith) ∙ f 0 (omega arith))
      ∙ none_found n (t + 1) (λ j l. ap (λ (k : ℕ). w (k % 4)) (omega arith) ∙ f (suc j) (omega (arith, l)))

  pub found_at : (n t ahead h : ℕ) (rest : List ℕ) → ahead < n → ((j : ℕ) → j < ahead → w ((t + j) % 4) ≡ []) → w ((t + ahead) % 4) ≡ h ∷ rest → first_waiting w (in_turn n t) ≡ some (pair ((t + ahead) % 4) h)
  unfolding first_waiting in_turn
  found_at zero t ahead h rest l f e = absurd (none_below l)
    where
      none_below : ahead < 0 → ⊥
      none_below m = omega arith
  found_at (suc n) t zero h rest l f e =
      ap (λ (x : List ℕ). earliest_else (t % 4) x (first_waiting w (in_turn n (t + 1)))) (ap (λ (k : ℕ). w (k % 4)) (omega arith) ∙ e)
      ∙ ap (λ (k : ℕ). some (pair (k % 4) h)) (omega arith)
  found_at (suc n) t (suc ahead) h rest l f e =
      ap (λ (x : List ℕ). earliest_else (t % 4) x (first_waiting w (in_turn n (t + 1)))) (ap (λ (k : ℕ). w (k % 4)) (omega arith) ∙ f 0 (omega arith))
      ∙ found_at n (t + 1) ahead h rest (omega (arith, l)) (λ j m. ap (λ (k : ℕ). w (k % 4)) (omega arith) ∙ f (suc j) (omega (arith, m))) (ap (λ (k : ℕ). w (k % 4)) (omega arith) ∙ e)
      ∙ ap (λ (k : ℕ). some (pair (k % 4) h)) (omega arith)
