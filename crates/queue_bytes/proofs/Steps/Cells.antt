-- One area's hours in the code: 25 cells and how many are taken. What adding an hour and removing the first do to
-- the cells. Assumes nothing.
use Rattle.std.specs.Prelude.{◌≡◌, refl, Bool, true, false, cond, ◌&&◌, ◌||◌, ℕ, zero, suc, ◌+◌, ◌-◌, ◌≤◌, ◌<◌, ltb, length, get_or, drop, set, replicate}
use Rattle.std.proofs.Math.Path.{sym, ap}
use Rattle.std.proofs.Common.{◌∙◌, subst, arith, eq-eqb, ne_eqb, le-ltb, length-append, drop_of_length-le, drop-cons, add-one}
use Rattle.std.proofs.Math.Bool.{not}
use mathlib.Core.List.{List, [], ◌∷◌, ◌++◌, map, append_assoc}
use Rattle.std.proofs.Math.Decide.{dec_lt, ℕ_discrete}
use Rattle.std.proofs.Math.Dec.{eqb}
use Rattle.std.proofs.lemmas.List.{set_at}
use Rattle.queue_bytes.specs.declared.Waiting.{Waiting}
use Rattle.queue_turns.specs.Meaning.Queue.{among}
use Rattle.queue_turns.specs.Steps.Invariant.{Hours}
use Rattle.queue_turns.proofs.Steps.Invariant.{at-most-25, room}
use Rattle.queue_bytes.specs.Meaning.Bytes.{is_new, cells_of, keep}
use Rattle.queue_bytes.proofs.Steps.ReadBack.{new-of, length-cells-map, length-cells}
use Rattle.queue_bytes.specs.Steps.Cells.{waiting_of, Tidy, Addable, counts_behind}

pub addable-room : {w : Waiting} {c : ℕ} → Addable w c → (w.count < 25) × (length w.cells ≡ 25)
addable-room {w} {c} p =
    let t = p.tidy in (
      subst (λ (x : ℕ). x < 25) (sym (ap (λ (v : Waiting). v.count) t.is))
          (room (c - 1) (omega (arith, p.new.below)) p.new.new t.good),
      ap (λ (v : Waiting). length v.cells) t.is ∙ length-cells t.hours (at-most-25 t.good),
    )

map-append : (l m : List ℕ) → map (λ h. h + 1) (l ++ m) ≡ map (λ h. h + 1) l ++ map (λ h. h + 1) m
map-append [] m = refl
map-append (h ∷ l) m = ap (λ (x : List ℕ). (h + 1) ∷ x) (map-append l m)

-- the first free cell takes the hour
pub cells-more : (l : List ℕ) (c : ℕ) → length l < 25 → 0 < c → set (cells_of l) (length l) c ≡ cells_of (l ++ ((c - 1) ∷ []))
unfolding cells_of
cells-more l c few above =
    ap (λ (n : ℕ). set (map (λ h. h + 1) l ++ replicate n 0) (length l) c) left
    ∙ set_at (map (λ h. h + 1) l) 0 (replicate (24 - length l) 0) c (length l) (length-cells-map l)
    ∙ ap (λ (k : ℕ). map (λ h. h + 1) l ++ (k ∷ replicate (24 - length l) 0)) back
    ∙ sym (append_assoc (map (λ h. h + 1) l) ((c - 1 + 1) ∷ []) (replicate (24 - length l) 0))
    ∙ sym (ap (λ (m : List ℕ). m ++ replicate (24 - length l) 0) (map-append l ((c - 1) ∷ [])))
    ∙ ap (λ (n : ℕ). map (λ h. h + 1) (l ++ ((c - 1) ∷ [])) ++ replicate n 0) fewer
  where
    left : 25 - length l ≡ suc (24 - length l)
    left = omega arith

    back : c ≡ c - 1 + 1
    back = omega arith

    fewer : 24 - length l ≡ 25 - length (l ++ ((c - 1) ∷ []))
    fewer = omega (arith, length-append l ((c - 1) ∷ []))

-- the cells move up by one, and the last is free
pub cells-less : (h : ℕ) (l : List ℕ) → length (h ∷ l) ≤ 25 → drop 1 (cells_of (h ∷ l)) ++ (0 ∷ []) ≡ cells_of l
unfolding cells_of
cells-less h l few =
    append_assoc (map (λ k. k + 1) l) (replicate (25 - suc (length l)) 0) (0 ∷ [])
    ∙ ap (λ (m : List ℕ). map (λ k. k + 1) l ++ m) (free (25 - suc (length l)) ∙ ap (λ (n : ℕ). replicate n 0) more)
  where
    free : (n : ℕ) → ◌++◌ {A = ℕ} (replicate n 0) (0 ∷ []) ≡ replicate (suc n) 0
    free zero = refl
    free (suc n) = ap (λ (m : List ℕ). 0 ∷ m) (free n)

    more : suc (25 - suc (length l)) ≡ 25 - length l
    more = omega arith

-- a cell is among the cells if and only if its hour is among the hours
pub among-cells : (l : List ℕ) (c : ℕ) → 0 < c → among c (cells_of l) ≡ among (c - 1) l
unfolding cells_of among
among-cells l c above = go l (25 - length l)
  where
    none_free : (n : ℕ) → among c (replicate n 0) ≡ false
    none_free zero = refl
    none_free (suc n) = ap (λ (b : Bool). b || among c (replicate n 0)) (ne_eqb 0 c (λ e. zero-not c above e)) ∙ none_free n
      where
        zero-not : (k : ℕ) → 0 < k → 0 ≡ k → ⊥
        zero-not k p e = omega arith

    same : (h : ℕ) → eqb (h + 1) c ≡ eqb h (c - 1)
    same h = by (ℕ_discrete h (c - 1))
      where
        by : Dec (h ≡ c - 1) → eqb (h + 1) c ≡ eqb h (c - 1)
        by (yes e) = eq-eqb (h + 1) c (omega arith) ∙ sym (eq-eqb h (c - 1) e)
        by (no e) = ne_eqb (h + 1) c (λ f. e (omega arith)) ∙ sym (ne_eqb h (c - 1) e)

    go : (l : List ℕ) (n : ℕ) → among c (map (λ h. h + 1) l ++ replicate n 0) ≡ among (c - 1) l
    go [] n = none_free n
    go (h ∷ l) n = ap (λ (b : Bool). b || among c (map (λ k. k + 1) l ++ replicate n 0)) (same h) ∙ ap (λ (b : Bool). eqb h (c - 1) || b) (go l n)

-- ---- a search through cells

module _ (cells : List ℕ) (c i : ℕ) where
  pub among-on : i < length cells → among c (drop i cells) ≡ (eqb (get_or cells i 0) c || among c (drop (i + 1) cells))
  unfolding among
  among-on l = ap (λ (x : List ℕ). among c x) (drop-cons cells i 0 l) ∙ ap (λ (k : ℕ). eqb (get_or cells i 0) c || among c (drop k cells)) (sym (add-one i))

  pub among-end : length cells ≤ i → among c (drop i cells) ≡ false
  unfolding among
  among-end l = ap (λ (x : List ℕ). among c x) (drop_of_length-le cells l)

-- ---- the hours after one cell more

pub added_is : (w : Waiting) (c : ℕ) (hours : List ℕ) → Addable w c → w ≡ waiting_of hours
    → ◌≡◌ {A = Waiting} (record { cells = set w.cells w.count c; count = w.count + 1 }) (waiting_of (hours ++ ((c - 1) ∷ [])))
added_is w c hours p e =
    let few : length hours < 25 = subst (λ (v : Waiting). v.count < 25) e (addable-room p).0 in
    let longer : length hours + 1 ≡ length (hours ++ ((c - 1) ∷ [])) = omega (arith, length-append hours ((c - 1) ∷ [])) in
    ap (λ (v : Waiting). record { cells = set v.cells v.count c; count = v.count + 1 }) e
    ∙ (λ i. record { cells = cells-more hours c few p.new.above i; count = longer i })

-- after the cells of some hours, a cell counts if and only if its hour is new
pub counts-new : (hours : List ℕ) (c : ℕ) → counts_behind (cells_of hours) c ≡ is_new hours c
unfolding counts_behind is_new
counts-new hours c = by (dec_lt 0 c)
  where
    by : Dec (0 < c) → counts_behind (cells_of hours) c ≡ is_new hours c
    by (yes p) = ap (λ (b : Bool). ltb 0 c && (ltb c 26 && not b)) (among-cells hours c p)
    by (no p) =
        let free : ltb 0 c ≡ false = le-ltb 0 c (omega arith) in
        ap (λ (b : Bool). b && (ltb c 26 && not (among c (cells_of hours)))) free ∙ sym (ap (λ (b : Bool). b && (ltb c 26 && not (among (c - 1) hours))) free)

-- the hours with one more cell, where it counts and where it does not
module _ (w : Waiting) (c : ℕ) (hours : List ℕ) (good : Hours hours) (e : w ≡ waiting_of hours) where
  is-new-by : (x : Bool) → counts_behind w.cells c ≡ x → is_new hours c ≡ x
  is-new-by x f = sym (ap (λ (v : Waiting). counts_behind v.cells c) e ∙ counts-new hours c) ∙ f

  pub kept-addable : counts_behind w.cells c ≡ true → Addable w c
  kept-addable f = record { tidy = record { hours = hours; good = good; is = e }; new = new-of hours c (is-new-by true f) }

  pub kept_more : counts_behind w.cells c ≡ true
      → ◌≡◌ {A = Waiting} (record { cells = set w.cells w.count c; count = w.count + 1 }) (waiting_of (keep hours c))
  kept_more f = added_is w c hours (kept-addable f) e ∙ ap (λ (b : Bool). waiting_of (cond b (hours ++ ((c - 1) ∷ [])) hours)) (sym (is-new-by true f))

  pub kept_same : counts_behind w.cells c ≡ false → w ≡ waiting_of (keep hours c)
  kept_same f = e ∙ ap (λ (b : Bool). waiting_of (cond b (hours ++ ((c - 1) ∷ [])) hours)) (sym (is-new-by false f))

-- whether a cell is among the cells of hours, by the hour that it stands for
pub among_of : (w : Waiting) (c : ℕ) (hours : List ℕ) → 0 < c → w ≡ waiting_of hours → among c w.cells ≡ among (c - 1) hours
among_of w c hours p e = ap (λ (v : Waiting). among c v.cells) e ∙ among-cells hours c p

pub addable : (w : Waiting) (c : ℕ) → Tidy w → 0 < c → c < 26 → among c w.cells ≡ false → Addable w c
addable w c t p l new = record { tidy = t; new = record { above = p; below = l; new = sym (among_of w c t.hours p t.is) ∙ new } }
