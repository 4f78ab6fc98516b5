-- A row over rows of fields (S-2) is a row over the fields in file order: place n is field n of the part, with that
-- field's test and offset. Assumes nothing.
use Rattle.std.specs.Prelude.{◌≡◌, refl, Bool, not, List, ◌∷◌, ℕ, suc, ◌+◌, ◌*◌, ◌/◌, ◌%◌, ◌≤◌, ◌<◌, T}
use Rattle.std.proofs.Common.{sym, ap, ◌∙◌, subst, mod-lt, div-lt_iff_lt-mul, div-add-mod', mul-le-mul_right, suc-mul, arith}
use Rattle.std.proofs.Math.Option.{Option, none, some}
use Rattle.std.proofs.Math.Decide.{dec_lt}
use Rattle.std.proofs.Math.Arith.{digits_lt, digits_div, digits_mod}
use Rattle.base_causes.specs.Meaning.Causes.{Cause, verdict, first_below, first_field, refusal, each_at, each_field}
use Rattle.base_causes.proofs.Promised.CauseLaws.{First, first-none, first_some, first-is, not-below, no_place, first-field, row-found, row-clear}

-- field k of n rows of w fields: field k % w of row k / w
abbrev pub each_in_order : ℕ → ℕ → ℕ → (ℕ → ℕ → Bool) → (ℕ → ℕ → ℕ) → Cause
each_in_order number n w fault offset = each_at number (n * w) (λ k. fault (k / w) (k % w)) (λ k. offset (k / w) (k % w))

module _ (number n w : ℕ) (some-field : 0 < w) (fault : ℕ → ℕ → Bool) (offset : ℕ → ℕ → ℕ) where
  abbrev rows : Cause
  rows = each_field number n w fault offset

  abbrev in_order : Cause
  in_order = each_in_order number n w fault offset

  clear-row : (i : ℕ) → T (not (rows.fails i)) → (k : ℕ) → k / w ≡ i → T (not (in_order.fails k))
  clear-row i t k e = subst (λ (m : ℕ). T (not (fault m (k % w)))) (sym e) (no_place w (fault i) t (k % w) (mod-lt k some-field))

  none-in-order : first_below n rows.fails ≡ none → first_below (n * w) in_order.fails ≡ none
  none-in-order e = first-none (n * w) in_order.fails (λ k h. clear-row (k / w) (not-below n rows.fails e (k / w) ((div-lt_iff_lt-mul some-field).1 h)) k refl)

  -- the first field of the first row, counted from the first field of the part
  module _ (i : ℕ) (f : First n rows.fails i) where
    j : ℕ
    j = first_field w (fault i)

    g : First w (fault i) j
    unfolding j
    g = first-field w (fault i) f.holds

    row_is : (i * w + j) / w ≡ i
    row_is = digits_div i g.place_in

    field_is : (i * w + j) % w ≡ j
    field_is = digits_mod i g.place_in

    later : (m k : ℕ) → m * w + k % w ≡ k → k < i * w + j → i < m → ⊥
    later m k e h l = let s : suc i ≤ m = l in omega (arith, e, h, mul-le-mul_right w s, suc-mul i w, g.place_in)

    within : (k : ℕ) → k / w ≡ i → k < i * w + j → k % w < j
    within k e h = omega (arith, h, div-add-mod' k w, ap (λ (m : ℕ). m * w) e)

    earlier : (k : ℕ) → k < i * w + j → T (not (in_order.fails k))
    earlier k h = elim (dec_lt (k / w) i) [
      | yes l ↦ clear-row (k / w) (f.none_before (k / w) l) k refl
      | no nl ↦ elim (dec_lt i (k / w)) [
        | yes l ↦ absurd (later (k / w) k (div-add-mod' k w) h l)
        | no ng ↦ same (omega arith)
      ]
    ]
      where
        same : k / w ≡ i → T (not (in_order.fails k))
        same e = subst (λ (m : ℕ). T (not (fault m (k % w)))) (sym e) (g.none_before (k % w) (within k e h))

    first-in-order : First (n * w) in_order.fails (i * w + j)
    first-in-order = record {
      place_in = digits_lt f.place_in g.place_in;
      holds = subst (λ (m : ℕ). T (fault m ((i * w + j) % w))) (sym row_is) (subst (λ (k : ℕ). T (fault i k)) (sym field_is) g.holds);
      none_before = earlier;
    }

    index-in-order : in_order.index (i * w + j) ≡ rows.index i
    unfolding j
    index-in-order = λ k. offset (row_is k) (field_is k)

  -- THE SAME REFUSAL, whatever rows follow
  pub field-by-field : (rs : List Cause) → refusal (rows ∷ rs) ≡ refusal (in_order ∷ rs)
  field-by-field rs = by (first_below n rows.fails) refl
    where
      by : (o : Option ℕ) → first_below n rows.fails ≡ o → refusal (rows ∷ rs) ≡ refusal (in_order ∷ rs)
      by (some i) q =
          let f = first-is n rows.fails i q in
          row-found rows rs i q ∙ sym (row-found in_order rs (i * w + j i f) (first_some (n * w) in_order.fails (i * w + j i f) (first-in-order i f)) ∙ ap (λ (x : ℕ). some (verdict number x)) (index-in-order i f))
      by none q = row-clear rows rs q ∙ sym (row-clear in_order rs (none-in-order q))
