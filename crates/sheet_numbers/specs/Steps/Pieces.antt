-- A text up to its first mark and what follows the mark, as a piece; and the digits and the number at a place.
-- Assumes nothing.
use Rattle.std.specs.Prelude.{◌≡◌, refl, Bool, true, false, cond, ◌||◌, List, [], ◌∷◌, ℕ, suc, ◌+◌, ◌-◌, ◌≤◌, ◌<◌, eqb, ltb, length, take, drop}
use Rattle.std.proofs.Common.{sym, ap, subst, ◌∙◌, arith, ltb-true, ltb-false, length-drop, drop_of_length-le, drop-drop}
use Rattle.text_rules.specs.Meaning.Text.{value_from}
use Rattle.sheet_numbers.specs.declared.Piece.{Piece}
use Rattle.sheet_numbers.specs.declared.Whole.{Whole}
use Rattle.sheet_numbers.specs.declared.Decimals.{Decimals}
use Rattle.sheet_numbers.specs.Meaning.Numeral.{before, after, non_zero}
use Rattle.sheet_numbers.specs.Steps.Scan.{leading}
use Rattle.sheet_numbers.specs.Steps.Capped.{capped}
use Rattle.sheet_numbers.specs.Meaning.Pieces.{piece_at}

-- BEFORE THE FIRST MARK
pub before-le : (mark : ℕ) (s : List ℕ) → length (before mark s) ≤ length s
unfolding before
before-le mark [] = omega arith
before-le mark (b ∷ bs) = by (eqb b mark) (before-le mark bs)
  where
    by : (t : Bool) → length (before mark bs) ≤ length bs → length (cond t [] (b ∷ before mark bs)) ≤ suc (length bs)
    by true h = omega arith
    by false h = omega arith

-- the rest starts one past it
pub after-drop : (mark : ℕ) (s : List ℕ) → after mark s ≡ drop (suc (length (before mark s))) s
unfolding before after
after-drop mark [] = refl
after-drop mark (b ∷ bs) = by (eqb b mark) (after-drop mark bs)
  where
    by : (t : Bool) → after mark bs ≡ drop (suc (length (before mark bs))) bs → cond t bs (after mark bs) ≡ drop (suc (length (cond t [] (b ∷ before mark bs)))) (b ∷ bs)
    by true e = refl
    by false e = e

pub record Cut (mark : ℕ) (s : List ℕ) (at : ℕ) (p : Piece) : Type 0 where
  pub is : p ≡ piece_at mark s at
  pub ends : p.end ≡ at + length (before mark (drop at s))
  pub inside : p.end ≤ length s
  pub next-in : p.next.at ≤ length s
  pub next-is : p.end < length s → p.next.at ≡ p.end + 1
  pub advances : at < length s → at < p.next.at
  pub rest : drop p.next.at s ≡ after mark (drop at s)

module _ (mark : ℕ) (s : List ℕ) (at : ℕ) (h : at ≤ length s) where
  abbrev front : List ℕ
  front = before mark (drop at s)

  abbrev end : ℕ
  end = at + length front

  most : end ≤ length s
  most = omega (arith, before-le mark (drop at s), length-drop at s)

  past : drop (at + suc (length front)) s ≡ after mark (drop at s)
  past = sym (drop-drop (suc (length front)) at s) ∙ sym (after-drop mark (drop at s))

  abbrev ending : Bool → Piece
  ending t = record { end = end; next = record { at = cond t (end + 1) end } }

  by_end : (t : Bool) → ltb end (length s) ≡ t → Cut mark s at (ending t)
  by_end true q =
      let l = ltb-true end (length s) q in
      let next : end + 1 ≡ at + suc (length front) = omega arith in
      record { is = ap ending (sym q); ends = refl; inside = most; next-in = omega arith; next-is = λ k. refl; advances = λ k. omega arith; rest = ap (λ (k : ℕ). drop k s) next ∙ past }
  by_end false q =
      let g = ltb-false end (length s) q in
      let none : length s ≤ at + suc (length front) = omega arith in
      record { is = ap ending (sym q); ends = refl; inside = most; next-in = most; next-is = λ k. absurd (omega arith); advances = λ k. omega arith; rest = drop_of_length-le s g ∙ sym (drop_of_length-le s none) ∙ past }

  pub cut : {p : Piece} → p ≡ piece_at mark s at → Cut mark s at p
  cut e = subst (Cut mark s at) (sym e) (by_end (ltb end (length s)) refl)

-- THE LEADING DIGITS before a point, of the text t at i, after a size v
abbrev pub whole_from : ℕ → ℕ → List ℕ → Whole
whole_from v i t = record { value = capped (value_from v (leading t)); end = i + length (leading t) }

abbrev pub whole_at : List ℕ → ℕ → Whole
whole_at s at = whole_from 0 at (drop at s)

-- and those after it: the first `left` of them count, and f says whether one past these was not zero so far
abbrev pub decimals_from : ℕ → ℕ → Bool → ℕ → List ℕ → Decimals
decimals_from v left f i t = record {
  value = capped (value_from v (take left (leading t)));
  missing = left - length (leading t);
  finer = f || non_zero (drop left (leading t));
  end = i + length (leading t);
}

abbrev pub decimals_at : List ℕ → ℕ → ℕ → ℕ → Decimals
decimals_at s at x k = decimals_from x k false at (drop at s)
