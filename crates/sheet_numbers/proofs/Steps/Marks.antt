-- MARKS IN A TEXT: where two of them part it; a number has no separator. Assumes nothing.
use Rattle.std.specs.Prelude.{◌≡◌, Bool, ◌||◌}
use Rattle.std.proofs.Math.Path.{refl, ap}
use Rattle.std.proofs.Common.{sym, ◌∙◌, arith, eq-eqb, eqb-true}
use Rattle.std.proofs.Math.Bool.{true, false, cond}
use mathlib.Core.List.{List, [], ◌∷◌, ◌++◌, append-nil}
use Rattle.std.proofs.Math.Option.{Option, none, some}
use Prim.Native.Nat.{ℕ, suc, ◌<◌}
use Rattle.std.proofs.Math.Dec.{eqb}
use Rattle.std.proofs.Math.ListN.{length}
use Rattle.sheet_numbers.specs.Meaning.Numeral.{digits, has, before, after, negative, whole, is_number}
use Rattle.sheet_numbers.specs.Meaning.Scan.{Separator}
use Rattle.sheet_numbers.proofs.Steps.Scan.{clash, has-then}
use Rattle.sheet_numbers.proofs.Promised.Spelled.{minus, point, point_digits, numeral, after_point, number_spelled, digits-lead}

-- TWO MARKS: a text up to the first m has the mark k, so k stands before m
module _ (k m : ℕ) (apart : eqb k m ≡ false) where
  pub split-within : (t : List ℕ) → has k (before m t) ≡ true → before m t ≡ before k t ++ k ∷ before m (after k t)
  unfolding has before after
  split-within [] e = absurd (clash (sym e))
  split-within (b ∷ t) e = by (eqb b m) (eqb b k) refl e (split-within t)
    where
      by : (c d : Bool) → eqb b k ≡ d → has k (cond c [] (b ∷ before m t)) ≡ true → (has k (before m t) ≡ true → before m t ≡ before k t ++ k ∷ before m (after k t))
          → cond c [] (b ∷ before m t) ≡ cond d [] (b ∷ before k t) ++ k ∷ before m (cond d t (after k t))
      by true d r e ih = absurd (clash (sym e))
      by false true r e ih = ap (λ (x : ℕ). x ∷ before m t) (eqb-true b k r)
      by false false r e ih = ap (λ (l : List ℕ). b ∷ l) (ih (ap (λ (x : Bool). x || has k (before m t)) (sym r) ∙ e))

  -- where m does not stand before k, and k is there, the text up to m has k
  pub within_has : (t : List ℕ) → has m (before k t) ≡ false → length (before k t) < length t → has k (before m t) ≡ true
  unfolding has before
  within_has [] e h = absurd (omega arith)
  within_has (b ∷ t) e h = by (eqb b k) refl (eqb b m) refl e h (λ q l. within_has t q l)
    where
      by : (d : Bool) → eqb b k ≡ d → (c : Bool) → eqb b m ≡ c → has m (cond d [] (b ∷ before k t)) ≡ false → length (cond d [] (b ∷ before k t)) < suc (length t)
          → (has m (before k t) ≡ false → length (before k t) < length t → has k (before m t) ≡ true) → has k (cond c [] (b ∷ before m t)) ≡ true
      by true r true q e h ih = absurd (clash (sym q ∙ ap (λ (x : ℕ). eqb x m) (eqb-true b k r) ∙ apart))
      by true r false q e h ih = ap (λ (x : Bool). x || has k (before m t)) r
      by false r true q e h ih = absurd (clash (ap (λ (x : Bool). x || has m (before k t)) (sym q) ∙ e))
      by false r false q e h ih = ap (λ (x : Bool). x || has k (before m t)) r ∙ ih (ap (λ (x : Bool). x || has m (before k t)) (sym q) ∙ e) (omega arith)

-- A NUMBER HAS NO SEPARATOR
module _ (mark : ℕ) (sep : Separator mark) where
  other : (b : ℕ) → eqb mark b ≡ false → eqb b mark ≡ false
  other b e = by (eqb b mark) refl
    where
      by : (c : Bool) → eqb b mark ≡ c → c ≡ false
      by true q = absurd (clash (sym (eq-eqb mark b (sym (eqb-true b mark q))) ∙ e))
      by false q = refl

  digits-lack : (w l : List ℕ) → digits w ≡ true → has mark (w ++ l) ≡ has mark l
  digits-lack w l e = ap (λ (x : List ℕ). has mark (x ++ l)) (sym (digits-lead w e)) ∙ has-then l mark sep.no_digit w

  pub number-lacks : (text : List ℕ) → is_number text ≡ true → has mark text ≡ false
  unfolding numeral has
  number-lacks text e =
      let s = number_spelled text e in
      ap (has mark) s.1.1 ∙ sign (negative text) (whole text ++ point (after_point text)) ∙ digits-lack (whole text) (point (after_point text)) s.0 ∙ decimals (after_point text) s.1.0
    where
      sign : (b : Bool) (l : List ℕ) → has mark (minus b ++ l) ≡ has mark l
      sign true l = ap (λ (x : Bool). x || has mark l) (other 45 sep.no_sign)
      sign false l = refl

      decimals : (o : Option (List ℕ)) → point_digits o ≡ true → has mark (point o) ≡ false
      decimals none f = refl
      decimals (some d) f = ap (λ (x : Bool). x || has mark d) (other 46 sep.no-point) ∙ ap (has mark) (sym (append-nil d)) ∙ digits-lack d [] f
