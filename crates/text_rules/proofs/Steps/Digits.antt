-- Digits put from the right: the text so far, and what is left of the number. Assumes nothing.
use Rattle.std.specs.Prelude.{◌≡◌, refl, List, ◌∷◌, ℕ, suc, ◌+◌, ◌/◌, ◌%◌, ◌^◌, set}
use Rattle.std.proofs.Common.{sym, ap, ◌∙◌, pow-suc, arith}
use Rattle.std.proofs.Math.Nat.{div-div-eq-div-mul}
use Rattle.std.proofs.lemmas.List.Edits.{sets}
use Rattle.text_rules.specs.Meaning.Text.{last_digits}
use Rattle.text_rules.proofs.Steps.Put.{put_front}

-- from `past` on stand the last k digits of n, and `rest` is n without them: the last digit of `rest` goes in front
pub put-digit : (before after : List ℕ) (at past k n rest x : ℕ) → at + 1 ≡ past → after ≡ sets before past (last_digits k n) → rest ≡ n / 10 ^ k → x ≡ 48 + rest % 10
    → set after at x ≡ sets before at (last_digits (suc k) n)
unfolding last_digits
put-digit before after at past k n rest x e p r d =
    (λ i. set (p i) at (d i))
    ∙ put_front before at past (48 + rest % 10) (last_digits k n) e
    ∙ ap (λ (m : ℕ). sets before at ((48 + m % 10) ∷ last_digits k n)) r

pub tenth : (k n rest : ℕ) → rest ≡ n / 10 ^ k → rest / 10 ≡ n / 10 ^ suc k
tenth k n rest e = ap (λ (m : ℕ). m / 10) e ∙ div-div-eq-div-mul n (10 ^ k) 10 ∙ ap (λ (p : ℕ). n / p) (sym (pow-suc 10 k))

-- and two of them, where the table's entry is a hundred
pub put_two : (before after : List ℕ) (at past k n rest hundred x y : ℕ) → hundred ≡ 100 → at + 2 ≡ past → after ≡ sets before past (last_digits k n) → rest ≡ n / 10 ^ k
    → y ≡ 48 + rest % hundred % 10 → x ≡ 48 + rest % hundred / 10 % 10 → set (set after (at + 1) y) at x ≡ sets before at (last_digits (suc (suc k)) n)
put_two before after at past k n rest hundred x y e l p r low high =
    put-digit
    before
    (set after (at + 1) y)
    at
    (at + 1)
    (suc k)
    n
    (rest / 10)
    x
    refl
    (put-digit before after (at + 1) past k n rest y (omega arith) p r (low ∙ ap (λ (h : ℕ). 48 + rest % h % 10) e ∙ omega arith))
    (tenth k n rest r)
    (high ∙ ap (λ (h : ℕ). 48 + rest % h / 10 % 10) e ∙ omega arith)

pub hundredth : (k n rest hundred : ℕ) → hundred ≡ 100 → rest ≡ n / 10 ^ k → rest / hundred ≡ n / 10 ^ suc (suc k)
hundredth k n rest hundred e r = ap (λ (h : ℕ). rest / h) e ∙ two ∙ tenth (suc k) n (rest / 10) (tenth k n rest r)
  where
    two : rest / 100 ≡ rest / 10 / 10
    two = omega arith
