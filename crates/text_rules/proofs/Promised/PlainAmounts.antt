-- COUNTS AND AMOUNTS READ BACK, in plain bytes: a digit is 48 to 57, the point 46, the minus sign 45. The facts of
-- `ReadsCount` and of `ReadsAmount` fix every byte of a text. Assumes nothing.
use Rattle.std.specs.Prelude.{◌≡◌, refl, List, [], ◌∷◌, ◌++◌, ℕ, suc, ◌+◌, ◌-◌, ◌*◌, ◌/◌, ◌^◌, ◌<◌, ◌≤◌, length, get_or, ℤ, pos, negsuc, neg_ℤ, ◌≤ℤ◌, ◌<ℤ◌}
use Rattle.std.proofs.Common.{sym, ap, ◌∙◌, arith, length-append, le→leb, pow-add}
use Rattle.std.proofs.Math.Nat.{pow-succ'}
use Rattle.std.proofs.Math.Decide.{dec_lt}
use Rattle.std.specs.Int.Signed.{le_z_yes, clash_ℤ}
use Rattle.text_rules.specs.Meaning.Text.{last_digits, count_text, size_text, amount_text, value_from, value_of}
use Rattle.text_rules.proofs.Steps.Places.{places-one, fewest}
use Rattle.text_rules.proofs.Promised.Value.{last-length, count-length, count-value, last-digits, no-zero-first, size-value}

-- THE VALUE of digits: each byte less 48, times ten for each digit after it
abbrev pub said : List ℕ → ℕ
said [] = 0
said (d ∷ ds) = (d - 48) * 10 ^ length ds + said ds

abbrev pub AllDigits : List ℕ → Type 0
AllDigits ds = (i : ℕ) → i < length ds → (48 ≤ get_or ds i 0) × (get_or ds i 0 ≤ 57)

-- A COUNT: digits with the value n, and no leading zero
pub record ReadsCount (n : ℕ) (text : List ℕ) : Type 0 where
  pub some-digit : 1 ≤ length text
  pub all_digits : AllDigits text
  pub no-zero-in-front : 2 ≤ length text → 49 ≤ get_or text 0 0
  pub count-is : said text ≡ n

-- AN AMOUNT of x units with k decimals: a minus sign if and only if x is below zero; the whole part, the point, the
-- decimals. Without the point the digits give the number of units: with eight decimals x is 100,000,000 times the
-- amount
pub record ReadsAmount (k : ℕ) (x : ℤ) (text : List ℕ) : Type 0 where
  pub whole : List ℕ
  pub decimals : List ℕ
  pub below-zero : x <ℤ pos 0 → (text ≡ 45 ∷ (whole ++ (46 ∷ decimals))) × (x ≡ neg_ℤ (pos (said (whole ++ decimals))))
  pub from_zero : pos 0 ≤ℤ x → (text ≡ whole ++ (46 ∷ decimals)) × (x ≡ pos (said (whole ++ decimals)))
  pub some-digit : 1 ≤ length whole
  pub whole-digits : AllDigits whole
  pub no-zero-in-front : 2 ≤ length whole → 49 ≤ get_or whole 0 0
  pub decimals-count : length decimals ≡ k
  pub decimal-digits : AllDigits decimals

-- THE VALUE OF DIGITS, one after another
value-from : (v : ℕ) (ds : List ℕ) → value_from v ds ≡ v * 10 ^ length ds + said ds
unfolding value_from
value-from v [] = omega arith
value-from v (d ∷ ds) = value-from (10 * v + (d - 48)) ds ∙ regroup v (10 ^ length ds) (d - 48) (said ds) ∙ ap (λ (p : ℕ). v * p + ((d - 48) * 10 ^ length ds + said ds)) (sym (pow-succ' 10 (length ds)))
  where
    regroup : (v p d r : ℕ) → (10 * v + d) * p + r ≡ v * (10 * p) + (d * p + r)
    regroup v p d r = omega arith

pub value-said : (ds : List ℕ) → value_of ds ≡ said ds
value-said ds = value-from 0 ds ∙ omega arith

said-both : (a b : List ℕ) → said (a ++ b) ≡ said a * 10 ^ length b + said b
said-both [] b = omega arith
said-both (d ∷ a) b =
    (λ i. (d - 48) * (ap (λ (n : ℕ). 10 ^ n) (length-append a b) ∙ pow-add 10 (length a) (length b)) i + said-both a b i)
    ∙ regroup (d - 48) (10 ^ length a) (10 ^ length b) (said a) (said b)
  where
    regroup : (d p q x y : ℕ) → d * (p * q) + (x * q + y) ≡ (d * p + x) * q + y
    regroup d p q x y = omega arith

-- A COUNT
count-digits : (n : ℕ) → AllDigits (count_text n)
unfolding count_text
count-digits n i h = last-digits _ n i (omega (arith, h, count-length n))

no_zero : (n : ℕ) → 2 ≤ length (count_text n) → 49 ≤ get_or (count_text n) 0 0
no_zero n h = elim (dec_lt n 10) [ yes l ↦ absurd (omega (arith, h, count-length n, places-one n l)) | no g ↦ no-zero-first n (omega arith) ]

pub count-reads : (n : ℕ) → ReadsCount n (count_text n)
count-reads n = record {
  some-digit = omega (arith, count-length n, (fewest n).some-place);
  all_digits = count-digits n;
  no-zero-in-front = no_zero n;
  count-is = sym (value-said (count_text n)) ∙ count-value n;
}

-- AN AMOUNT
size-said : (k n : ℕ) → said (count_text (n / 10 ^ k) ++ last_digits k n) ≡ n
size-said k n =
    said-both (count_text (n / 10 ^ k)) (last_digits k n)
    ∙ (λ i. sym (value-said (count_text (n / 10 ^ k))) i * 10 ^ last-length k n i + sym (value-said (last_digits k n)) i)
    ∙ size-value k n

module _ (k n : ℕ) where
  abbrev whole_part : List ℕ
  whole_part = count_text (n / 10 ^ k)

  reads : (x : ℤ) (text : List ℕ)
      → (x <ℤ pos 0 → (text ≡ 45 ∷ (whole_part ++ (46 ∷ last_digits k n))) × (x ≡ neg_ℤ (pos (said (whole_part ++ last_digits k n)))))
      → (pos 0 ≤ℤ x → (text ≡ whole_part ++ (46 ∷ last_digits k n)) × (x ≡ pos (said (whole_part ++ last_digits k n))))
      → ReadsAmount k x text
  reads x text a b =
      let w = count-reads (n / 10 ^ k) in
      record {
        whole = whole_part;
        decimals = last_digits k n;
        below-zero = a;
        from_zero = b;
        some-digit = w.some-digit;
        whole-digits = w.all_digits;
        no-zero-in-front = w.no-zero-in-front;
        decimals-count = last-length k n;
        decimal-digits = λ i h. last-digits k n i (omega (arith, h, last-length k n));
      }

from-0 : (n : ℕ) → pos 0 ≤ℤ pos n
from-0 n = le_z_yes (le→leb 0 n (omega arith))

below : (n : ℕ) → negsuc n <ℤ pos 0
below n = record { lt = tt }

pub amount-reads : (k : ℕ) (x : ℤ) → ReadsAmount k x (amount_text k x)
unfolding amount_text size_text
amount-reads k (pos n) = reads k n (pos n) _ (λ l. clash_ℤ l (from-0 n)) (λ l. (refl, ap pos (sym (size-said k n))))
amount-reads k (negsuc n) = reads k (suc n) (negsuc n) _ (λ l. (refl, ap (λ (m : ℕ). neg_ℤ (pos m)) (sym (size-said k (suc n))))) (λ l. clash_ℤ (below n) l)

-- THE SIGN, both ways
pub minus-first : (k : ℕ) (x : ℤ) → x <ℤ pos 0 → get_or (amount_text k x) 0 0 ≡ 45
minus-first k x h = ap (λ (text : List ℕ). get_or text 0 0) ((amount-reads k x).below-zero h).0

pub only-minus-first : (k : ℕ) (x : ℤ) → get_or (amount_text k x) 0 0 ≡ 45 → x <ℤ pos 0
only-minus-first k (negsuc n) e = below n
only-minus-first k (pos n) e =
    let a = amount-reads k (pos n) in
    absurd (no a.whole a.decimals a.some-digit (a.whole-digits 0 a.some-digit) (ap (λ (text : List ℕ). get_or text 0 0) (sym (a.from_zero (from-0 n)).0) ∙ e))
  where
    no : (ds rest : List ℕ) → 1 ≤ length ds → (48 ≤ get_or ds 0 0) × (get_or ds 0 0 ≤ 57) → get_or (ds ++ (46 ∷ rest)) 0 0 ≡ 45 → ⊥
    no [] rest h l e = omega arith
    no (d ∷ ds) rest h l e = omega (arith, l.0)
