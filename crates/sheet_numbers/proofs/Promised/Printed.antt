-- READ BACK FROM PRINT. What the desk prints for an amount with k decimals is a number, and in units of decimal k
-- it is the amount. Assumes nothing.
use Rattle.std.specs.Prelude.{◌≡◌, refl, Bool, true, false, ◌&&◌, ℕ, zero, suc, ◌+◌, ◌*◌, ◌/◌, ◌%◌, ◌-◌, ◌^◌, ◌<◌, length, ℤ, pos, negsuc}
use Rattle.std.proofs.Common.{sym, ◌∙◌, pow-suc, arith, le-leb}
use Rattle.std.proofs.Math.Path.{ap}
use mathlib.Core.List.{List, [], ◌∷◌, ◌++◌}
use Rattle.std.proofs.Math.Option.{some}
use Rattle.text_rules.specs.Meaning.Text.{value_from, value_of, last_digits, places, count_text, size_text, amount_text}
use Rattle.text_rules.proofs.Steps.Places.{fewest}
use Rattle.text_rules.proofs.Promised.Value.{last-length, size-value}
use Rattle.sheet_numbers.specs.Meaning.Numeral.{is_digit, only_digits, digits, is_number, first_of, units, sign, value}
use Rattle.sheet_numbers.proofs.Promised.Exact.{value-then}
use Rattle.sheet_numbers.proofs.Promised.Spelled.{numeral, Spelled, spelled}

-- the printed bytes are digits
printed-only : (k n : ℕ) → only_digits (last_digits k n) ≡ true
unfolding last_digits only_digits is_digit
printed-only zero n = refl
printed-only (suc k) n = (λ i. le-leb 48 (48 + n / 10 ^ k % 10) (omega arith) i && le-leb (48 + n / 10 ^ k % 10) 57 (omega arith) i && printed-only k n i)

printed-digits : (k n : ℕ) → 0 < k → digits (last_digits k n) ≡ true
unfolding last_digits digits
printed-digits zero n h = absurd (omega arith)
printed-digits (suc k) n h = printed-only (suc k) n

count-digits : (n : ℕ) → digits (count_text n) ≡ true
unfolding count_text
count-digits n = printed-digits (places n) n (omega (arith, (fewest n).some-place))

-- as many digits as asked for
first-all : (ds : List ℕ) → first_of (length ds) ds ≡ ds
unfolding first_of
first-all [] = refl
first-all (d ∷ ds) = ap (λ (l : List ℕ). d ∷ l) (first-all ds)

-- digits after a number
pub value-shift : (v : ℕ) (ds : List ℕ) → value_from v ds ≡ v * 10 ^ length ds + value_from 0 ds
unfolding value_from
value-shift v [] = omega arith
value-shift v (d ∷ ds) =
    value-shift (10 * v + (d - 48)) ds
    ∙ regroup v (10 ^ length ds) (d - 48) (value_from 0 ds)
    ∙ (λ i. v * sym (pow-suc 10 (length ds)) i + sym (value-shift (10 * 0 + (d - 48)) ds) i)
  where
    regroup : (v p d r : ℕ) → (10 * v + d) * p + r ≡ v * (p * 10) + ((10 * 0 + d) * p + r)
    regroup v p d r = omega arith

-- an amount by its sign and its size
module _ (k n : ℕ) (h : 0 < k) (s : Bool) where
  abbrev text : List ℕ
  text = numeral s (count_text (n / 10 ^ k)) (some (last_digits k n))

  parts : Spelled text s (count_text (n / 10 ^ k)) (some (last_digits k n))
  parts = spelled s (count_text (n / 10 ^ k)) (some (last_digits k n)) (count-digits (n / 10 ^ k)) (printed-digits k n h)

  all : first_of k (last_digits k n) ≡ last_digits k n
  all = ap (λ (j : ℕ). first_of j (last_digits k n)) (sym (last-length k n)) ∙ first-all (last_digits k n)

  units-are : units k text ≡ n
  unfolding units
  units-are =
      (λ i. value_of (parts.whole_is i ++ first_of k (parts.decimals-are i)))
      ∙ ap (λ (l : List ℕ). value_of (count_text (n / 10 ^ k) ++ l)) all
      ∙ value-then 0 (count_text (n / 10 ^ k)) (last_digits k n)
      ∙ value-shift (value_of (count_text (n / 10 ^ k))) (last_digits k n)
      ∙ ap (λ (j : ℕ). value_of (count_text (n / 10 ^ k)) * 10 ^ j + value_of (last_digits k n)) (last-length k n)
      ∙ size-value k n

  value-is : value k text ≡ sign s n
  unfolding value
  value-is = (λ i. sign (parts.sign-is i) (units-are i))

pub printed-number : (k : ℕ) (x : ℤ) → 0 < k → is_number (amount_text k x) ≡ true
unfolding amount_text size_text numeral
printed-number k (pos n) h = (parts k n h false).is-number
printed-number k (negsuc n) h = (parts k (suc n) h true).is-number

pub printed-value : (k : ℕ) (x : ℤ) → 0 < k → value k (amount_text k x) ≡ x
unfolding amount_text size_text numeral
printed-value k (pos n) h = value-is k n h false
printed-value k (negsuc n) h = value-is k (suc n) h true
