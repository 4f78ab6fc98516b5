-- What the digits mean: every byte is a digit, their value is the number, and there is no leading zero.
-- Assumes nothing.
use Rattle.std.specs.Prelude.{◌≡◌, refl, true, false, [], ◌∷◌, ℕ, zero, suc, ◌+◌, ◌*◌, ◌/◌, ◌%◌, ◌-◌, ◌^◌, ◌<◌, ◌≤◌, length, get_or, T, ℤ, pos, negsuc, nat_abs}
use Rattle.std.proofs.Common.{sym, ap, subst, ◌∙◌, div-add-mod', div-lt_iff_lt-mul, le-div_iff_mul-le, mod-eq_of_lt, arith, ltb-true}
use Rattle.std.proofs.Math.Nat.{pow-succ', pow-le-pow_right}
use Rattle.std.specs.Int.Signed.{lt_z}
use Rattle.std.proofs.Math.Arith.{mod-mul}
use Rattle.text_rules.specs.Meaning.Text.{last_digits, places, count_text, size_text, amount_text, value_from, value_of}
use Rattle.text_rules.proofs.Steps.Places.{places-more, Fewest, fewest}

pub last-length : (k n : ℕ) → length (last_digits k n) ≡ k
unfolding last_digits
last-length zero n = refl
last-length (suc k) n = ap suc (last-length k n)

pub count-length : (n : ℕ) → length (count_text n) ≡ places n
unfolding count_text
count-length n = last-length (places n) n

digit : (d : ℕ) → 48 + d - 48 ≡ d
digit d = omega arith

pub power-positive : (k : ℕ) → 0 < 10 ^ k
power-positive k = pow-le-pow_right (omega arith) {i = 0} {j = k} (omega arith)

value-from : (k n v : ℕ) → value_from v (last_digits k n) ≡ v * 10 ^ k + n % 10 ^ k
unfolding last_digits value_from
value-from zero n v = omega arith
value-from (suc k) n v =
    ap (λ (d : ℕ). value_from (10 * v + d) (last_digits k n)) (digit (n / 10 ^ k % 10))
    ∙ value-from k n (10 * v + n / 10 ^ k % 10)
    ∙ regroup v (10 ^ k) (n / 10 ^ k % 10) (n % 10 ^ k)
    ∙ (λ i. v * sym (pow-succ' 10 k) i + (sym (mod-mul n (omega arith) (power-positive k)) ∙ ap (λ (p : ℕ). n % p) (sym (pow-succ' 10 k))) i)
  where
    regroup : (v p d r : ℕ) → (10 * v + d) * p + r ≡ v * (10 * p) + (d * p + r)
    regroup v p d r = omega arith

-- the value of the last k digits is the number modulo 10 ^ k; the value of a count is the number
pub last-value : (k n : ℕ) → value_of (last_digits k n) ≡ n % 10 ^ k
last-value k n = value-from k n 0 ∙ omega arith

pub count-value : (n : ℕ) → value_of (count_text n) ≡ n
unfolding count_text
count-value n = last-value (places n) n ∙ mod-eq_of_lt (fewest n).holds

-- each byte is a digit
pub last-digits : (k n i : ℕ) → i < k → (48 ≤ get_or (last_digits k n) i 0) × (get_or (last_digits k n) i 0 ≤ 57)
unfolding last_digits
last-digits zero n i h = absurd (omega arith)
last-digits (suc k) n zero h = omega arith
last-digits (suc k) n (suc i) h = last-digits k n i (omega arith)

-- no leading zero, unless it stands alone
lead : (n k : ℕ) → Fewest n (suc k) → 0 < k → 1 ≤ n / 10 ^ k % 10
lead n k f h =
    let over : n / 10 ^ k < 10 = (div-lt_iff_lt-mul (power-positive k)).1 (subst (λ (p : ℕ). n < p) (pow-succ' 10 k) f.holds) in
    subst (λ (d : ℕ). 1 ≤ d) (sym (mod-eq_of_lt over)) ((le-div_iff_mul-le (power-positive k)).1 (omega (arith, f.none-spare k refl h)))

pub no-zero-first : (n : ℕ) → 10 ≤ n → 48 < get_or (count_text n) 0 0
unfolding count_text last_digits
no-zero-first n h = rw (places-more n h) (omega (arith, lead n (places (n / 10)) (rw (places-more n h) at (fewest n)) (fewest (n / 10)).some-place))

-- a size with k decimals gives the number: its whole part in units of the last decimal, and its decimals
pub size-value : (k n : ℕ) → value_of (count_text (n / 10 ^ k)) * 10 ^ k + value_of (last_digits k n) ≡ n
size-value k n = (λ i. count-value (n / 10 ^ k) i * 10 ^ k + last-value k n i) ∙ div-add-mod' n (10 ^ k)

-- an amount by its sign and its size
pub amount-negative : (k : ℕ) (x : ℤ) → lt_z x (pos 0) ≡ true → amount_text k x ≡ 45 ∷ size_text k (nat_abs x)
unfolding amount_text
amount-negative k (pos n) e = absurd (omega (arith, ltb-true n 0 e))
amount-negative k (negsuc n) e = refl

pub amount-positive : (k : ℕ) (x : ℤ) → lt_z x (pos 0) ≡ false → amount_text k x ≡ size_text k (nat_abs x)
unfolding amount_text
amount-positive k (pos n) e = refl
amount-positive k (negsuc n) e = absurd (subst T e tt)
