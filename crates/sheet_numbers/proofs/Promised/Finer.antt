-- A DECIMAL AFTER OURS IS NOT ZERO exactly where the number is no whole number of our units, the converse of
-- `Exact`. So 52 is given where a number would lose something, and nowhere else. Assumes nothing.
use Rattle.std.specs.Prelude.{◌≡◌, refl, Bool, true, false, not, cond, ◌&&◌, ◌||◌, List, [], ◌∷◌, ◌++◌, ◌↔◌, ℕ, zero, suc, ◌+◌, ◌*◌, ◌-◌, ◌^◌, ◌≤◌, ◌<◌, T, eqb, leb, length, take, drop}
use Rattle.std.proofs.Common.{sym, ap, ◌∙◌, subst, pow-suc, mul-le-mul_right, mul-lt-mul_of_pos_right, mul-pos, arith, leb→le, pow-add, length-drop, take-append-drop}
use Rattle.std.proofs.Math.Decide.{dec_lt}
use Rattle.base_integers.specs.Steps.Ranges.{is_true, and_left, and_right}
use Rattle.text_rules.specs.Meaning.Text.{value_from, value_of}
use Rattle.sheet_numbers.specs.Meaning.Numeral.{is_digit, only_digits, digits, has, after, unsigned, whole, decimals, is_number, units, non_zero, finer}
use Rattle.sheet_numbers.proofs.Promised.Exact.{value-then, exact}
use Rattle.sheet_numbers.proofs.Promised.Printed.{value-shift}

clash : false ≡ true → ⊥
clash q = subst (λ (t : Bool). T (not t)) q tt

-- a digit is worth at most 9, and zero only if it is a 0
pub digit-parts : (d : ℕ) → is_digit d ≡ true → (48 ≤ d) × (d ≤ 57)
unfolding is_digit
digit-parts d e = (leb→le 48 d (and_left (leb 48 d) (leb d 57) (is_true e)), leb→le d 57 (and_right (leb 48 d) (leb d 57) (is_true e)))

pub first-digit : (d : ℕ) (ds : List ℕ) → only_digits (d ∷ ds) ≡ true → is_digit d ≡ true
unfolding only_digits
first-digit d ds e = by (is_digit d) e
  where
    by : (c : Bool) → c && only_digits ds ≡ true → c ≡ true
    by true e = refl
    by false e = e

pub other-digits : (d : ℕ) (ds : List ℕ) → only_digits (d ∷ ds) ≡ true → only_digits ds ≡ true
unfolding only_digits
other-digits d ds e = by (is_digit d) e
  where
    by : (c : Bool) → c && only_digits ds ≡ true → only_digits ds ≡ true
    by true e = e
    by false e = absurd (clash e)

only-drop : (k : ℕ) (ds : List ℕ) → only_digits ds ≡ true → only_digits (drop k ds) ≡ true
only-drop zero ds e = e
only-drop (suc k) [] e = e
only-drop (suc k) (d ∷ ds) e = only-drop k ds (other-digits d ds e)

ten-pos : (n : ℕ) → 0 < 10 ^ n
ten-pos zero = omega arith
ten-pos (suc n) = omega (arith, pow-suc 10 n, ten-pos n)

-- the value of digits: less than one of the unit before them, and more than zero where one is not 0
less-than-one : (ds : List ℕ) → only_digits ds ≡ true → value_from 0 ds < 10 ^ length ds
unfolding value_from
less-than-one [] e = omega arith
less-than-one (d ∷ ds) e =
    let p = digit-parts d (first-digit d ds e) in
    omega (arith, value-shift (10 * 0 + (d - 48)) ds, pow-suc 10 (length ds), less-than-one ds (other-digits d ds e), mul-le-mul_right {m = 10 * 0 + (d - 48)} {n = 9} (10 ^ length ds) (omega arith))

more-than-none : (ds : List ℕ) → only_digits ds ≡ true → non_zero ds ≡ true → 0 < value_from 0 ds
unfolding value_from non_zero
more-than-none [] e f = absurd (clash f)
more-than-none (d ∷ ds) e f = by (λ g. more-than-none ds (other-digits d ds e) g) (eqb d 48) refl f
  where
    digit : (48 ≤ d) × (d ≤ 57)
    digit = digit-parts d (first-digit d ds e)

    by : (non_zero ds ≡ true → 0 < value_from 0 ds) → (c : Bool) → eqb d 48 ≡ c → not c || non_zero ds ≡ true → 0 < value_from (10 * 0 + (d - 48)) ds
    by more true q f = omega (arith, value-shift (10 * 0 + (d - 48)) ds, more f)
    by more false q f =
        let ne : 48 < d = above d digit.0 (λ z. clash (sym q ∙ ap (λ (x : ℕ). eqb x 48) z)) in
        omega (arith, value-shift (10 * 0 + (d - 48)) ds, mul-le-mul_right {m = 1} {n = 10 * 0 + (d - 48)} (10 ^ length ds) (omega arith), ten-pos (length ds))
      where
        above : (d : ℕ) → 48 ≤ d → (d ≡ 48 → ⊥) → 48 < d
        above d h ne = omega arith

-- a whole number of units with a rest below one unit is no whole number of units
no_whole : (n a p r q : ℕ) → 0 < q → 0 < r → r < p → n * (p * q) ≡ (a * p + r) * q → ⊥
no_whole n a p r q Q R l e = by (dec_lt a n)
  where
    some : 0 < r * q
    some = mul-pos R Q

    less : r * q < p * q
    less = mul-lt-mul_of_pos_right l Q

    by : Dec (a < n) → ⊥
    by (yes h) = omega (arith, e, less, mul-le-mul_right {m = a + 1} {n = n} (p * q) (omega arith))
    by (no h) = omega (arith, e, some, mul-le-mul_right {m = n} {n = a} (p * q) (omega arith))

-- digits after a number v, of which one after digit k is not 0
not-counted : (k v n : ℕ) (ds : List ℕ) → only_digits ds ≡ true → non_zero (drop k ds) ≡ true → n * 10 ^ length ds ≡ value_from v ds * 10 ^ k → ⊥
not-counted k v n ds e f q =
    let rest = drop k ds in
    let R : 0 < value_from 0 rest = more-than-none rest (only-drop k ds e) f in
    let l : value_from 0 rest < 10 ^ length rest = less-than-one rest (only-drop k ds e) in
    let some : 0 < length rest = longer (length rest) (value_from 0 rest) R l in
    let many : length ds ≡ length rest + k = omega (arith, length-drop k ds) in
    let split : value_from v ds ≡ value_from v (take k ds) * 10 ^ length rest + value_from 0 rest = ap (value_from v) (sym (take-append-drop k ds)) ∙ value-then v (take k ds) rest ∙ value-shift (value_from v (take k ds)) rest in
    no_whole n (value_from v (take k ds)) (10 ^ length rest) (value_from 0 rest) (10 ^ k) (ten-pos k) R l
    (ap (λ (x : ℕ). n * x) (sym (pow-add 10 (length rest) k) ∙ ap (λ (j : ℕ). 10 ^ j) (sym many)) ∙ q ∙ ap (λ (x : ℕ). x * 10 ^ k) split)
  where
    longer : (j r : ℕ) → 0 < r → r < 10 ^ j → 0 < j
    longer zero r h l = absurd (omega arith)
    longer (suc j) r h l = omega arith

-- a number's decimals are digits, or there are none
none_after : (t : List ℕ) → has 46 t ≡ false → after 46 t ≡ []
unfolding has after
none_after [] e = refl
none_after (b ∷ t) e = by (none_after t) (eqb b 46) e
  where
    by : (has 46 t ≡ false → after 46 t ≡ []) → (c : Bool) → c || has 46 t ≡ false → cond c t (after 46 t) ≡ []
    by more true e = absurd (clash (sym e))
    by more false e = more e

pub decimals-digits : (text : List ℕ) → is_number text ≡ true → only_digits (decimals text) ≡ true
unfolding is_number decimals digits only_digits
decimals-digits text e = by (has 46 (unsigned text)) refl (second (digits (whole text)) e)
  where
    second : (a : Bool) {b : Bool} → a && b ≡ true → b ≡ true
    second true e = e
    second false e = absurd (clash e)

    all : (l : List ℕ) → digits l ≡ true → only_digits l ≡ true
    all [] e = absurd (clash e)
    all (b ∷ l) e = e

    by : (c : Bool) → has 46 (unsigned text) ≡ c → not c || digits (after 46 (unsigned text)) ≡ true → only_digits (after 46 (unsigned text)) ≡ true
    by true q e = all (after 46 (unsigned text)) e
    by false q e = ap only_digits (none_after (unsigned text) q)

-- 52 IS GIVEN FOR A CAUSE: a number finer than decimal k is no whole number of its units
pub no-units : (k : ℕ) (text : List ℕ) → is_number text ≡ true → finer k text ≡ true → (n : ℕ) → n * 10 ^ length (decimals text) ≡ value_of (whole text ++ decimals text) * 10 ^ k → ⊥
unfolding finer
no-units k text e f n q = not-counted k (value_of (whole text)) n (decimals text) (decimals-digits text e) f (q ∙ ap (λ (x : ℕ). x * 10 ^ k) (value-then 0 (whole text) (decimals text)))

-- and so in both directions
pub finer-iff : (k : ℕ) (text : List ℕ) → is_number text ≡ true → (finer k text ≡ false) ↔ ((n : ℕ) × (n * 10 ^ length (decimals text) ≡ value_of (whole text ++ decimals text) * 10 ^ k))
finer-iff k text e = (λ f. (units k text, exact k text f), λ w. by (finer k text) refl w)
  where
    by : (c : Bool) → finer k text ≡ c → (n : ℕ) × (n * 10 ^ length (decimals text) ≡ value_of (whole text ++ decimals text) * 10 ^ k) → c ≡ false
    by true f w = absurd (no-units k text e f w.0 w.1)
    by false f w = refl
