-- 64 BITS IN PLAIN NUMBERS, for any number b: bit 63 is the sign, bits 52 to 62 are the exponent field, bits 0 to
-- 51 the fraction field. A finite value is units b / 2 ^ 1074 with its sign. The laws say, by the bits alone and
-- both ways, which bits are finite, which value they have, which are below zero and which above one. No machine
-- float enters. Assumes nothing.
use Rattle.std.specs.Prelude.{◌≡◌, ℕ, zero, suc, ◌+◌, ◌-◌, ◌*◌, ◌/◌, ◌%◌, ◌^◌, ◌<◌, ◌≤◌, Bool, true, false, cond, not, ◌&&◌, T, ◌↔◌, ◌==◌, ◌≢◌, nat_lt, refl}
use Rattle.std.proofs.Common.{sym, ◌∙◌, subst, le_trans, le_of_lt, not-le_of_lt, lt_of_lt_of_le, mul-le-mul, mul-lt-mul_of_pos_right, mul-pos, pow-suc, ltb-true, lt-ltb, le-leb, eqb-true, eq-eqb, ne_eqb, leb→le, lit<, lit≤, pow_pos}
use Rattle.std.proofs.Math.Path.{ap}
use Rattle.std.proofs.Math.Nat.{pow-le-pow_right}
use Rattle.std.proofs.Math.Decide.{dec_lt}
use native.Mathlib.Omega.{arith}
use Rattle.std.proofs.lemmas.Bool.{lt-leb, not-false}
use Rattle.std.proofs.Math.Dec.{eqb-suc-zero}
use Rattle.base_integers.specs.Steps.Ranges.{is_true, and_left, and_right}
use Rattle.dump_binary64.specs.Meaning.Value.{minus, exponent, fraction, finite, units, negative, above_one}

-- NOT FINITE, an infinity or a NaN: the exponent field's eleven bits are all ones
pub not-finite : (b : ℕ) → (finite b ≡ false) ↔ (b / 2 ^ 52 % 2048 ≡ 2047)
unfolding finite
not-finite b = (λ e. field b (eqb-true (exponent b) 2047 (not-false _ e)), λ e. ap not (eq-eqb (exponent b) 2047 (back b e)))
  where
    field : (b : ℕ) → b % 0x8000_0000_0000_0000 / 0x10_0000_0000_0000 ≡ 2047 → b / 0x10_0000_0000_0000 % 2048 ≡ 2047
    field b e = omega arith

    back : (b : ℕ) → b / 0x10_0000_0000_0000 % 2048 ≡ 2047 → b % 0x8000_0000_0000_0000 / 0x10_0000_0000_0000 ≡ 2047
    back b e = omega arith

-- THE VALUE of a sign s, an exponent field e and a fraction field f: (2 ^ 52 + f) * 2 ^ e / 2 ^ 1075; where e is 0,
-- f / 2 ^ 1074
module _ (s e f : ℕ) (s-in : s < 2) (e-in : e < 2048) (f-in : f < 2 ^ 52) where
  abbrev word : ℕ
  word = s * 2 ^ 63 + e * 2 ^ 52 + f

  exponent-is : exponent word ≡ e
  exponent-is = by s e f s-in e-in f-in
    where
      by : (s e f : ℕ) → s < 2 → e < 2048 → f < 0x10_0000_0000_0000 → (s * 0x8000_0000_0000_0000 + e * 0x10_0000_0000_0000 + f) % 0x8000_0000_0000_0000 / 0x10_0000_0000_0000 ≡ e
      by s e f h k l = omega arith

  fraction-is : fraction word ≡ f
  fraction-is = by s e f s-in e-in f-in
    where
      by : (s e f : ℕ) → s < 2 → e < 2048 → f < 0x10_0000_0000_0000 → (s * 0x8000_0000_0000_0000 + e * 0x10_0000_0000_0000 + f) % 0x10_0000_0000_0000 ≡ f
      by s e f h k l = omega arith

  pub sign-is : (s ≡ 1 → minus word ≡ true) × (s ≡ 0 → minus word ≡ false)
  sign-is = (λ h. le-leb (2 ^ 63) word (set s e f h), λ h. lt-leb (2 ^ 63) word (clear s e f h e-in f-in))
    where
      set : (s e f : ℕ) → s ≡ 1 → 0x8000_0000_0000_0000 ≤ s * 0x8000_0000_0000_0000 + e * 0x10_0000_0000_0000 + f
      set s e f h = omega arith

      clear : (s e f : ℕ) → s ≡ 0 → e < 2048 → f < 0x10_0000_0000_0000 → s * 0x8000_0000_0000_0000 + e * 0x10_0000_0000_0000 + f < 0x8000_0000_0000_0000
      clear s e f h k l = omega arith

  pub value-is : (e ≡ 0 → units word ≡ f) × (0 < e → 2 * units word ≡ (2 ^ 52 + f) * 2 ^ e)
  unfolding units
  value-is = (
    λ h. (λ i. cond (eq-eqb (exponent word) 0 (exponent-is ∙ h) i) (fraction-is i) ((2 ^ 52 + fraction-is i) * 2 ^ (exponent word - 1))),
    λ h. ap (λ (n : ℕ). 2 * n) (λ i. cond (ne_eqb (exponent word) 0 (λ q. never e (sym exponent-is ∙ q) h) i) (fraction-is i) ((2 ^ 52 + fraction-is i) * 2 ^ (exponent-is i - 1))) ∙ doubled (2 ^ 52 + f) e h,
  )
    where
      never : (e : ℕ) → e ≡ 0 → 0 < e → ⊥
      never e q h = omega arith

      doubled : (m e : ℕ) → 0 < e → 2 * (m * 2 ^ (e - 1)) ≡ m * 2 ^ e
      doubled m zero h = absurd (omega arith)
      doubled m (suc e) h =
          let less : suc e - 1 ≡ e = omega arith in
          ap (λ (k : ℕ). 2 * (m * 2 ^ k)) less ∙ (let p = pow-suc 2 e in omega (arith, ap (λ (k : ℕ). m * k) p))

-- the same for a number's own fields
parts : (b : ℕ) → b % 2 ^ 63 ≡ exponent b * 2 ^ 52 + fraction b
parts b = by b
  where
    by : (b : ℕ) → b % 0x8000_0000_0000_0000 ≡ b % 0x8000_0000_0000_0000 / 0x10_0000_0000_0000 * 0x10_0000_0000_0000 + b % 0x10_0000_0000_0000
    by b = omega arith

fraction-less : (b : ℕ) → fraction b < 2 ^ 52
fraction-less b = by b
  where
    by : (b : ℕ) → b % 0x10_0000_0000_0000 < 0x10_0000_0000_0000
    by b = omega arith

abbrev units_of : ℕ → ℕ → ℕ
units_of x f = cond (x == 0) f ((2 ^ 52 + f) * 2 ^ (x - 1))

normal : (x f : ℕ) → units_of (suc x) f ≡ (2 ^ 52 + f) * 2 ^ x
normal x f = (λ i. cond (eqb-suc-zero x i) f ((2 ^ 52 + f) * 2 ^ (less i)))
  where
    less : suc x - 1 ≡ x
    less = omega arith

-- ZERO, of either sign, has no other bit set than the sign
zero-units : (x f : ℕ) → x * 2 ^ 52 + f ≡ 0 → units_of x f ≡ 0
zero-units zero f e = omega arith
zero-units (suc x) f e = absurd (never x f e)
  where
    never : (x f : ℕ) → suc x * 0x10_0000_0000_0000 + f ≢ 0
    never x f e = omega arith

some-units : (x f : ℕ) → 0 < x * 2 ^ 52 + f → 0 < units_of x f
some-units zero f h = omega arith
some-units (suc x) f h = let p : 0 < 2 ^ 52 + f = omega arith in subst (λ (n : ℕ). 0 < n) (sym (normal x f)) (mul-pos p (pow_pos x))

-- BELOW ZERO: the sign is set, and another bit. Minus zero, 2 ^ 63, is not below zero
pub below-zero : (b : ℕ) → (negative b ≡ true) ↔ ((2 ^ 63 ≤ b) × (0 < b % 2 ^ 63))
unfolding negative units
below-zero b = (
  λ e. (leb→le (2 ^ 63) b (and_left (minus b) (nat_lt 0 (units_of (exponent b) (fraction b))) (is_true e)), some (ltb-true 0 (units_of (exponent b) (fraction b)) (holds _ (and_right (minus b) (nat_lt 0 (units_of (exponent b) (fraction b))) (is_true e))))),
  λ h. (λ i. le-leb (2 ^ 63) b h.0 i && lt-ltb 0 (units_of (exponent b) (fraction b)) (some-units (exponent b) (fraction b) (subst (λ (n : ℕ). 0 < n) (parts b) h.1)) i),
)
  where
    holds : (t : Bool) → T t → t ≡ true
    holds true u = refl
    holds false u = absurd u

    some : 0 < units_of (exponent b) (fraction b) → 0 < b % 2 ^ 63
    some h = elim (dec_lt 0 (b % 2 ^ 63)) [
      | yes l ↦ l
      | no g ↦ absurd (none (units_of (exponent b) (fraction b)) h (zero-units (exponent b) (fraction b) (sym (parts b) ∙ nothing (b % 2 ^ 63) g)))
    ]
      where
        nothing : (n : ℕ) → (0 < n → ⊥) → n ≡ 0
        nothing n g = omega arith

        none : (n : ℕ) → 0 < n → n ≢ 0
        none n h e = omega arith

-- ABOVE ONE, 2 ^ 1074 units: the bits below the sign are more than those of 1.0, whose exponent field is 1023 and
-- whose fraction field is 0
past_one : (x f : ℕ) → f < 2 ^ 52 → 1023 * 2 ^ 52 < x * 2 ^ 52 + f → 2 ^ 1074 < units_of x f
past_one zero f l h = absurd (never f l h)
  where
    never : (f : ℕ) → f < 0x10_0000_0000_0000 → 1023 * 0x10_0000_0000_0000 < 0 * 0x10_0000_0000_0000 + f → ⊥
    never f l h = omega arith
past_one (suc x) f l h = subst (λ (n : ℕ). 2 ^ 1074 < n) (sym (normal x f)) (elim (dec_lt 1022 x) [
  | yes g ↦ let m : 2 ^ 52 ≤ 2 ^ 52 + f = omega arith in let p : 2 ^ 1023 ≤ 2 ^ x = pow-le-pow_right (omega arith) {i = 1023} {j = x} (omega arith) in lt_of_lt_of_le (lit< tt) (mul-le-mul m p)
  | no g ↦ at_one g
])
  where
    equal : (x f : ℕ) → f < 0x10_0000_0000_0000 → 1023 * 0x10_0000_0000_0000 < suc x * 0x10_0000_0000_0000 + f → (1022 < x → ⊥) → (1022 ≡ x) × (0 < f)
    equal x f l h g = (omega arith, omega arith)

    at_one : (1022 < x → ⊥) → 2 ^ 1074 < (2 ^ 52 + f) * 2 ^ x
    at_one g =
        let w = equal x f l h g in
        let m : 2 ^ 52 < 2 ^ 52 + f = omega (arith, w.1) in
        subst (λ (k : ℕ). 2 ^ 1074 < (2 ^ 52 + f) * 2 ^ k) w.0 (mul-lt-mul_of_pos_right m (pow_pos 1022))

up-to-one : (x f : ℕ) → f < 2 ^ 52 → x * 2 ^ 52 + f ≤ 1023 * 2 ^ 52 → units_of x f ≤ 2 ^ 1074
up-to-one zero f l h = le_trans (le_of_lt l) (lit≤ tt)
up-to-one (suc x) f l h = subst (λ (n : ℕ). n ≤ 2 ^ 1074) (sym (normal x f)) (elim (dec_lt x 1022) [
  | yes g ↦ let m : 2 ^ 52 + f ≤ 2 ^ 53 = omega arith in let p : 2 ^ x ≤ 2 ^ 1021 = pow-le-pow_right (omega arith) {i = x} {j = 1021} (omega arith) in le_trans (mul-le-mul m p) (lit≤ tt)
  | no g ↦ at_one g
])
  where
    equal : (x f : ℕ) → suc x * 0x10_0000_0000_0000 + f ≤ 1023 * 0x10_0000_0000_0000 → (x < 1022 → ⊥) → (1022 ≡ x) × (0 ≡ f)
    equal x f h g = (omega arith, omega arith)

    at_one : (x < 1022 → ⊥) → (2 ^ 52 + f) * 2 ^ x ≤ 2 ^ 1074
    at_one g =
        let w = equal x f h g in
        subst (λ (k : ℕ). (2 ^ 52 + f) * 2 ^ k ≤ 2 ^ 1074) w.0 (subst (λ (k : ℕ). (2 ^ 52 + k) * 2 ^ 1022 ≤ 2 ^ 1074) w.1 (lit≤ tt))

pub above-one : (b : ℕ) → (above_one b ≡ true) ↔ (1023 * 2 ^ 52 < b % 2 ^ 63)
unfolding above_one units
above-one b = (
  λ e. subst (λ (n : ℕ). 1023 * 2 ^ 52 < n) (sym (parts b)) (elim (dec_lt (1023 * 2 ^ 52) (exponent b * 2 ^ 52 + fraction b)) [
    | yes l ↦ l
    | no g ↦ absurd (not-le_of_lt (ltb-true (2 ^ 1074) (units_of (exponent b) (fraction b)) e) (up-to-one (exponent b) (fraction b) (fraction-less b) (at_most (exponent b * 2 ^ 52 + fraction b) g)))
  ]),
  λ h. lt-ltb (2 ^ 1074) (units_of (exponent b) (fraction b)) (past_one (exponent b) (fraction b) (fraction-less b) (subst (λ (n : ℕ). 1023 * 2 ^ 52 < n) (parts b) h)),
)
  where
    at_most : (n : ℕ) → (1023 * 0x10_0000_0000_0000 < n → ⊥) → n ≤ 1023 * 0x10_0000_0000_0000
    at_most n g = omega arith
