-- A value's bits and the machine's value: its sign, its order with 0 and 1, and its product. Assumes nothing.
use Rattle.std.specs.Prelude.{◌≡◌, ℕ, zero, suc, ◌+◌, ◌-◌, ◌*◌, ◌/◌, ◌%◌, ◌^◌, ◌<◌, ◌≤◌, Bool, true, false, cond, not, ◌&&◌, ◌||◌, T, ℤ, pos, ◌==◌, ◌≢◌, from_bits, nat_lt, refl, Float}
use Rattle.std.proofs.Math.Path.{sym}
use Rattle.std.proofs.Common.{ap, ◌∙◌, le_trans, le_of_eq, mul-one, one-mul, zero-mul, mul_comm, mul_right_comm, mul-pos, zero-lt-suc, le_of_mul-le-mul_right, mul-le-mul_right, not-le_of_lt, arith, lt-ltb, le-ltb, true≢false, eqb→eq, lt→ltb, pow_pos}
use Prim.Native.Nat.{zero-le, compare}
use Rattle.std.proofs.Math.Decide.{dec_lt}
use Rattle.std.proofs.Math.Dec.{not_T}
use Rattle.std.specs.Float.{nan, inf, fin, Format, binary64}
use Rattle.std.specs.Float.Ieee.{prec, emax, low, up, down, odd, size, nearest, units, round, le, of_int}
use Rattle.std.specs.Float.Ieee.Bits.{is_true, is_false}
use Rattle.std.specs.Float.Ieee.Fits.{down_pos, and_l, and_i, eq→eqb}
use Rattle.std.specs.Float.Ieee.Exact.{HasValue}
use Rattle.std.specs.Float.Ieee.Order.{le_of_values}
use Rattle.std.specs.Float.Ieee.Scale.{round_same}
use Rattle.dump_binary64.specs.Meaning.Value as value
use Rattle.dump_binary64.specs.Meaning.Value.{minus, finite, negative, above_one, product}
use Rattle.dump_binary64.specs.Meaning.Machine.{zero64, one64, times}
use Rattle.dump_binary64.proofs.Steps.Cutting.{none, mul-whole, of-int, lt-or-eq}
use Rattle.dump_binary64.proofs.Steps.Patterns.{bits-value}

-- THE PRODUCT
product-of : (x : Float) (s : Bool) (a c q : ℕ) → 0 < c → q ≤ 2 ^ 53 → HasValue x s a c → times x q ≡ round binary64 s (a * q) c
product-of nan s a c q C h v = absurd v
product-of (inf t) s a c q C h v = absurd v
product-of (fin t m e) s a c q C h v =
    mul-whole binary64 t m e (of_int binary64 (pos q)) q (of-int q h)
    ∙ ap (λ (u : Bool). round binary64 u (m * up e * q) (down e)) v.0
    ∙ round_same binary64 s (m * up e * q) (down e) (a * q) c (down_pos e) C (mul_right_comm (m * up e) q c ∙ ap (λ (k : ℕ). k * q) v.1 ∙ mul_right_comm a (down e) q)

pub product_is : (b q : ℕ) → finite b ≡ true → q ≤ 2 ^ 53 → times (from_bits binary64 b) q ≡ product b q
unfolding product
product_is b q f h = product-of (from_bits binary64 b) (minus b) (value.units b) (2 ^ 1074) q (pow_pos 1074) h (bits-value b f)

-- ITS SIGN is the value's, and it is no NaN
abbrev pub Signs : Bool → Float → Type 0
Signs s nan = ⊥
Signs s (inf t) = t ≡ s
Signs s (fin t m e) = t ≡ s

odd-signs : (d : ℕ) (s : Bool) (q k l : ℕ) → Signs s (odd d s q k l)
unfolding odd
odd-signs d s zero k l = refl
odd-signs d s (suc q) k l = refl

either-signs : (s b : Bool) (x y : Float) → Signs s x → Signs s y → Signs s (cond b x y)
either-signs s true x y h k = h
either-signs s false x y h k = k

units-signs : (f : Format) (s : Bool) (q k : ℕ) → Signs s (units f s q k)
unfolding units
units-signs f s q k = either-signs s (nat_lt (q * 2 ^ k) (2 ^ (low f + suc (emax f)))) (odd (suc (prec f)) s q k (low f)) (inf s) (odd-signs (suc (prec f)) s q k (low f)) refl

round-signs : (f : Format) (s : Bool) (a c : ℕ) → Signs s (round f s a c)
unfolding round
round-signs f s a c =
    let n = a * 2 ^ low f in
    let k = size (n / c) - prec f in
    let u = c * 2 ^ k in
    units-signs f s (nearest (n / u) (compare (n % u * 2) u)) k

pub product-signs : (b q : ℕ) → Signs (minus b) (product b q)
unfolding product
product-signs b q = round-signs binary64 (minus b) (value.units b * q) (2 ^ 1074)

pub times-signs : (s : Bool) (m : ℕ) (e : ℤ) (q : ℕ) → q ≤ 2 ^ 53 → Signs s (times (fin s m e) q)
times-signs s m e q h = rw (mul-whole binary64 s m e (of_int binary64 (pos q)) q (of-int q h)) (round-signs binary64 s (m * up e * q) (down e))

-- THE ORDER WITH 0 AND WITH 1
pub plus-from-zero : (m : ℕ) (e : ℤ) → T (le zero64 (fin false m e))
plus-from-zero m e = le_of_values zero64 (fin false m e) 0 1 (m * up e) (down e) (pow_pos 0) (down_pos e) (refl, refl) (refl, refl) (le_trans (le_of_eq (zero-mul (down e))) zero-le)

minus-zero : (m : ℕ) (e : ℤ) → m * up e ≡ 0 → le zero64 (fin true m e) ≡ true
unfolding le
minus-zero m e z =
    is_true (0 * down e == m * up e * 1 && 0 * down e == 0)
    (and_i (0 * down e == m * up e * 1) (0 * down e == 0) (eq→eqb (zero-mul (down e) ∙ sym (mul-one (m * up e) ∙ z))) (eq→eqb (zero-mul (down e))))

minus-some : (m : ℕ) (e : ℤ) → (m * up e ≢ 0) → le zero64 (fin true m e) ≡ false
unfolding le
minus-some m e n =
    is_false (0 * down e == m * up e * 1 && 0 * down e == 0)
    (not_T (0 * down e == m * up e * 1 && 0 * down e == 0)
    (λ t. n (sym (mul-one (m * up e)) ∙ sym (eqb→eq (0 * down e) (m * up e * 1) (and_l (0 * down e == m * up e * 1) (0 * down e == 0) t)) ∙ zero-mul (down e))))

from_zero : (x : Float) (s : Bool) (a c : ℕ) → 0 < c → HasValue x s a c → le zero64 x ≡ not (s && nat_lt 0 a)
from_zero nan s a c C v = absurd v
from_zero (inf t) s a c C v = absurd v
from_zero (fin false m e) true a c C v = absurd (true≢false (sym v.0))
from_zero (fin false m e) false a c C v = is_true (le zero64 (fin false m e)) (plus-from-zero m e)
from_zero (fin true m e) false a c C v = absurd (true≢false v.0)
from_zero (fin true m e) true zero c C v = minus-zero m e (none (m * up e) c C (v.1 ∙ zero-mul (down e)))
from_zero (fin true m e) true (suc a) c C v =
    minus-some m e (λ z. some (suc a * down e) (mul-pos (zero-lt-suc a) (down_pos e)) (sym v.1 ∙ ap (λ (k : ℕ). k * c) z ∙ zero-mul c)) ∙ sym (ap not (lt-ltb 0 (suc a) (zero-lt-suc a)))
  where
    some : (k : ℕ) → 0 < k → k ≢ 0
    some k h e = omega arith

pub not_negative : (b : ℕ) → finite b ≡ true → le zero64 (from_bits binary64 b) ≡ not (negative b)
unfolding negative
not_negative b f = from_zero (from_bits binary64 b) (minus b) (value.units b) (2 ^ 1074) (pow_pos 1074) (bits-value b f)

past_one : (n d a c : ℕ) → 0 < d → n * c ≡ a * d → n * 1 ≤ 1 * d → a ≤ c
past_one n d a c D v h =
    le_of_mul-le-mul_right
    (le_trans (le_of_eq (sym v)) (le_trans (mul-le-mul_right c (le_trans (le_of_eq (sym (mul-one n))) (le_trans h (le_of_eq (one-mul d))))) (le_of_eq (mul_comm d c))))
    D

to_one : (x : Float) (s : Bool) (a c : ℕ) → 0 < c → HasValue x s a c → s && nat_lt 0 a ≡ false → le x one64 ≡ not (nat_lt c a)
to_one nan s a c C v p = absurd v
to_one (inf t) s a c C v p = absurd v
to_one (fin false m e) true a c C v p = absurd (true≢false (sym v.0))
to_one (fin false m e) false a c C v p = elim (dec_lt c a) [
  | yes l ↦ is_false (le (fin false m e) one64) (not_T (le (fin false m e) one64) (λ t. not-le_of_lt l (past_one (m * up e) (down e) a c (down_pos e) v.1 (at_most t)))) ∙ sym (ap not (lt-ltb c a l))
  | no g ↦ is_true (le (fin false m e) one64) (le_of_values (fin false m e) one64 a c 1 1 C (pow_pos 0) v (refl, refl) (within g)) ∙ sym (ap not (le-ltb c a (omega arith)))
]
  where
    at_most : T (le (fin false m e) one64) → m * up e * 1 ≤ 1 * down e
    at_most t = unfold le in lt-or-eq (m * up e * 1) (1 * down e) t

    within : (c < a → ⊥) → a * 1 ≤ 1 * c
    within g = omega arith
to_one (fin true m e) false a c C v p = absurd (true≢false v.0)
to_one (fin true m e) true zero c C v p = unfold le in is_true _ (or_l (nat_lt 0 (m * up e * 1 + 1 * down e)) _ (lt→ltb 0 (m * up e * 1 + 1 * down e) (some (m * up e * 1) (1 * down e) (mul-pos (pow_pos 0) (down_pos e))))) ∙ sym (ap not (le-ltb c 0 zero-le))
  where
    or_l : (a b : Bool) → T a → T (a || b)
    or_l true b t = tt
    or_l false b t = absurd t

    some : (a b : ℕ) → 0 < b → 0 < a + b
    some a b h = omega arith
to_one (fin true m e) true (suc a) c C v p = absurd (true≢false (sym (lt-ltb 0 (suc a) (zero-lt-suc a)) ∙ p))

pub not-above-one : (b : ℕ) → finite b ≡ true → negative b ≡ false → le (from_bits binary64 b) one64 ≡ not (above_one b)
unfolding negative above_one
not-above-one b f p = to_one (from_bits binary64 b) (minus b) (value.units b) (2 ^ 1074) (pow_pos 1074) (bits-value b f) p
