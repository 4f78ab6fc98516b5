-- The number of 64 bits: the library's value of them is the fraction of the meaning, and is finite where the
-- meaning says so. Assumes nothing.
use Rattle.std.specs.Prelude.{◌≡◌, ℕ, zero, suc, ◌+◌, ◌-◌, ◌*◌, ◌/◌, ◌%◌, ◌^◌, ◌<◌, ◌≤◌, Bool, true, false, cond, not, T, ◌==◌, ◌≢◌, nat_le, nat_lt, refl, Float}
use Rattle.std.proofs.Common.{sym, ap, ◌∙◌, subst, mul-one, arith, ne_eqb, eq-eqb, lt-ltb, le-ltb, eqb→eq, ltb→lt}
use Rattle.std.proofs.Math.Decide.{dec_lt}
use Rattle.std.proofs.Math.Dec.{not_T, eqb-suc-zero}
use Rattle.std.specs.Float.{nan, inf, fin, binary64}
use Rattle.std.specs.Float.Ieee.{odd, of_fields, of_bits, nan_bits}
use Rattle.std.specs.Float.Ieee.Bits.{cond_no, nan_bits_above}
use Rattle.std.specs.Float.Ieee.Exact.{HasValue, odd_sign}
use Rattle.std.specs.Float.Ieee.Scale as float
use Rattle.dump_binary64.specs.Meaning.Value.{minus, exponent, finite, units}

pub of_bits_is : (b : ℕ) → of_bits binary64 b ≡ of_fields binary64 (nat_le (2 ^ 63) b) (exponent b) (b % 2 ^ 52)
unfolding of_bits
of_bits_is b = refl

differ : (x : ℕ) → suc x < 2047 → suc x ≢ 2047
differ x h e = omega arith

less_one : (x : ℕ) → suc x - 1 ≡ x
less_one x = omega arith

under_ones : (s : Bool) (t x : ℕ) → suc x < 2047 → of_fields binary64 s (suc x) t ≡ odd 53 s (2 ^ 52 + t) x 1074
unfolding of_fields
under_ones s t x h =
    cond_no (suc x == 2047) (cond (t == 0) (inf s) nan) (odd 53 s (2 ^ 52 + t) x 1074) (not_T (suc x == 2047) (λ (u : T (suc x == 2047)). differ x h (eqb→eq (suc x) 2047 u)))

fields_value : (s : Bool) (x t : ℕ) → x < 2047 → HasValue (of_fields binary64 s x t) s (cond (x == 0) t ((2 ^ 52 + t) * 2 ^ (x - 1))) (2 ^ 1074)
unfolding of_fields
fields_value s zero t h = subst (λ (y : ℕ). HasValue (odd 53 s t 0 1074) s y (2 ^ 1074)) (mul-one t) (odd_sign 53 s t 0 1074)
fields_value s (suc x) t h =
    subst (λ (b : Bool). HasValue (of_fields binary64 s (suc x) t) s (cond b t ((2 ^ 52 + t) * 2 ^ (suc x - 1))) (2 ^ 1074)) (sym (eqb-suc-zero x))
    (subst (λ (k : ℕ). HasValue (of_fields binary64 s (suc x) t) s ((2 ^ 52 + t) * 2 ^ k) (2 ^ 1074)) (sym (less_one x))
    (subst (λ (v : Float). HasValue v s ((2 ^ 52 + t) * 2 ^ x) (2 ^ 1074)) (sym (under_ones s t x h)) (odd_sign 53 s (2 ^ 52 + t) x 1074)))

field_lt : (b : ℕ) → b % 0x8000_0000_0000_0000 < 0x7ff0_0000_0000_0000 → b % 0x8000_0000_0000_0000 / 0x10_0000_0000_0000 < 2047
field_lt b h = omega arith

-- finite, by the code's test
pub finite-is : (b : ℕ) → b % 0x8000_0000_0000_0000 < 0x7ff0_0000_0000_0000 → finite b ≡ true
unfolding finite
finite-is b h = ap not (ne_eqb (exponent b) 2047 (λ (e : exponent b ≡ 2047). differ-from b h e))
  where
    differ-from : (b : ℕ) → b % 0x8000_0000_0000_0000 < 0x7ff0_0000_0000_0000 → b % 0x8000_0000_0000_0000 / 0x10_0000_0000_0000 ≢ 2047
    differ-from b h e = omega arith

pub finite-not : (b : ℕ) → 0x7ff0_0000_0000_0000 ≤ b % 0x8000_0000_0000_0000 → finite b ≡ false
unfolding finite
finite-not b h = ap not (eq-eqb (exponent b) 2047 (ones b h))
  where
    ones : (b : ℕ) → 0x7ff0_0000_0000_0000 ≤ b % 0x8000_0000_0000_0000 → b % 0x8000_0000_0000_0000 / 0x10_0000_0000_0000 ≡ 2047
    ones b h = omega arith

pub finite-lt : (b : ℕ) → finite b ≡ true → b % 0x8000_0000_0000_0000 < 0x7ff0_0000_0000_0000
finite-lt b e = elim (dec_lt (b % 0x8000_0000_0000_0000) 0x7ff0_0000_0000_0000) [ yes l ↦ l | no g ↦ absurd (apart (sym (finite-not b (at_least g)) ∙ e)) ]
  where
    apart : false ≡ true → ⊥
    apart q = subst (λ (t : Bool). T (not t)) q tt

    at_least : (b % 0x8000_0000_0000_0000 < 0x7ff0_0000_0000_0000 → ⊥) → 0x7ff0_0000_0000_0000 ≤ b % 0x8000_0000_0000_0000
    at_least g = omega arith

pub finite-test : (b : ℕ) → nat_lt (b % 0x8000_0000_0000_0000) 0x7ff0_0000_0000_0000 ≡ finite b
finite-test b = elim (dec_lt (b % 0x8000_0000_0000_0000) 0x7ff0_0000_0000_0000) [
  | yes l ↦ lt-ltb (b % 0x8000_0000_0000_0000) 0x7ff0_0000_0000_0000 l ∙ sym (finite-is b l)
  | no g ↦ le-ltb (b % 0x8000_0000_0000_0000) 0x7ff0_0000_0000_0000 (omega arith) ∙ sym (finite-not b (omega arith))
]

pub bits-value : (b : ℕ) → finite b ≡ true → HasValue (of_bits binary64 b) (minus b) (units b) (2 ^ 1074)
unfolding units
bits-value b f = let h = finite-lt b f in subst (λ (v : Float). HasValue v (nat_le (2 ^ 63) b) (units b) (2 ^ 1074)) (sym (of_bits_is b)) (fields_value (nat_le (2 ^ 63) b) (exponent b) (b % 2 ^ 52) (field_lt b h))

-- no finite value is a NaN
pub no_nan : (b : ℕ) → finite b ≡ true → T (not (nan_bits binary64 b))
no_nan b f = subst (λ (x : Bool). T (not x)) (sym (nan_bits_above binary64 b)) (not_T (nat_lt 0x7ff0_0000_0000_0000 (b % 2 ^ 63)) (λ t. clash (b % 2 ^ 63) (finite-lt b f) (ltb→lt 0x7ff0_0000_0000_0000 (b % 2 ^ 63) t)))
  where
    clash : (r : ℕ) → r < 0x7ff0_0000_0000_0000 → 0x7ff0_0000_0000_0000 < r → ⊥
    clash r h k = omega arith

pub finite-value : (b : ℕ) → finite b ≡ true → T (float.finite (of_bits binary64 b))
finite-value b f = by (of_bits binary64 b) (bits-value b f)
  where
    by : (x : Float) → HasValue x (minus b) (units b) (2 ^ 1074) → T (float.finite x)
    by nan v = absurd v
    by (inf s) v = absurd v
    by (fin s m e) v = tt
