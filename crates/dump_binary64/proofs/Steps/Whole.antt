-- Products that are not negative, against the whole numbers that a field holds: the code's tests, and what they
-- leave. Assumes nothing.
use Rattle.std.specs.Prelude.{◌≡◌, ℕ, ◌+◌, ◌*◌, ◌/◌, ◌^◌, ◌<◌, ◌≤◌, Bool, true, false, ◌&&◌, ◌||◌, T, pos, ◌==◌, ◌≢◌, nat_le, nat_lt, refl, Float, Some, None}
use Rattle.std.proofs.Common.{sym, ap, ◌∙◌, subst, le_trans, le_of_eq, lt_of_le_of_lt, lt_of_not-le, mul-one, mul_left_comm, mul-pos, le-div_iff_mul-le, div-lt_iff_lt-mul, arith, lt-ltb, le-ltb, le-leb, lt→ltb, lit<, pow_pos}
use Rattle.std.proofs.Math.Decide.{dec_lt}
use Rattle.std.proofs.lemmas.Bool.{lt-leb}
use Rattle.std.specs.Float.{nan, inf, fin, binary64}
use Rattle.std.specs.Float.Ieee.{up, down, le, lt, eq, of_bits}
use Rattle.std.specs.Float.Ieee.Fits.{down_pos}
use Rattle.std.specs.Float.Ieee.Order.{le_of_values}
use Rattle.std.specs.Float.Ieee.Scale.{finite}
use Rattle.base_integers.specs.Steps.Ranges.{or_left}
use Rattle.dump_binary64.specs.Meaning.Value.{cut, nearest}
use Rattle.dump_binary64.specs.Meaning.Answer.{whole_by, whole_up_to}
use Rattle.dump_binary64.specs.Meaning.Machine.{zero64, one64}
use Rattle.dump_binary64.specs.Steps.Cutting.{Ranged}
use Rattle.dump_binary64.proofs.Steps.Cutting.{in-range, minus-zero}

-- the code's constants by their bits
pub zero_bits : of_bits binary64 0 ≡ zero64
unfolding of_bits
zero_bits = refl

pub one-bits : of_bits binary64 0x3ff0_0000_0000_0000 ≡ one64
unfolding of_bits
one-bits = refl

-- a test against them, as in the code
pub zero_test : {t : Bool} (x : Float) → le (of_bits binary64 0) x ≡ t → le zero64 x ≡ t
zero_test x e = ap (λ (z : Float). le z x) (sym zero_bits) ∙ e

pub one-test : {t : Bool} (x : Float) → le x (of_bits binary64 0x3ff0_0000_0000_0000) ≡ t → le x one64 ≡ t
one-test x e = ap (le x) (sym one-bits) ∙ e

abbrev pub word_end : Float
word_end = fin false 1 (pos 32)

pub word-end-bits : of_bits binary64 0x41f0_0000_0000_0000 ≡ word_end
unfolding of_bits
word-end-bits = refl

abbrev pub halves-end : Float
halves-end = fin false 1 (pos 51)

pub halves-end-bits : of_bits binary64 0x4320_0000_0000_0000 ≡ halves-end
unfolding of_bits
halves-end-bits = refl

-- BELOW 2 ^ 32: in the cast's range
pub word-ranged : (p : Float) → T (le zero64 p) → T (lt p word_end) → Ranged p
word-ranged p g h = in-range p zero64 word_end (2 ^ 32) (lit< tt) (refl, refl) (refl, refl) g (unfold le in or_left (lt p word_end) (eq p word_end) h)

-- and the test is of the cut
pub word_test : (p : Float) → T (le zero64 p) → lt p word_end ≡ finite p && nat_le (cut p) 4294967295
unfolding le lt cut
word_test nan g = absurd g
word_test (inf true) g = absurd g
word_test (inf false) g = refl
word_test (fin true m e) g =
    lt-ltb 0 (m * up e * 1 + 2 ^ 32 * down e) (some (m * up e * 1) (2 ^ 32 * down e) (mul-pos (pow_pos 32) (down_pos e)))
    ∙ sym (le-leb (m * up e / down e) 4294967295 (le-of-lt-suc (m * up e / down e) ((div-lt_iff_lt-mul (down_pos e)).1 (subst (λ (k : ℕ). k < 4294967296 * down e) (sym (minus-zero m e g)) (mul-pos (pow_pos 32) (down_pos e))))))
  where
    some : (a b : ℕ) → 0 < b → 0 < a + b
    some a b h = omega arith

    le-of-lt-suc : (n : ℕ) → n < 4294967296 → n ≤ 4294967295
    le-of-lt-suc n h = omega arith
word_test (fin false m e) g = elim (dec_lt (m * up e * 1) (2 ^ 32 * down e)) [
  | yes l ↦ lt-ltb (m * up e * 1) (2 ^ 32 * down e) l ∙ sym (le-leb (m * up e / down e) 4294967295 (le-of-lt-suc (m * up e / down e) ((div-lt_iff_lt-mul (down_pos e)).1 (lt_of_le_of_lt (le_of_eq (sym (mul-one (m * up e)))) l))))
  | no n ↦ le-ltb (m * up e * 1) (2 ^ 32 * down e) (lt-or (m * up e * 1) (2 ^ 32 * down e) n) ∙ sym (lt-leb (m * up e / down e) 4294967295 ((le-div_iff_mul-le (down_pos e)).1 (le_trans (lt-or (m * up e * 1) (2 ^ 32 * down e) n) (le_of_eq (mul-one (m * up e))))))
]
  where
    le-of-lt-suc : (n : ℕ) → n < 4294967296 → n ≤ 4294967295
    le-of-lt-suc n h = omega arith

    lt-or : (a b : ℕ) → (a < b → ⊥) → b ≤ a
    lt-or a b n = omega arith

-- a value in the cast's range is finite
pub ranged-finite : (p : Float) → Ranged p → finite p ≡ true
unfolding lt
ranged-finite nan r = absurd r.1
ranged-finite (inf true) r = absurd r.0
ranged-finite (inf false) r = absurd r.1
ranged-finite (fin s m e) r = refl

-- UP TO A NUMBER, by the nearest
module _ (p : Float) (most : ℕ) where
  pub held : finite p ≡ true → nearest p ≤ most → whole_up_to p most ≡ Some (nearest p)
  held f h = (λ i. whole_by (f i && le-leb (nearest p) most h i) (nearest p))

  pub above : most < nearest p → whole_up_to p most ≡ None
  above h = ap (λ (b : Bool). whole_by b (nearest p)) (ap (λ (b : Bool). finite p && b) (lt-leb (nearest p) most h) ∙ and_no (finite p))
    where
      and_no : (a : Bool) → (a && false) ≡ false
      and_no true = refl
      and_no false = refl

-- above 2 ^ 51 it is above every number of 32 bits, or an infinity
past : (n d : ℕ) → 0 < d → 2 ^ 51 * d < n → 2 ^ 51 ≤ (2 * n + d) / (2 * d)
past n d D h = (le-div_iff_mul-le (twice d D)).1 (le_trans (le_of_eq (mul_left_comm (2 ^ 51) 2 d)) (more (2 ^ 51 * d) n d h))
  where
    twice : (d : ℕ) → 0 < d → 0 < 2 * d
    twice d h = omega arith

    more : (p n d : ℕ) → p < n → 2 * p ≤ 2 * n + d
    more p n d h = omega arith

is-no : (b : Bool) → T b → b ≢ false
is-no true t e = subst T e tt
is-no false t e = t

pub too_large : (p : Float) (most : ℕ) → most < 4294967296 → T (le zero64 p) → le p halves-end ≡ false → whole_up_to p most ≡ None
unfolding le nearest
too_large nan most l g e = refl
too_large (inf s) most l g e = refl
too_large (fin true m e) most l g k =
    absurd (is-no (le (fin true m e) halves-end)
    (or_left (nat_lt 0 (m * up e * 1 + 2 ^ 51 * down e)) (m * up e * 1 == 2 ^ 51 * down e && (false || m * up e * 1 == 0)) (lt→ltb 0 (m * up e * 1 + 2 ^ 51 * down e) (some (m * up e * 1) (2 ^ 51 * down e) (mul-pos (pow_pos 51) (down_pos e))))) k)
  where
    some : (a b : ℕ) → 0 < b → 0 < a + b
    some a b h = omega arith
too_large (fin false m e) most l g k =
    above (fin false m e) most (far most (nearest (fin false m e)) l (past (m * up e) (down e) (down_pos e)
    (lt_of_not-le (λ (h : m * up e ≤ 2 ^ 51 * down e).
    is-no (le (fin false m e) halves-end)
    (le_of_values (fin false m e) halves-end (m * up e) (down e) (2 ^ 51) 1 (down_pos e) (pow_pos 0) (refl, refl) (refl, refl) (le_trans (le_of_eq (mul-one (m * up e))) h)) k))))
  where
    far : (a b : ℕ) → a < 4294967296 → 0x8_0000_0000_0000 ≤ b → a < b
    far a b h k = omega arith

-- a value that is at most 2 ^ 51 and not negative is finite
pub halves-finite : (p : Float) → T (le zero64 p) → T (le p halves-end) → finite p ≡ true
unfolding le
halves-finite nan g h = absurd g
halves-finite (inf true) g h = absurd g
halves-finite (inf false) g h = absurd h
halves-finite (fin s m e) g h = refl
