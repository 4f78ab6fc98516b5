-- A value from 0 to 2 ^ 51 taken to the nearest whole number, a half up: its whole part, or one more where the
-- value is at least the whole part and a half. That sum is exact. Assumes nothing.
use Rattle.std.specs.Prelude.{◌≡◌, ℕ, suc, ◌+◌, ◌*◌, ◌/◌, ◌%◌, ◌^◌, ◌<◌, ◌≤◌, min, Bool, true, false, T, ℤ, pos, negsuc, ◌==◌, ◌≢◌, refl, Float}
use Rattle.std.proofs.Common.{sym, ap, ◌∙◌, subst, zero-le, le_trans, le_of_eq, le_antisymm, le_of_suc-le-suc, lt_irrefl, lt_of_le_of_lt, lt_of_lt_of_le, lt_of_not-le, mul-one, one-mul, zero-mul, mul_assoc, mul_left_comm, mul-pos, add-mul, div-add-mod', mod-lt, le-div_iff_mul-le, div-lt_iff_lt-mul, arith, true≢false, eqb→eq, lit≤, lit<, pow_pos, shl_lt}
use Rattle.std.specs.Float.{nan, inf, fin, binary64}
use Rattle.std.specs.Float.Ieee.{up, down, round, add, le, to_unsigned, of_int, of_bits}
use Rattle.std.specs.Float.Ieee.Fits.{down_pos, and_l, and_r}
use Rattle.std.specs.Float.Ieee.Exact.{HasValue, round_exact}
use Rattle.std.specs.Float.Ieee.Order.{le_of_values}
use Rattle.std.specs.Float.Ieee.Scale.{round_same}
use Rattle.std.specs.Float.Ieee.Positive.{through}
use Rattle.dump_binary64.specs.Steps.Cutting.{Ranged}
use Rattle.dump_binary64.proofs.Steps.Cutting.{lt-or-eq, none, in-range, of-int}
use Rattle.dump_binary64.specs.Meaning.Value.{nearest}
use Rattle.dump_binary64.specs.Meaning.Machine.{zero64}

-- numbers: n / d is w and a rest
unique : (a c k : ℕ) → 0 < c → k * c ≤ a → a < (k + 1) * c → a / c ≡ k
unique a c k C l h = le_antisymm (le_of_suc-le-suc (le_trans ((div-lt_iff_lt-mul C).1 h) (le_of_eq (add-one-is k)))) ((le-div_iff_mul-le C).1 l)
  where
    add-one-is : (k : ℕ) → k + 1 ≡ suc k
    add-one-is k = omega arith

twice : (k d : ℕ) → k * (2 * d) ≡ 2 * (k * d)
twice k d = mul_left_comm k 2 d

plus : (k d : ℕ) → (k + 1) * d ≡ k * d + d
plus k d = add-mul k 1 d ∙ ap (λ (x : ℕ). k * d + x) (one-mul d)

halves : (w d : ℕ) → (2 * w + 1) * d ≡ 2 * (w * d) + d
halves w d = plus (2 * w) d ∙ ap (λ (x : ℕ). x + d) (mul_assoc 2 w d)

double-pos : (d : ℕ) → 0 < d → 0 < 2 * d
double-pos d h = omega arith

up-number : (n d w : ℕ) → 0 < d → n / d ≡ w → (2 * w + 1) * d ≤ n * 2 → (2 * n + d) / (2 * d) ≡ w + 1
up-number n d w D e h =
    let s : w * d + n % d ≡ n = ap (λ (x : ℕ). x * d + n % d) (sym e) ∙ div-add-mod' n d in
    let r : n % d < d = mod-lt n D in
    let a : (2 * w + 1) * d ≡ 2 * (w * d) + d = halves w d in
    let b : (w + 1) * (2 * d) ≡ 2 * (w * d + d) = twice (w + 1) d ∙ ap (λ (x : ℕ). 2 * x) (plus w d) in
    let c : (w + 1 + 1) * (2 * d) ≡ 2 * (w * d + d + d) = twice (w + 1 + 1) d ∙ ap (λ (x : ℕ). 2 * x) (plus (w + 1) d ∙ ap (λ (x : ℕ). x + d) (plus w d)) in
    unique (2 * n + d) (2 * d) (w + 1) (double-pos d D) (le_trans (le_of_eq b) (lo (w * d) (n % d) n d s (subst (λ (x : ℕ). x ≤ n * 2) a h))) (lt_of_lt_of_le (hi (w * d) (n % d) n d s r) (le_of_eq (sym c)))
  where
    lo : (p r n d : ℕ) → p + r ≡ n → 2 * p + d ≤ n * 2 → 2 * (p + d) ≤ 2 * n + d
    lo p r n d s h = omega arith

    hi : (p r n d : ℕ) → p + r ≡ n → r < d → 2 * n + d < 2 * (p + d + d)
    hi p r n d s h = omega arith

down-number : (n d w : ℕ) → 0 < d → n / d ≡ w → n * 2 < (2 * w + 1) * d → (2 * n + d) / (2 * d) ≡ w
down-number n d w D e h =
    let s : w * d + n % d ≡ n = ap (λ (x : ℕ). x * d + n % d) (sym e) ∙ div-add-mod' n d in
    let a : (2 * w + 1) * d ≡ 2 * (w * d) + d = halves w d in
    let b : (w + 1) * (2 * d) ≡ 2 * (w * d + d) = twice (w + 1) d ∙ ap (λ (x : ℕ). 2 * x) (plus w d) in
    unique (2 * n + d) (2 * d) w (double-pos d D) (le_trans (le_of_eq (twice w d)) (lo (w * d) (n % d) n d s)) (lt_of_lt_of_le (hi (w * d) n d (subst (λ (x : ℕ). n * 2 < x) a h)) (le_of_eq (sym b)))
  where
    lo : (p r n d : ℕ) → p + r ≡ n → 2 * p ≤ 2 * n + d
    lo p r n d s = omega arith

    hi : (p n d : ℕ) → n * 2 < 2 * p + d → 2 * n + d < 2 * (p + d)
    hi p n d h = omega arith

-- a whole number and a half, exactly
abbrev half : Float
half = fin false 1 (negsuc 0)

half-bits : of_bits binary64 0x3fe0_0000_0000_0000 ≡ half
unfolding of_bits
half-bits = refl

cross : (y d w : ℕ) → y * 1 ≡ w * d → (y * 2 + 1 * d) * 2 ≡ (2 * w + 1) * (d * 2)
cross y d w h =
    let y-is : y ≡ w * d = sym (mul-one y) ∙ h in
    let a : (2 * w + 1) * (d * 2) ≡ (2 * (w * d) + d) * 2 = sym (mul_assoc (2 * w + 1) d 2) ∙ ap (λ (x : ℕ). x * 2) (halves w d) in
    let b : 1 * d ≡ d = one-mul d in
    omega arith

add_half : (y : Float) (w : ℕ) → HasValue y false w 1 → add binary64 y half ≡ round binary64 false (2 * w + 1) 2
unfolding add
add_half nan w v = absurd v
add_half (inf t) w v = absurd v
add_half (fin true n d) w v = absurd (true≢false v.0)
add_half (fin false n d) w v = round_same binary64 false (n * up d * 2 + 1 * down d) (down d * 2) (2 * w + 1) 2 (mul-pos (down_pos d) (pow_pos 1)) (pow_pos 1) (cross (n * up d) (down d) w v.1)

pub half-sum : (w : ℕ) → w ≤ 2 ^ 51 → HasValue (add binary64 (of_int binary64 (pos w)) (of_bits binary64 0x3fe0_0000_0000_0000)) false (2 * w + 1) 2
half-sum w h =
    subst (λ (z : Float). HasValue (add binary64 (of_int binary64 (pos w)) z) false (2 * w + 1) 2) (sym half-bits)
    (subst (λ (z : Float). HasValue z false (2 * w + 1) 2) (sym (add_half (of_int binary64 (pos w)) w (of-int w (more w h))))
    (round_exact binary64 false (2 * w + 1) 2 (2 * w + 1) 1073 (pow_pos 1) (small w h) (lt_of_lt_of_le (shl_lt 53 1073 (small w h)) (lit≤ tt)) (sym (mul_assoc (2 * w + 1) (2 ^ 1073) 2))))
  where
    more : (w : ℕ) → w ≤ 0x8_0000_0000_0000 → w ≤ 0x20_0000_0000_0000
    more w h = omega arith

    small : (w : ℕ) → w ≤ 0x8_0000_0000_0000 → 2 * w + 1 < 0x20_0000_0000_0000
    small w h = omega arith

-- a value from 0 to 2 ^ 51, including minus zero
abbrev pub Bounded : Float → Type 0
Bounded nan = ⊥
Bounded (inf s) = ⊥
Bounded (fin true m e) = m * up e ≡ 0
Bounded (fin false m e) = m * up e ≤ 2 ^ 51 * down e

pub bounded_of : (x : Float) → T (le zero64 x) → T (le x (fin false 1 (pos 51))) → Bounded x
unfolding le
bounded_of nan g h = absurd g
bounded_of (inf true) g h = absurd g
bounded_of (inf false) g h = absurd h
bounded_of (fin true m e) g h =
    sym (mul-one (m * up e)) ∙ sym (eqb→eq (0 * down e) (m * up e * 1) (and_l (0 * down e == m * up e * 1) (0 * down e == 0) g)) ∙ zero-mul (down e)
bounded_of (fin false m e) g h = le_trans (le_of_eq (sym (mul-one (m * up e)))) (lt-or-eq (m * up e * 1) (2 ^ 51 * down e) h)

pub ranged : (x : Float) → T (le zero64 x) → T (le x (fin false 1 (pos 51))) → Ranged x
ranged x g h = in-range x zero64 (fin false 1 (pos 51)) (2 ^ 51) (lit< tt) (refl, refl) (refl, refl) g h

-- the whole part
whole_is : (m : ℕ) (e : ℤ) → m * up e ≤ 2 ^ 51 * down e → (to_unsigned 64 (fin false m e) ≡ m * up e / down e) × (m * up e / down e ≤ 2 ^ 51)
unfolding to_unsigned
whole_is m e h =
    let l : m * up e / down e ≤ 2 ^ 51 = le_of_suc-le-suc ((div-lt_iff_lt-mul (down_pos e)).1 (lt_of_le_of_lt h (next (2 ^ 51) (down e) (down_pos e)))) in
    (uncapped (m * up e / down e) l, l)
  where
    next : (k d : ℕ) → 0 < d → k * d < suc k * d
    next k d D = lt_of_lt_of_le (grows (k * d) d D) (le_of_eq (sym (plus k d) ∙ ap (λ (x : ℕ). x * d) (one_more k)))
      where
        grows : (p d : ℕ) → 0 < d → p < p + d
        grows p d h = omega arith

        one_more : (k : ℕ) → k + 1 ≡ suc k
        one_more k = omega arith

    uncapped : (a : ℕ) → a ≤ 0x8_0000_0000_0000 → min a 0xffff_ffff_ffff_ffff ≡ a
    uncapped a h = omega arith

pub whole-small : (x : Float) → Bounded x → to_unsigned 64 x ≤ 2 ^ 51
unfolding to_unsigned
whole-small nan b = absurd b
whole-small (inf s) b = absurd b
whole-small (fin true m e) b = zero-le
whole-small (fin false m e) b = subst (λ (x : ℕ). x ≤ 2 ^ 51) (sym (whole_is m e b).0) (whole_is m e b).1

odd_pos : (w : ℕ) → 0 < 2 * w + 1
odd_pos w = omega arith

-- h is the whole part and a half
pub taken-up : (x h : Float) → Bounded x → HasValue h false (2 * to_unsigned 64 x + 1) 2 → T (le h x) → to_unsigned 64 x + 1 ≡ nearest x
unfolding le nearest
taken-up nan h b v t = absurd b
taken-up (inf s) h b v t = absurd b
taken-up (fin s m e) nan b v t = absurd v
taken-up (fin s m e) (inf u) b v t = absurd v
taken-up (fin s m e) (fin true k d) b v t = absurd (true≢false v.0)
taken-up (fin true m e) (fin false k d) b v t =
    absurd (lt_irrefl 0 (subst (λ (x : ℕ). 0 < x)
    (sym v.1 ∙ ap (λ (x : ℕ). x * 2) (none (k * up d) (down e) (down_pos e) (eqb→eq (k * up d * down e) 0 (and_r (k * up d * down e == m * up e * down d) (k * up d * down e == 0) t))) ∙ zero-mul 2)
    (mul-pos (odd_pos (to_unsigned 64 (fin true m e))) (down_pos d))))
taken-up (fin false m e) (fin false k d) b v t =
    let w = to_unsigned 64 (fin false m e) in
    sym (up-number (m * up e) (down e) w (down_pos e) (sym (whole_is m e b).0)
    (through (2 * w + 1) (k * up d) (m * up e) 2 (down d) (down e) (down_pos d) (le_of_eq (sym v.1)) (lt-or-eq (k * up d * down e) (m * up e * down d) t)))

zero-half : (n d : ℕ) → 0 < d → n ≡ 0 → (2 * n + d) / (2 * d) ≡ 0
zero-half n d D z = unique (2 * n + d) (2 * d) 0 (double-pos d D) (le_trans (le_of_eq (zero-mul (2 * d))) zero-le) (lt_of_lt_of_le (less n d D z) (le_of_eq (sym (one-mul (2 * d)))))
  where
    less : (n d : ℕ) → 0 < d → n ≡ 0 → 2 * n + d < 2 * d
    less n d D z = omega arith

pub nearest_zero : (s : Bool) (m : ℕ) (e : ℤ) → m * up e ≡ 0 → nearest (fin s m e) ≡ 0
unfolding nearest
nearest_zero s m e z = zero-half (m * up e) (down e) (down_pos e) z

pub left_down : (x h : Float) → Bounded x → HasValue h false (2 * to_unsigned 64 x + 1) 2 → le h x ≡ false → to_unsigned 64 x ≡ nearest x
unfolding nearest to_unsigned
left_down nan h b v t = absurd b
left_down (inf s) h b v t = absurd b
left_down (fin true m e) h b v t = sym (zero-half (m * up e) (down e) (down_pos e) b)
left_down (fin false m e) h b v t =
    let w = to_unsigned 64 (fin false m e) in
    sym (down-number (m * up e) (down e) w (down_pos e) (sym (whole_is m e b).0)
    (lt_of_not-le (λ (g : (2 * w + 1) * down e ≤ m * up e * 2).
    no (le h (fin false m e)) (le_of_values h (fin false m e) (2 * w + 1) 2 (m * up e) (down e) (pow_pos 1) (down_pos e) v (refl, refl) g) t)))
  where
    no : (a : Bool) → T a → a ≢ false
    no true t e = true≢false e
    no false t e = t
