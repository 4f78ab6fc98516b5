-- THE WHOLE PART of a value, by one sum and one difference. From 2 ^ 52 on every binary64 is a whole number, so the
-- sum of 2 ^ 52 and the value rounds to one of the two whole numbers next to it, and subtracting 2 ^ 52 again is
-- exact. Assumes nothing.
use Rattle.std.specs.Prelude.{◌≡◌, ℕ, zero, suc, ◌+◌, ◌-◌, ◌*◌, ◌/◌, ◌%◌, ◌^◌, ◌<◌, ◌≤◌, Bool, true, false, cond, ◌&&◌, T, ltb, leb, ℤ, pos, negsuc, ◌≢◌, nat_eq, nat_le, nat_lt, Float}
use Rattle.std.proofs.Math.Path.{refl}
use Rattle.std.proofs.Common.{sym, ap, ◌∙◌, subst, le_trans, le_of_eq, lt_of_le_of_lt, lt_of_lt_of_le, lt_irrefl, mul-one, zero-mul, mul-pos, mul-le-mul_right, div-add-mod', mod-lt, le-div_iff_mul-le, div-lt_iff_lt-mul, arith, lt-ltb, le-ltb, le-leb, ltb-false, true≢false, leb→le, ltb→lt, pow_pos, pow_mono}
use Rattle.std.specs.Float.{nan, inf, fin, binary64}
use Rattle.std.specs.Float.Ieee.{up, down, round, add, sub, sum, le, lt, fits, of_int, of_bits}
use Rattle.std.specs.Float.Ieee.Fits.{down_pos, and_l, and_r, round-fits}
use Rattle.std.specs.Float.Ieee.Exact.{HasValue}
use Rattle.std.specs.Float.Ieee.Order.{le_of_values, round_mono}
use Rattle.std.specs.Float.Ieee.Back.{round_whole}
use Rattle.std.specs.Float.Ieee.Scale.{finite}
use Rattle.std.specs.Float.Ieee.Positive.{num, den, den_pos, positive, own_value, positive_of_value, values_of_le, between}
use Rattle.base_integers.specs.Steps.Ranges.{is_true, and_right}
use Rattle.dump_binary64.specs.Meaning.Value.{cut}
use Rattle.dump_binary64.specs.Meaning.Machine.{zero64}
use Rattle.dump_binary64.specs.Steps.Cutting.{Ranged}
use Rattle.dump_binary64.proofs.Steps.Cutting.{cast-cut, cut-ge, minus-zero, of-int}
use Rattle.dump_binary64.proofs.Steps.Whole.{word_end, word_test, ranged-finite}

abbrev pub wholes : Float
wholes = fin false 1 (pos 52)

pub wholes-bits : of_bits binary64 0x4330_0000_0000_0000 ≡ wholes
unfolding of_bits
wholes-bits = refl

-- FROM 2 ^ 52 ON a value has no fraction: its significand has no more than 53 digits
no_fraction : (s : Bool) (m : ℕ) (e : ℤ) → T (fits binary64 (fin s m e)) → 2 ^ 52 * down e ≤ m * up e → down e ≡ 1
unfolding fits
no_fraction s m (pos k) t h = refl
no_fraction s zero (negsuc k) t h = absurd (lt_irrefl 0 (lt_of_lt_of_le (mul-pos (pow_pos 52) (pow_pos (suc k))) (le_trans h (le_of_eq (zero-mul 1)))))
no_fraction s (suc m) (negsuc k) t h =
    let a : Bool = nat_eq (suc m % 2) 1 in
    let b : Bool = ltb (suc m) (2 ^ 53) in
    let c : Bool = leb (down (negsuc k)) (2 ^ 1074) in
    let d : Bool = ltb (suc m * 1) (2 ^ 1024 * down (negsuc k)) in
    let few : suc m < 2 ^ 53 = ltb→lt (suc m) (2 ^ 53) (and_r a b (and_l (a && b) c (and_l (a && b && c) d t))) in
    absurd (lt_irrefl (2 ^ 53) (lt_of_le_of_lt (le_trans (double (2 ^ suc k) (pow_mono {i = 1} {j = suc k} (one k))) (le_trans h (le_of_eq (mul-one (suc m))))) few))
  where
    one : (k : ℕ) → 1 ≤ suc k
    one k = omega arith

    double : (x : ℕ) → 2 ≤ x → 0x20_0000_0000_0000 ≤ 0x10_0000_0000_0000 * x
    double x h = omega arith

-- THE DIFFERENCE, and the two whole numbers that it may be
difference : (m : ℕ) (e : ℤ) → down e ≡ 1 → 2 ^ 52 ≤ m * up e → sub binary64 (fin false m e) wholes ≡ of_int binary64 (pos (m * up e - 2 ^ 52))
unfolding sub sum of_int
difference m e d h =
    ap (λ (b : Bool). cond b (round binary64 true (2 ^ 52 * down e - m * up e * 1) (down e * 1)) (round binary64 false (m * up e * 1 - 2 ^ 52 * down e) (down e * 1)))
    (le-ltb (m * up e * 1) (2 ^ 52 * down e) (le_trans (le_of_eq (ap (λ (x : ℕ). 2 ^ 52 * x) d)) (le_trans h (le_of_eq (sym (mul-one (m * up e)))))))
    ∙ (λ i. round binary64 false (mul-one (m * up e) i - 2 ^ 52 * d i) ((mul-one (down e) ∙ d) i))

-- w is c or the next, and r is w
pub record NextTo (c : ℕ) (r : Float) : Type 0 where
  pub whole : ℕ
  pub is : r ≡ of_int binary64 (pos whole)
  pub lower : c ≤ whole
  pub upper : whole ≤ c + 1

next-to : (y : Float) (c : ℕ) → T (fits binary64 y) → T (positive y) → (2 ^ 52 + c) * den y ≤ num y * 1 → num y * 1 ≤ (2 ^ 52 + c + 1) * den y → NextTo c (sub binary64 y wholes)
next-to nan c t p lo hi = absurd p
next-to (inf s) c t p lo hi = absurd p
next-to (fin true m e) c t p lo hi = absurd p
next-to (fin false m e) c t p lo hi =
    let d : down e ≡ 1 = no_fraction false m e t (le_trans (at_least c (down e) (m * up e) lo) (le_of_eq (mul-one (m * up e)))) in
    let a = subst (λ (x : ℕ). (2 ^ 52 + c) * x ≤ m * up e * 1) d lo in
    let b = subst (λ (x : ℕ). m * up e * 1 ≤ (2 ^ 52 + c + 1) * x) d hi in
    record { whole = m * up e - 2 ^ 52; is = difference m e d (from c (m * up e) a); lower = low c (m * up e) a; upper = high c (m * up e) b }
  where
    at_least : (c d n : ℕ) → (0x10_0000_0000_0000 + c) * d ≤ n * 1 → 0x10_0000_0000_0000 * d ≤ n * 1
    at_least c d n h = omega arith

    from : (c n : ℕ) → (0x10_0000_0000_0000 + c) * 1 ≤ n * 1 → 0x10_0000_0000_0000 ≤ n
    from c n h = omega arith

    low : (c n : ℕ) → (0x10_0000_0000_0000 + c) * 1 ≤ n * 1 → c ≤ n - 0x10_0000_0000_0000
    low c n h = omega arith

    high : (c n : ℕ) → n * 1 ≤ (0x10_0000_0000_0000 + c + 1) * 1 → n - 0x10_0000_0000_0000 ≤ c + 1
    high c n h = omega arith

-- THE SUM, of a value that is not negative
sum_is : (p : Float) → T (le zero64 p) → T (finite p) → add binary64 p wholes ≡ round binary64 false (num p + 2 ^ 52 * den p) (den p)
unfolding add sum
sum_is nan g f = absurd f
sum_is (inf s) g f = absurd f
sum_is (fin false m e) g f = (λ i. round binary64 false (mul-one (m * up e) i + 2 ^ 52 * down e) (mul-one (down e) i))
sum_is (fin true m e) g f =
    let z = minus-zero m e g in
    ap (λ (b : Bool). cond b (round binary64 false (2 ^ 52 * down e - m * up e * 1) (down e * 1)) (round binary64 (true && nat_lt (2 ^ 52 * down e) (m * up e * 1)) (m * up e * 1 - 2 ^ 52 * down e) (down e * 1)))
    (lt-ltb (m * up e * 1) (2 ^ 52 * down e) (lt_of_le_of_lt (le_of_eq (mul-one (m * up e) ∙ z)) (mul-pos (pow_pos 52) (down_pos e))))
    ∙ (λ i. round binary64 false (same (m * up e) (2 ^ 52 * down e) z i) (mul-one (down e) i))
  where
    same : (n k : ℕ) → n ≡ 0 → k - n * 1 ≡ n + k
    same n k z = omega arith

-- the whole part of a quotient, times the divisor, and one more of it
pub cut_parts : (n d : ℕ) → 0 < d → (n / d * d ≤ n) × (n < (n / d + 1) * d)
cut_parts n d h = (omega (arith, div-add-mod' n d), omega (arith, div-add-mod' n d, mod-lt n h))

-- ROUNDED TO A WHOLE NUMBER: the cut or the next
pub rounded-whole : (p : Float) → T (le zero64 p) → T (finite p) → cut p < 2 ^ 32 → NextTo (cut p) (sub binary64 (add binary64 p wholes) wholes)
unfolding cut
rounded-whole p g f h =
    let c = num p / den p in
    let q = cut_parts (num p) (den p) (den_pos p) in
    let y = round binary64 false (num p + 2 ^ 52 * den p) (den p) in
    let lo = round binary64 false (2 ^ 52 + c) 1 in
    let hi = round binary64 false (2 ^ 52 + c + 1) 1 in
    let lv = round_whole binary64 false (2 ^ 52 + c) (small c h).0 in
    let hv = round_whole binary64 false (2 ^ 52 + c + 1) (small c h).1 in
    let lp = positive_of_value lo (2 ^ 52 + c) 1 lv (some c).0 in
    let hp = positive_of_value hi (2 ^ 52 + c + 1) 1 hv (some c).1 in
    let above = round_mono binary64 (2 ^ 52 + c) 1 (num p + 2 ^ 52 * den p) (den p) (pow_pos 0) (den_pos p) (over (num p) (den p) c q.0) in
    let below = round_mono binary64 (num p + 2 ^ 52 * den p) (den p) (2 ^ 52 + c + 1) 1 (den_pos p) (pow_pos 0) (under (num p) (den p) c q.1) in
    let yp = between lo y hi lp hp above below in
    subst (λ (z : Float). NextTo c (sub binary64 z wholes)) (sym (sum_is p g f))
    (next-to y c (round-fits binary64 false (num p + 2 ^ 52 * den p) (den p)) yp
    (values_of_le lo y (2 ^ 52 + c) 1 (num y) (den y) lp yp lv (own_value y yp) above)
    (values_of_le y hi (num y) (den y) (2 ^ 52 + c + 1) 1 yp hp (own_value y yp) hv below))
  where
    small : (c : ℕ) → c < 0x1_0000_0000 → (0x10_0000_0000_0000 + c ≤ 0x20_0000_0000_0000) × (0x10_0000_0000_0000 + c + 1 ≤ 0x20_0000_0000_0000)
    small c h = (omega arith, omega arith)

    some : (c : ℕ) → (0 < 0x10_0000_0000_0000 + c) × (0 < 0x10_0000_0000_0000 + c + 1)
    some c = (omega arith, omega arith)

    over : (n d c : ℕ) → c * d ≤ n → (0x10_0000_0000_0000 + c) * d ≤ (n + 0x10_0000_0000_0000 * d) * 1
    over n d c h = omega arith

    under : (n d c : ℕ) → n < (c + 1) * d → (n + 0x10_0000_0000_0000 * d) * 1 ≤ (0x10_0000_0000_0000 + c + 1) * d
    under n d c h = omega arith

-- WHICH OF THE TWO, by the test against the value
module _ (p r : Float) (g : T (le zero64 p)) (k : Ranged p) (h : cut p < 2 ^ 32) (n : NextTo (cut p) r) where
  value : HasValue r false n.whole 1
  value = subst (λ (z : Float). HasValue z false n.whole 1) (sym n.is) (of-int n.whole (few n.whole (cut p) n.upper h))
    where
      few : (w c : ℕ) → w ≤ c + 1 → c < 0x1_0000_0000 → w ≤ 0x20_0000_0000_0000
      few w c a b = omega arith

  pub not-above : le r p ≡ true → n.whole ≡ cut p
  not-above e =
      let l : n.whole ≤ cut p = subst (λ (c : ℕ). n.whole ≤ c) (cast-cut p g k) (cut-ge 64 p r n.whole (few n.whole (cut p) n.upper h) value (is_true e)) in
      omega (arith, l, n.lower)
    where
      few : (w c : ℕ) → w ≤ c + 1 → c < 0x1_0000_0000 → w < 0x1_0000_0000_0000_0000
      few w c a b = omega arith

at_most : (p r : Float) (w : ℕ) → T (le zero64 p) → T (finite p) → r ≡ of_int binary64 (pos w) → HasValue r false w 1 → w ≤ cut p → T (le r p)
unfolding cut
at_most nan r w g f e v l = absurd f
at_most (inf s) r w g f e v l = absurd f
at_most (fin true m e) r w g f q v l =
    subst (λ (z : Float). T (le z (fin true m e))) (sym (q ∙ ap (λ (n : ℕ). of_int binary64 (pos n)) (nothing w (m * up e) (down e) (down_pos e) (minus-zero m e g) l) ∙ zero_is)) g
  where
    zero_is : of_int binary64 (pos 0) ≡ zero64
    zero_is = unfold of_int round in refl

    nothing : (w n d : ℕ) → 0 < d → n ≡ 0 → w ≤ n / d → w ≡ 0
    nothing w n d D z l = let s : n / d < 1 = (div-lt_iff_lt-mul D).1 (lt_of_le_of_lt (le_of_eq z) (lt_of_lt_of_le D (le_of_eq (sym (one d))))) in omega (arith, s, l)
      where
        one : (d : ℕ) → 1 * d ≡ d
        one d = omega arith
at_most (fin false m e) r w g f q v l =
    le_of_values r (fin false m e) w 1 (m * up e) (down e) (pow_pos 0) (down_pos e) v (refl, refl)
    (le_trans (mul-le-mul_right (down e) l) (le_trans (cut_parts (m * up e) (down e) (down_pos e)).0 (le_of_eq (sym (mul-one (m * up e))))))

pub above-it : (p r : Float) → T (le zero64 p) → Ranged p → cut p < 2 ^ 32 → (n : NextTo (cut p) r) → le r p ≡ false → n.whole ≡ cut p + 1
above-it p r g k h n e =
    let no : n.whole ≤ cut p → ⊥ = λ l. clash (le r p) (at_most p r n.whole g (is_true (ranged-finite p k)) n.is (value p r g k h n) l) e in
    omega (arith, n.lower, n.upper, no)
  where
    clash : (b : Bool) → T b → b ≢ false
    clash true t e = true≢false e
    clash false t e = t

-- UP TO 2 ^ 32 - 1, the greatest number of 32 bits
abbrev pub word-most : Float
word-most = fin false 4294967295 (pos 0)

pub word-most-bits : of_bits binary64 0x41ef_ffff_ffe0_0000 ≡ word-most
unfolding of_bits
word-most-bits = refl

pub below-most : (p : Float) → T (le zero64 p) → T (lt p word-most) → (finite p ≡ true) × (cut p < 4294967295)
unfolding le lt cut
below-most nan g t = absurd t
below-most (inf true) g t = absurd g
below-most (inf false) g t = absurd t
below-most (fin true m e) g t = (refl, (div-lt_iff_lt-mul (down_pos e)).1 (subst (λ (n : ℕ). n < 4294967295 * down e) (sym (minus-zero m e g)) (mul-pos (ltb→lt 0 4294967295 tt) (down_pos e))))
below-most (fin false m e) g t = (refl, (div-lt_iff_lt-mul (down_pos e)).1 (lt_of_le_of_lt (le_of_eq (sym (mul-one (m * up e)))) (ltb→lt (m * up e * 1) (4294967295 * down e) t)))

pub below_end : (p : Float) → T (le zero64 p) → T (lt p word-most) → lt p word_end ≡ true
below_end p g t = let b = below-most p g t in word_test p g ∙ (λ i. b.0 i && le-leb (cut p) 4294967295 (less (cut p) b.1) i)
  where
    less : (c : ℕ) → c < 4294967295 → c ≤ 4294967295
    less c h = omega arith

-- from there to 2 ^ 32 the cut is that number
reaches : (p : Float) → T (le zero64 p) → lt p word-most ≡ false → lt p word_end ≡ true → 4294967295 ≤ cut p
unfolding le lt cut
reaches nan g a b = absurd g
reaches (inf true) g a b = absurd g
reaches (inf false) g a b = absurd (true≢false (sym b))
reaches (fin true m e) g a b = absurd (true≢false (sym (lt-ltb 0 (m * up e * 1 + 4294967295 * down e) (some (m * up e * 1) (4294967295 * down e) (mul-pos (ltb→lt 0 4294967295 tt) (down_pos e)))) ∙ a))
  where
    some : (x y : ℕ) → 0 < y → 0 < x + y
    some x y h = omega arith
reaches (fin false m e) g a b = (le-div_iff_mul-le (down_pos e)).1 (le_trans (ltb-false (m * up e * 1) (4294967295 * down e) a) (le_of_eq (mul-one (m * up e))))

pub at-end : (p : Float) → T (le zero64 p) → lt p word-most ≡ false → lt p word_end ≡ true → 4294967295 ≡ cut p
at-end p g a b =
    let u : cut p ≤ 4294967295 = leb→le (cut p) 4294967295 (and_right (finite p) (nat_le (cut p) 4294967295) (is_true (sym (word_test p g) ∙ b))) in
    omega (arith, u, reaches p g a b)
