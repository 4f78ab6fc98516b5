-- A PRODUCT TAKEN TO A WHOLE NUMBER, in plain numbers. The cut is at most the rounded product and less than one
-- below it. The nearest is within a half of it; at a half it is the one away from zero. Both are within one of the
-- exact product too. And a value's 64 bits are its eight bytes, each times its power of 256. Assumes nothing.
use Rattle.std.specs.Prelude.{◌≡◌, ℕ, zero, suc, ◌+◌, ◌-◌, ◌*◌, ◌/◌, ◌%◌, ◌^◌, ◌<◌, ◌≤◌, min, Bool, true, false, cond, T, ◌↔◌, List, ◌≢◌, nat_lt, slice_index, refl, Float}
use Rattle.std.proofs.Common.{sym, ap, ◌∙◌, subst, true≢false, lt_of_mul-lt-mul_right, le_trans, le_of_eq, le_of_lt, lt_of_le_of_lt, mul-one, mul-le-mul_right, arith, lit<, pow_pos}
use Prim.Native.Nat.{compare}
use Rattle.std.proofs.Math.Decide.{dec_lt}
use Rattle.std.specs.Float.{nan, inf, fin, binary64}
use Rattle.std.specs.Float.Ieee.{prec, emax, low, size, odd, round, up, down, le, to_unsigned, nearest as ieee-nearest, units as ieee-units}
use Rattle.std.specs.Float.Ieee.Exact.{HasValue}
use Rattle.std.specs.Float.Ieee.Fits.{down_pos}
use Rattle.std.specs.Float.Ieee.Back.{round_whole}
use Rattle.std.specs.Float.Ieee.Order.{round_mono}
use Rattle.std.specs.Float.Ieee.Positive.{num, den, den_pos, through}
use Rattle.std.specs.Float.Ieee.Scale as float
use Rattle.std.specs.Float.Ieee.Scale.{round_val, round_under}
use Rattle.base_integers.specs.Steps.Ranges.{is_true}
use Rattle.base_integers.specs.Meaning.NaturalSums.{sum_nat}
use Rattle.rules.specs.Meaning.Layout.{u32_at}
use Rattle.dump_binary64.specs.Meaning.Value.{bits_at, minus, units, product, cut, nearest}
use Rattle.dump_binary64.proofs.Steps.WholePart.{cut_parts}
use Rattle.dump_binary64.proofs.Steps.Cutting.{lt-or-eq, over_by, under-by, round-cut-le, round-cut-ge}

-- THE 64 BITS of value n
pub bits-are-bytes : (dump : List ℕ) (n : ℕ) → bits_at dump n ≡ sum_nat 8 (λ i. slice_index dump (8 * n + i) * 256 ^ i)
unfolding bits_at u32_at sum_nat
bits-are-bytes dump n =
    omega (
      arith,
      at 0 (8 * n) (omega arith),
      at 5 (8 * n + 4 + 1) (omega arith),
      at 6 (8 * n + 4 + 2) (omega arith),
      at 7 (8 * n + 4 + 3) (omega arith),
    )
  where
    at : (i k : ℕ) → k ≡ 8 * n + i → slice_index dump k ≡ slice_index dump (8 * n + i)
    at i k e = ap (λ (j : ℕ). slice_index dump j) e

-- THE PRODUCT of the value b and a whole number, rounded once to binary64: the fraction num r / den r
abbrev pub rounded : ℕ → ℕ → Float
rounded b q = round binary64 (minus b) (units b * q) (2 ^ 1074)

-- v is the product cut: v ≤ r < v + 1
pub record CutOf (b q v : ℕ) : Type 0 where
  pub finite : float.finite (rounded b q) ≡ true
  pub at_most : v * den (rounded b q) ≤ num (rounded b q)
  pub past : num (rounded b q) < (v + 1) * den (rounded b q)

-- v is the whole number nearest to the product's size: 2 * |r - v| ≤ 1, and of two equally near the one away from
-- zero, so that r is a half above no v
pub record NearestOf (b q v : ℕ) : Type 0 where
  pub finite : float.finite (rounded b q) ≡ true
  pub over : 2 * v * den (rounded b q) ≤ 2 * num (rounded b q) + den (rounded b q)
  pub under : 2 * num (rounded b q) ≤ 2 * v * den (rounded b q) + den (rounded b q)
  pub away : (k : ℕ) → 2 * num (rounded b q) ≡ (2 * k + 1) * den (rounded b q) → v ≡ k + 1

nearest-parts : (n d : ℕ) → 0 < d → (2 * ((2 * n + d) / (2 * d)) * d ≤ 2 * n + d) × (2 * n < 2 * ((2 * n + d) / (2 * d)) * d + d)
nearest-parts n d h =
    let p : 0 < 2 * d = omega arith in
    let c = cut_parts (2 * n + d) (2 * d) p in
    (omega (arith, c.0), omega (arith, c.1))

pub cut_of : (b q : ℕ) → float.finite (product b q) ≡ true → CutOf b q (cut (product b q))
unfolding product cut
cut_of b q f = let c = cut_parts (num (rounded b q)) (den (rounded b q)) (den_pos (rounded b q)) in record { finite = f; at_most = c.0; past = c.1 }

one-half : (v k n d : ℕ) → 0 < d → 2 * v * d ≤ 2 * n + d → 2 * n < 2 * v * d + d → 2 * n ≡ (2 * k + 1) * d → v ≡ k + 1
one-half v k n d D h l e =
    let a : k < v = lt_of_mul-lt-mul_right d {m = k} {n = v} (omega arith) in
    let b : v < k + 2 = lt_of_mul-lt-mul_right d {m = v} {n = k + 2} (omega arith) in
    omega arith

pub nearest-of : (b q : ℕ) → float.finite (product b q) ≡ true → NearestOf b q (nearest (product b q))
unfolding product nearest
nearest-of b q f =
    let r = rounded b q in
    let c = nearest-parts (num r) (den r) (den_pos r) in
    record { finite = f; over = c.0; under = omega (arith, c.1); away = λ k e. one-half _ k (num r) (den r) (den_pos r) c.0 c.1 e }

-- THE RESULT IS ABOVE g if and only if the product is g + 1 or more, or for the nearest g + 1/2 or more
pub cut-above : (b q g : ℕ) → (g < cut (product b q)) ↔ ((g + 1) * den (rounded b q) ≤ num (rounded b q))
unfolding product cut
cut-above b q g =
    let n = num (rounded b q) in
    let d = den (rounded b q) in
    let c = cut_parts n d (den_pos (rounded b q)) in (
      λ h. let k : g + 1 ≤ n / d = omega (arith, h) in le_trans (mul-le-mul_right d k) c.0,
      λ h. let k : g + 1 < n / d + 1 = lt_of_mul-lt-mul_right d {m = g + 1} {n = n / d + 1} (lt_of_le_of_lt h c.1) in omega (arith, k),
    )

pub nearest-above : (b q g : ℕ) → (g < nearest (product b q)) ↔ ((2 * g + 1) * den (rounded b q) ≤ 2 * num (rounded b q))
unfolding product nearest
nearest-above b q g =
    let n = num (rounded b q) in
    let d = den (rounded b q) in
    let v = (2 * n + d) / (2 * d) in
    let c = nearest-parts n d (den_pos (rounded b q)) in (
      λ h. up g v n d h c.0,
      λ h. let k : 2 * g + 1 < 2 * v + 1 = lt_of_mul-lt-mul_right d {m = 2 * g + 1} {n = 2 * v + 1} (down g v n d h c.1) in omega (arith, k),
    )
  where
    up : (g v n d : ℕ) → g < v → 2 * v * d ≤ 2 * n + d → (2 * g + 1) * d ≤ 2 * n
    up g v n d h l = let k : (2 * g + 2) * d ≤ 2 * v * d = mul-le-mul_right d (omega arith) in omega (arith, k)

    down : (g v n d : ℕ) → (2 * g + 1) * d ≤ 2 * n → 2 * n < 2 * v * d + d → (2 * g + 1) * d < (2 * v + 1) * d
    down g v n d h l = omega arith

-- AGAINST THE EXACT PRODUCT, the fraction units b * q / 2 ^ 1074: the cut differs from it by less than one
pub record WithinOne (b q v : ℕ) : Type 0 where
  pub over : v * 2 ^ 1074 < units b * q + 2 ^ 1074
  pub under : units b * q < v * 2 ^ 1074 + 2 ^ 1074

-- a cast to 64 bits of a finite value without sign, whose cut is small
cast_is : (x : Float) (a c : ℕ) → HasValue x false a c → cut x < 2 ^ 53 → to_unsigned 64 x ≡ cut x
unfolding cut to_unsigned
cast_is nan a c v h = absurd v
cast_is (inf t) a c v h = absurd v
cast_is (fin true m e) a c v h = absurd (true≢false v.0)
cast_is (fin false m e) a c v h = uncapped (m * up e / down e) h
  where
    uncapped : (n : ℕ) → n < 0x20_0000_0000_0000 → min n 0xffff_ffff_ffff_ffff ≡ n
    uncapped n h = omega arith

-- without sign: a / c rounded and cut, against whole numbers that binary64 holds
plus-within : (a c : ℕ) → 0 < c → T (float.finite (round binary64 false a c)) → cut (round binary64 false a c) < 2 ^ 53
    → (cut (round binary64 false a c) * c < a + c) × (a < cut (round binary64 false a c) * c + c)
plus-within a c C f l =
    let r = cut (round binary64 false a c) in
    let e : to_unsigned 64 (round binary64 false a c) ≡ r = cast_is _ _ _ (round_val binary64 a c (round_under binary64 a c f)) l in (
      over_by a c r C (λ n k g. subst (λ (x : ℕ). x ≤ n) e (round-cut-le binary64 64 a c n C (le_trans k (le_of_lt l)) g)),
      under-by a c r (λ g. subst (λ (x : ℕ). suc r ≤ x) e (round-cut-ge binary64 64 a c (suc r) C l (lt_of_le_of_lt l (lit< tt)) g)),
    )

-- a sign does not change a product's size
odd-size : (d : ℕ) (s : Bool) (q k l : ℕ) → (num (odd d s q k l) ≡ num (odd d false q k l)) × (den (odd d s q k l) ≡ den (odd d false q k l)) × (float.finite (odd d s q k l) ≡ float.finite (odd d false q k l))
unfolding odd
odd-size d s zero k l = (refl, refl, refl)
odd-size d s (suc q) k l = (refl, refl, refl)

either-size : (b s : Bool) (x y : Float) → (num x ≡ num y) × (den x ≡ den y) × (float.finite x ≡ float.finite y)
    → (num (cond b x (inf s)) ≡ num (cond b y (inf false))) × (den (cond b x (inf s)) ≡ den (cond b y (inf false))) × (float.finite (cond b x (inf s)) ≡ float.finite (cond b y (inf false)))
either-size true s x y h = h
either-size false s x y h = (refl, refl, refl)

round-size : (s : Bool) (a c : ℕ) → (num (round binary64 s a c) ≡ num (round binary64 false a c)) × (den (round binary64 s a c) ≡ den (round binary64 false a c)) × (float.finite (round binary64 s a c) ≡ float.finite (round binary64 false a c))
unfolding round ieee-units
round-size s a c =
    let n = a * 2 ^ low binary64 in
    let k = size (n / c) - prec binary64 in
    let u = c * 2 ^ k in
    let q = ieee-nearest (n / u) (compare (n % u * 2) u) in
    either-size (nat_lt (q * 2 ^ k) (2 ^ (low binary64 + suc (emax binary64)))) s _ _ (odd-size (suc (prec binary64)) s q k (low binary64))

-- a / c at most n, rounded, is at most n
num-le : (a c : ℕ) (x y : Float) (n : ℕ) → HasValue x false a c → HasValue y false n 1 → T (le x y) → num x ≤ n * den x
unfolding le
num-le a c nan y n u v h = absurd u
num-le a c (inf t) y n u v h = absurd u
num-le a c (fin true m e) y n u v h = absurd (true≢false u.0)
num-le a c (fin false m e) nan n u v h = absurd v
num-le a c (fin false m e) (inf t) n u v h = absurd v
num-le a c (fin false m e) (fin true k d) n u v h = absurd (true≢false v.0)
num-le a c (fin false m e) (fin false k d) n u v h =
    le_trans (le_of_eq (sym (mul-one (m * up e)))) (through (m * up e) (k * up d) n (down e) (down d) 1 (down_pos d) (lt-or-eq (m * up e * down d) (k * up d * down e) h) (le_of_eq v.1))

round-num-le : (a c n : ℕ) → 0 < c → T (float.finite (round binary64 false a c)) → n ≤ 2 ^ 53 → a ≤ n * c → num (round binary64 false a c) ≤ n * den (round binary64 false a c)
round-num-le a c n C f p h =
    num-le _ _ (round binary64 false a c) (round binary64 false n 1) n (round_val binary64 a c (round_under binary64 a c f)) (round_whole binary64 false n p) (round_mono binary64 a c n 1 C (pow_pos 0) (le_trans (le_of_eq (mul-one a)) h))

-- from the size alone
pub within-one : (b q : ℕ) → float.finite (product b q) ≡ true → cut (product b q) < 2 ^ 53 → WithinOne b q (cut (product b q))
unfolding product cut
within-one b q f l =
    let z = round-size (minus b) (units b * q) (2 ^ 1074) in
    let e : cut (rounded b q) ≡ cut (round binary64 false (units b * q) (2 ^ 1074)) = (λ i. z.0 i / z.1 i) in
    let w = plus-within (units b * q) (2 ^ 1074) (pow_pos 1074) (is_true (sym z.2 ∙ f)) (subst (λ (k : ℕ). k < 2 ^ 53) e l) in
    subst (λ (k : ℕ). WithinOne b q k) (sym e) (record { over = w.0; under = w.1 })

-- the nearest is the cut or one more, and within one of the exact product too
near-cut : (w v n d : ℕ) → w * d ≤ n → n < (w + 1) * d → 2 * v * d ≤ 2 * n + d → 2 * n < 2 * v * d + d → (w ≤ v) × (v ≤ w + 1)
near-cut w v n d a b h l =
    let p : 2 * w < 2 * v + 1 = lt_of_mul-lt-mul_right d {m = 2 * w} {n = 2 * v + 1} (omega arith) in
    let q : 2 * v < 2 * w + 3 = lt_of_mul-lt-mul_right d {m = 2 * v} {n = 2 * w + 3} (omega arith) in
    (omega arith, omega arith)

near_within : (w v n d a c : ℕ) → 0 < d → w * d ≤ n → n < (w + 1) * d → 2 * v * d ≤ 2 * n + d → 2 * n < 2 * v * d + d → w * c < a + c → a < w * c + c → (a ≤ w * c → n ≤ w * d)
    → (v * c < a + c) × (a < v * c + c)
near_within w v n d a c D p q h l o u g = by (dec_lt w v) (dec_lt (w * c) a)
  where
    between : (w ≤ v) × (v ≤ w + 1)
    between = near-cut w v n d p q h l

    never : a ≤ w * c → v ≢ w + 1
    never m e = omega (arith, D, h, g m, ap (λ (k : ℕ). 2 * k * d) e)

    by : Dec (w < v) → Dec (w * c < a) → (v * c < a + c) × (a < v * c + c)
    by (no x) y = let e : v ≡ w = omega (arith, between.0) in (omega (arith, o, ap (λ (k : ℕ). k * c) e), omega (arith, u, ap (λ (k : ℕ). k * c) e))
    by (yes x) (yes y) = let e : v ≡ w + 1 = omega (arith, between.1) in (omega (arith, ap (λ (k : ℕ). k * c) e), omega (arith, u, ap (λ (k : ℕ). k * c) e))
    by (yes x) (no y) = absurd (never (omega arith) (omega (arith, between.1)))

pub nearest-within-one : (b q : ℕ) → float.finite (product b q) ≡ true → nearest (product b q) < 2 ^ 53 → WithinOne b q (nearest (product b q))
unfolding product cut nearest
nearest-within-one b q f l =
    let r = rounded b q in
    let a = units b * q in
    let z = round-size (minus b) a (2 ^ 1074) in
    let ok : T (float.finite (round binary64 false a (2 ^ 1074))) = is_true (sym z.2 ∙ f) in
    let p = cut_parts (num r) (den r) (den_pos r) in
    let n = nearest-parts (num r) (den r) (den_pos r) in
    let few : cut r < 2 ^ 53 = lt_of_le_of_lt (near-cut (cut r) (nearest r) (num r) (den r) p.0 p.1 n.0 n.1).0 l in
    let o = within-one b q f few in
    let w = near_within (cut r) (nearest r) (num r) (den r) a (2 ^ 1074) (den_pos r) p.0 p.1 n.0 n.1 o.over o.under
    (λ h. subst (λ (x : ℕ). x ≤ cut r * den r) (sym z.0) (subst (λ (x : ℕ). num (round binary64 false a (2 ^ 1074)) ≤ cut r * x) (sym z.1) (round-num-le a (2 ^ 1074) (cut r) (pow_pos 1074) ok (le_of_lt few) h))) in
    record { over = w.0; under = w.1 }
