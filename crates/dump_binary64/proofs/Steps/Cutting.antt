-- A fraction rounded to a format and cut to a whole number, against whole numbers: if it is at most n before, it is
-- at most n after, and if at least n, at least n after. So the product that is rounded once and cut is within one
-- of the exact one. Assumes nothing.
use Rattle.std.specs.Prelude.{◌≡◌, ℕ, zero, suc, ◌+◌, ◌-◌, ◌*◌, ◌/◌, ◌^◌, ◌<◌, ◌≤◌, min, Bool, true, false, ◌&&◌, ◌||◌, T, ◌⊎◌, ℤ, pos, ◌==◌, nat_lt, refl, Float}
use Rattle.std.proofs.Common.{sym, ap, ◌∙◌, subst, inl, inr, zero-le, le_trans, le_of_eq, le_of_lt, lt_irrefl, lt_of_not-le, zero-lt-suc, lt_of_lt_of_le, lt_of_le_of_lt, mul-lt-mul_of_pos_right, mul-one, one-mul, zero-mul, mul_comm, mul_assoc, mul_left_comm, mul-pos, div-one, suc-mul, mul-le-mul_right, div-lt_iff_lt-mul, arith, true≢false, eqb→eq, ltb→lt, lt→ltb, lit<, pow_pos}
use Rattle.std.proofs.Math.Nat.{le-suc}
use Rattle.std.specs.Float.{nan, inf, fin, Format, binary64}
use Rattle.std.specs.Float.Ieee.{prec, up, down, round, mul, le, lt, to_unsigned, of_int}
use Rattle.std.specs.Float.Ieee.Fits.{down_pos, and_l, and_r, and_i, eq→eqb}
use Rattle.std.specs.Float.Ieee.Exact.{HasValue, round_exact}
use Rattle.std.specs.Float.Ieee.Nearest.{div_mono}
use Rattle.std.specs.Float.Ieee.Order.{round_mono}
use Rattle.std.specs.Float.Ieee.Scale.{round_same, finite}
use Rattle.std.specs.Float.Ieee.Back.{round_whole}
use Rattle.std.specs.Float.Ieee.Positive.{through, num, den}
use Rattle.dump_binary64.specs.Meaning.Value.{cut}
use Rattle.dump_binary64.specs.Meaning.Machine.{zero64, one64, times}
use Rattle.dump_binary64.specs.Steps.Cutting.{Ranged}

-- ≤ between two floats that are not negative is ≤ between two numbers
or_split : (a b : Bool) → T (a || b) → T a ⊎ T b
or_split true b t = inl tt
or_split false b t = inr t

pub lt-or-eq : (a b : ℕ) → T (nat_lt a b || (a == b && true)) → a ≤ b
lt-or-eq a b t = elim (or_split (nat_lt a b) (a == b && true) t) [ inl u ↦ le_of_lt (ltb→lt a b u) | inr u ↦ le_of_eq (eqb→eq a b (and_l (a == b) true u)) ]

-- the whole part against a whole number
whole_le : (a c n : ℕ) → 0 < c → a ≤ n * c → a / c ≤ n
whole_le a c n C h = le_trans (div_mono a c n 1 C (pow_pos 0) (le_trans (le_of_eq (mul-one a)) h)) (le_of_eq (div-one n))

whole-ge : (a c n : ℕ) → 0 < c → n * c ≤ a → n ≤ a / c
whole-ge a c n C h = le_trans (le_of_eq (sym (div-one n))) (div_mono n 1 a c (pow_pos 0) C (le_trans h (le_of_eq (sym (mul-one a)))))

capped_le : (a c n : ℕ) → a ≤ n → min a c ≤ n
capped_le a c n h = omega arith

capped-ge : (a c n : ℕ) → n ≤ a → n < c → n ≤ min a (c - 1)
capped-ge a c n h k = omega arith

pub cut-le : (w : ℕ) (x y : Float) (n : ℕ) → HasValue y false n 1 → T (le x y) → to_unsigned w x ≤ n
unfolding le to_unsigned
cut-le w nan y n v h = zero-le
cut-le w (inf true) y n v h = zero-le
cut-le w (inf false) nan n v h = absurd v
cut-le w (inf false) (inf t) n v h = absurd v
cut-le w (inf false) (fin t k d) n v h = absurd h
cut-le w (fin true m e) y n v h = zero-le
cut-le w (fin false m e) nan n v h = absurd v
cut-le w (fin false m e) (inf t) n v h = absurd v
cut-le w (fin false m e) (fin true k d) n v h = absurd (true≢false v.0)
cut-le w (fin false m e) (fin false k d) n v h =
    capped_le (m * up e / down e) (2 ^ w - 1) n
    (whole_le (m * up e) (down e) n (down_pos e)
    (le_trans (le_of_eq (sym (mul-one (m * up e))))
    (through (m * up e) (k * up d) n (down e) (down d) 1 (down_pos d) (lt-or-eq (m * up e * down d) (k * up d * down e) h) (le_of_eq v.1))))

pub none : (u b : ℕ) → 0 < b → u * b ≡ 0 → u ≡ 0
none zero b B e = refl
none (suc u) b B e = absurd (lt_irrefl 0 (subst (λ (x : ℕ). 0 < x) e (mul-pos (zero-lt-suc u) B)))

zero-value : (k : ℕ) (d : ℤ) (n b : ℕ) → 0 < b → k * up d * b ≡ 0 → k * up d * 1 ≡ n * down d → n ≡ 0
zero-value k d n b B z v = none n (down d) (down_pos d) (sym v ∙ mul-one (k * up d) ∙ none (k * up d) b B z)

pub cut-ge : (w : ℕ) (x y : Float) (n : ℕ) → n < 2 ^ w → HasValue y false n 1 → T (le y x) → n ≤ to_unsigned w x
unfolding le to_unsigned
cut-ge w x nan n l v h = absurd v
cut-ge w x (inf t) n l v h = absurd v
cut-ge w x (fin true k d) n l v h = absurd (true≢false v.0)
cut-ge w nan (fin false k d) n l v h = absurd h
cut-ge w (inf true) (fin false k d) n l v h = absurd h
cut-ge w (inf false) (fin false k d) n l v h = most (2 ^ w) n l
  where
    most : (c n : ℕ) → n < c → n ≤ c - 1
    most c n h = omega arith
cut-ge w (fin true m e) (fin false k d) n l v h =
    le_of_eq (zero-value k d n (down e) (down_pos e) (eqb→eq (k * up d * down e) 0 (and_r (k * up d * down e == m * up e * down d) (k * up d * down e == 0) h)) v.1)
cut-ge w (fin false m e) (fin false k d) n l v h =
    capped-ge (m * up e / down e) (2 ^ w) n
    (whole-ge (m * up e) (down e) n (down_pos e)
    (le_trans (through n (k * up d) (m * up e) 1 (down d) (down e) (down_pos d) (le_of_eq (sym v.1)) (lt-or-eq (k * up d * down e) (m * up e * down d) h)) (le_of_eq (mul-one (m * up e)))))
    l

-- a / c, rounded and cut
pub round-cut-le : (f : Format) (w a c n : ℕ) → 0 < c → n ≤ 2 ^ prec f → a ≤ n * c → to_unsigned w (round f false a c) ≤ n
round-cut-le f w a c n C p h =
    cut-le w (round f false a c) (round f false n 1) n (round_whole f false n p) (round_mono f a c n 1 C (pow_pos 0) (le_trans (le_of_eq (mul-one a)) h))

pub round-cut-ge : (f : Format) (w a c n : ℕ) → 0 < c → n ≤ 2 ^ prec f → n < 2 ^ w → n * c ≤ a → n ≤ to_unsigned w (round f false a c)
round-cut-ge f w a c n C p l h =
    cut-ge w (round f false a c) (round f false n 1) n l (round_whole f false n p) (round_mono f n 1 a c (pow_pos 0) C (le_trans h (le_of_eq (sym (mul-one a)))))

-- what the truncating cast requires: above -1 and below 2 ^ 64
under_64 : (a c n : ℕ) → 0 < c → n < 2 ^ 64 → a ≤ n * c → a * 1 < 1 * 2 ^ 64 * c
under_64 a c n C l h =
    lt_of_le_of_lt (le_trans (le_of_eq (mul-one a)) h) (subst (λ (x : ℕ). n * c < x * c) (sym (one-mul (2 ^ 64))) (mul-lt-mul_of_pos_right l C))

some : (a b : ℕ) → 0 < a → 0 < a + b
some a b h = omega arith

other : (a b : ℕ) → 0 < b → 0 < a + b
other a b h = omega arith

-- a zero of either sign
pub zero-in-range : (x : Float) (s : Bool) (c : ℕ) → 0 < c → HasValue x s 0 c → Ranged x
unfolding lt
zero-in-range nan s c C v = absurd v
zero-in-range (inf t) s c C v = absurd v
zero-in-range (fin t m e) s c C v = go t
  where
    z : m * up e * 1 ≡ 0
    z = mul-one (m * up e) ∙ none (m * up e) c C (v.1 ∙ zero-mul (down e))

    go : (t : Bool) → Ranged (fin t m e)
    go true = (
      lt→ltb (m * up e * 1) (1 * down e) (subst (λ (x : ℕ). x < 1 * down e) (sym z) (mul-pos (pow_pos 0) (down_pos e))),
      lt→ltb 0 (m * up e * 1 + 1 * 2 ^ 64 * down e) (other (m * up e * 1) (1 * 2 ^ 64 * down e) (mul-pos (pow_pos 64) (down_pos e))),
    )
    go false = (
      lt→ltb 0 (1 * down e + m * up e * 1) (some (1 * down e) (m * up e * 1) (mul-pos (pow_pos 0) (down_pos e))),
      lt→ltb (m * up e * 1) (1 * 2 ^ 64 * down e) (subst (λ (x : ℕ). x < 1 * 2 ^ 64 * down e) (sym z) (mul-pos (pow_pos 64) (down_pos e))),
    )

-- x is not negative, and at most a whole number that fits
pub in-range : (x z y : Float) (n : ℕ) → n < 2 ^ 64 → HasValue z false 0 1 → HasValue y false n 1 → T (le z x) → T (le x y) → Ranged x
unfolding le lt
in-range x nan y n l u v g h = absurd u
in-range x (inf t) y n l u v g h = absurd u
in-range x (fin true j b) y n l u v g h = absurd (true≢false u.0)
in-range x (fin false j b) nan n l u v g h = absurd v
in-range x (fin false j b) (inf t) n l u v g h = absurd v
in-range x (fin false j b) (fin true k d) n l u v g h = absurd (true≢false v.0)
in-range nan (fin false j b) (fin false k d) n l u v g h = absurd h
in-range (inf true) (fin false j b) (fin false k d) n l u v g h = absurd g
in-range (inf false) (fin false j b) (fin false k d) n l u v g h = absurd h
in-range (fin true m e) (fin false j b) (fin false k d) n l u v g h =
    zero-in-range (fin true m e) true 1 (pow_pos 0) (
      refl,
      mul-one (m * up e)
          ∙ none (m * up e) (down b) (down_pos b)
          (sym (eqb→eq (j * up b * down e) (m * up e * down b) (and_l (j * up b * down e == m * up e * down b) (j * up b * down e == 0) g))
          ∙ eqb→eq (j * up b * down e) 0 (and_r (j * up b * down e == m * up e * down b) (j * up b * down e == 0) g))
          ∙ sym (zero-mul (down e)),
    )
in-range (fin false m e) (fin false j b) (fin false k d) n l u v g h = (
  lt→ltb 0 (1 * down e + m * up e * 1) (some (1 * down e) (m * up e * 1) (mul-pos (pow_pos 0) (down_pos e))),
  lt→ltb (m * up e * 1) (1 * 2 ^ 64 * down e) (under_64 (m * up e) (down e) n (down_pos e) l
      (le_trans (le_of_eq (sym (mul-one (m * up e))))
      (through (m * up e) (k * up d) n (down e) (down d) 1 (down_pos d) (lt-or-eq (m * up e * down d) (k * up d * down e) h) (le_of_eq v.1)))),
)

pub round-in-range : (a c n : ℕ) → 0 < c → n ≤ 2 ^ 53 → a ≤ n * c → Ranged (round binary64 false a c)
round-in-range a c n C p h =
    in-range (round binary64 false a c) (round binary64 false 0 1) (round binary64 false n 1) n (lt_of_le_of_lt p (lit< tt)) (round_whole binary64 false 0 zero-le) (round_whole binary64 false n p)
    (round_mono binary64 0 1 a c (pow_pos 0) C (le_trans (le_of_eq (zero-mul c)) zero-le)) (round_mono binary64 a c n 1 C (pow_pos 0) (le_trans (le_of_eq (mul-one a)) h))

-- a product with a whole number
cross : (x y c d q : ℕ) → y * 1 ≡ q * d → x * y * c ≡ x * q * (c * d)
cross x y c d q h = ap (λ (z : ℕ). x * z * c) (sym (mul-one y) ∙ h) ∙ simp (mul_assoc, mul_comm, mul_left_comm)

pub mul-whole : (f : Format) (s : Bool) (m : ℕ) (e : ℤ) (y : Float) (q : ℕ) → HasValue y false q 1 → mul f (fin s m e) y ≡ round f s (m * up e * q) (down e)
unfolding mul
mul-whole f s m e nan q v = absurd v
mul-whole f s m e (inf t) q v = absurd v
mul-whole f s m e (fin true n d) q v = absurd (true≢false v.0)
mul-whole f true m e (fin false n d) q v = round_same f true (m * up e * (n * up d)) (down e * down d) (m * up e * q) (down e) (mul-pos (down_pos e) (down_pos d)) (down_pos e) (cross (m * up e) (n * up d) (down e) (down d) q v.1)
mul-whole f false m e (fin false n d) q v = round_same f false (m * up e * (n * up d)) (down e * down d) (m * up e * q) (down e) (mul-pos (down_pos e) (down_pos d)) (down_pos e) (cross (m * up e) (n * up d) (down e) (down d) q v.1)

-- a share: from 0 to 1, including minus zero
-- x is finite, and its sign is minus only where it is zero
abbrev pub Share : Float → Type 0
Share nan = ⊥
Share (inf s) = ⊥
Share (fin true m e) = m * up e ≡ 0
Share (fin false m e) = m * up e ≤ down e

pub share-of : (x : Float) → T (le (fin false 0 (pos 0)) x) → T (le x (fin false 1 (pos 0))) → Share x
unfolding le
share-of nan g h = absurd g
share-of (inf true) g h = absurd g
share-of (inf false) g h = absurd h
share-of (fin true m e) g h =
    sym (mul-one (m * up e)) ∙ sym (eqb→eq (0 * down e) (m * up e * 1) (and_l (0 * down e == m * up e * 1) (0 * down e == 0) g)) ∙ zero-mul (down e)
share-of (fin false m e) g h = le_trans (le_of_eq (sym (mul-one (m * up e)))) (le_trans (lt-or-eq (m * up e * 1) (1 * down e) h) (le_of_eq (one-mul (down e))))

pub of-int : (q : ℕ) → q ≤ 2 ^ 53 → HasValue (of_int binary64 (pos q)) false q 1
unfolding of_int
of-int q h = round_whole binary64 false q h

share-most : (a c q : ℕ) → a ≤ c → a * q ≤ q * c
share-most a c q h = le_trans (mul-le-mul_right q h) (le_of_eq (mul_comm c q))

zero-round : (a c q : ℕ) → 0 < c → a ≡ 0 → HasValue (round binary64 true (a * q) c) true 0 c
zero-round a c q C z = subst (λ (x : ℕ). HasValue (round binary64 true x c) true 0 c) (sym (ap (λ (y : ℕ). y * q) z ∙ zero-mul q))
    (round_exact binary64 true 0 c 0 0 C (pow_pos 53) (pow_pos 2098) (sym (zero-mul c)))

pub share-in-range : (x : Float) (q : ℕ) → Share x → q ≤ 2 ^ 53 → Ranged (mul binary64 x (of_int binary64 (pos q)))
share-in-range nan q s h = absurd s
share-in-range (inf t) q s h = absurd s
share-in-range (fin true m e) q s h =
    rw (mul-whole binary64 true m e (of_int binary64 (pos q)) q (of-int q h))
    (zero-in-range (round binary64 true (m * up e * q) (down e)) true (down e) (down_pos e) (zero-round (m * up e) (down e) q (down_pos e) s))
share-in-range (fin false m e) q s h =
    rw (mul-whole binary64 false m e (of_int binary64 (pos q)) q (of-int q h))
    (round-in-range (m * up e * q) (down e) q (down_pos e) h (share-most (m * up e) (down e) q s))

-- within one of the exact product
-- r * c < a + c, so r - 1 < a / c
pub over_by : (a c r : ℕ) → 0 < c → ((n : ℕ) → n ≤ r → a ≤ n * c → r ≤ n) → r * c < a + c
over_by a c zero C h = subst (λ (x : ℕ). x < a + c) (sym (zero-mul c)) (other a c C)
over_by a c (suc r) C h = lt_of_not-le (λ (g : a + c ≤ suc r * c). lt_irrefl r (h r (le-suc r) (less a c (r * c) (subst (λ (x : ℕ). a + c ≤ x) (suc-mul r c) g))))
  where
    less : (a c p : ℕ) → a + c ≤ p + c → a ≤ p
    less a c p h = omega arith

pub under-by : (a c r : ℕ) → (suc r * c ≤ a → suc r ≤ r) → a < r * c + c
under-by a c r h = lt_of_not-le (λ (g : r * c + c ≤ a). lt_irrefl r (h (subst (λ (x : ℕ). x ≤ a) (sym (suc-mul r c)) g)))

step : (r q p : ℕ) → r ≤ q → q < p → suc r ≤ p
step r q p h l = omega arith

pub within : (a c q : ℕ) → 0 < c → q < 2 ^ 53 → a ≤ q * c
    → (to_unsigned 64 (round binary64 false a c) ≤ q) × (to_unsigned 64 (round binary64 false a c) * c < a + c) × (a < to_unsigned 64 (round binary64 false a c) * c + c)
within a c q C l h =
    let r = to_unsigned 64 (round binary64 false a c) in
    let R : r ≤ q = round-cut-le binary64 64 a c q C (le_of_lt l) h in (
      R,
      over_by a c r C (λ n k g. round-cut-le binary64 64 a c n C (le_trans k (le_trans R (le_of_lt l))) g),
      under-by a c r (λ g. round-cut-ge binary64 64 a c (suc r) C (step r q (2 ^ 53) R l) (lt_of_le_of_lt (step r q (2 ^ 53) R l) (lit< tt)) g),
    )

minus-cut : (x : Float) (a c : ℕ) → HasValue x true a c → to_unsigned 64 x ≡ 0
unfolding to_unsigned
minus-cut nan a c v = absurd v
minus-cut (inf t) a c v = absurd v
minus-cut (fin true m e) a c v = refl
minus-cut (fin false m e) a c v = absurd (true≢false (sym v.0))

nothing : (a c q r : ℕ) → 0 < c → a ≡ 0 → r ≡ 0 → (r ≤ q) × (r * c < a * q + c) × (a * q < r * c + c)
nothing a c q r C z y = (
  le_trans (le_of_eq y) zero-le,
  subst (λ (x : ℕ). x * c < a * q + c) (sym y) (subst (λ (x : ℕ). x < a * q + c) (sym (zero-mul c)) (other (a * q) c C)),
  subst (λ (x : ℕ). x * q < r * c + c) (sym z) (subst (λ (x : ℕ). x < r * c + c) (sym (zero-mul q)) (other (r * c) c C)),
)

-- THE CAST of a value that is not negative and in the cast's range is the cut
pub cast-cut : (x : Float) → T (le zero64 x) → Ranged x → to_unsigned 64 x ≡ cut x
unfolding le lt to_unsigned cut
cast-cut nan g r = absurd g
cast-cut (inf true) g r = absurd g
cast-cut (inf false) g r = absurd r.1
cast-cut (fin true m e) g r =
    sym (whole-none (m * up e) (down e) (down_pos e)
    (sym (mul-one (m * up e)) ∙ sym (eqb→eq (0 * down e) (m * up e * 1) (and_l (0 * down e == m * up e * 1) (0 * down e == 0) g)) ∙ zero-mul (down e)))
  where
    whole-none : (a c : ℕ) → 0 < c → a ≡ 0 → a / c ≡ 0
    whole-none a c C z = nothing-below (a / c) (whole_le a c 0 C (le_of_eq (z ∙ sym (zero-mul c))))
      where
        nothing-below : (n : ℕ) → n ≤ 0 → n ≡ 0
        nothing-below n h = omega arith
cast-cut (fin false m e) g r =
    uncapped (m * up e / down e) ((div-lt_iff_lt-mul (down_pos e)).1 (lt_of_le_of_lt (le_of_eq (sym (mul-one (m * up e)))) (lt_of_lt_of_le (ltb→lt (m * up e * 1) (1 * 2 ^ 64 * down e) r.1) (le_of_eq (ap (λ (k : ℕ). k * down e) (one-mul (2 ^ 64)))))))
  where
    uncapped : (a : ℕ) → a < 0x1_0000_0000_0000_0000 → min a 0xffff_ffff_ffff_ffff ≡ a
    uncapped a h = omega arith

-- A SHARE'S PRODUCT: its cut is at most the whole, and within one of the exact product
pub record Part (x : Float) (q r : ℕ) : Type 0 where
  pub most : r ≤ q
  pub over : r * den x < num x * q + den x
  pub under : num x * q < r * den x + den x

share-cast : (x : Float) (q : ℕ) → Share x → q < 2 ^ 53 → Part x q (to_unsigned 64 (times x q))
share-cast nan q s h = absurd s
share-cast (inf t) q s h = absurd s
share-cast (fin true m e) q s h =
    let b = nothing (m * up e) (down e) q (to_unsigned 64 (times (fin true m e) q)) (down_pos e) s
    (ap (to_unsigned 64) (mul-whole binary64 true m e (of_int binary64 (pos q)) q (of-int q (le_of_lt h)))
    ∙ minus-cut (round binary64 true (m * up e * q) (down e)) 0 (down e) (zero-round (m * up e) (down e) q (down_pos e) s)) in
    record { most = b.0; over = b.1; under = b.2 }
share-cast (fin false m e) q s h =
    rw (mul-whole binary64 false m e (of_int binary64 (pos q)) q (of-int q (le_of_lt h)))
    (let b = within (m * up e * q) (down e) q (down_pos e) h (share-most (m * up e) (down e) q s) in record { most = b.0; over = b.1; under = b.2 })

pub minus-zero : (m : ℕ) (e : ℤ) → T (le zero64 (fin true m e)) → m * up e ≡ 0
unfolding le
minus-zero m e g =
    sym (mul-one (m * up e)) ∙ sym (eqb→eq (0 * down e) (m * up e * 1) (and_l (0 * down e == m * up e * 1) (0 * down e == 0) g)) ∙ zero-mul (down e)

-- a minus zero is not below zero
minus-none : (x : Float) (c : ℕ) → 0 < c → HasValue x true 0 c → T (le zero64 x)
unfolding le
minus-none nan c C v = absurd v
minus-none (inf t) c C v = absurd v
minus-none (fin false m e) c C v = absurd (true≢false (sym v.0))
minus-none (fin true m e) c C v =
    let z : m * up e * 1 ≡ 0 = mul-one (m * up e) ∙ none (m * up e) c C (v.1 ∙ zero-mul (down e)) in
    and_i (0 * down e == m * up e * 1) (0 * down e == 0) (eq→eqb (zero-mul (down e) ∙ sym z)) (eq→eqb (zero-mul (down e)))

round-zero : round binary64 false 0 1 ≡ zero64
unfolding round
round-zero = refl

pub share-finite : (x : Float) → Share x → T (finite x)
share-finite nan s = absurd s
share-finite (inf t) s = absurd s
share-finite (fin t m e) s = tt

-- A PRODUCT OF NUMBERS THAT ARE NOT NEGATIVE is not negative
pub times-not-negative : (x : Float) (q : ℕ) → T (finite x) → q ≤ 2 ^ 53 → T (le zero64 x) → T (le zero64 (times x q))
times-not-negative nan q f h g = absurd f
times-not-negative (inf t) q f h g = absurd f
times-not-negative (fin true m e) q f h g =
    rw (mul-whole binary64 true m e (of_int binary64 (pos q)) q (of-int q h))
    (minus-none (round binary64 true (m * up e * q) (down e)) (down e) (down_pos e) (zero-round (m * up e) (down e) q (down_pos e) (minus-zero m e g)))
times-not-negative (fin false m e) q f h g =
    rw (mul-whole binary64 false m e (of_int binary64 (pos q)) q (of-int q h))
    (subst (λ (z : Float). T (le z (round binary64 false (m * up e * q) (down e)))) round-zero
    (round_mono binary64 0 1 (m * up e * q) (down e) (pow_pos 0) (down_pos e) (le_trans (le_of_eq (zero-mul (down e))) zero-le)))

pub share_part : (x : Float) (q : ℕ) → T (le zero64 x) → T (le x one64) → q < 2 ^ 53 → Part x q (cut (times x q))
share_part x q g h l =
    let s = share-of x g h in
    subst (λ (r : ℕ). Part x q r) (cast-cut (times x q) (times-not-negative x q (share-finite x s) (le_of_lt l) g) (share-in-range x q s (le_of_lt l))) (share-cast x q s l)
