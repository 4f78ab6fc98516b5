-- WHICH VALUES 59 REFUSES, both ways and in plain numbers, over the 64 bits b of the value. The rounded product is the
-- fraction num / den. Minus zero is taken as zero.
-- A share is refused below zero and above one, and nowhere else.
-- A flow is refused below zero, and where its product with 10, rounded once, is infinite or 2 ^ 32 or more.
-- A shadow price is refused below zero, and where its product with 100 is infinite or 1,000,000.5 or more.
-- A system price is refused where that product is infinite, 2,147,483,647.5 or more, or -2,147,483,648.5 or less.
-- Assumes nothing.
use Rattle.std.specs.Prelude.{◌≡◌, ◌⊎◌, ◌↔◌, Bool, not, ◌&&◌, ◌||◌, ℕ, zero, suc, ◌*◌, ◌%◌, ◌^◌, ◌≤◌, ◌<◌, ℤ, neg_ℤ, ◌<ℤ◌}
use Rattle.std.proofs.Math.Path.{refl, ap}
use Rattle.std.proofs.Common.{sym, ◌∙◌, subst, true≢false, le_trans, not-le_of_lt, zero-mul, arith, ltb→lt, lit≤}
use Rattle.std.proofs.Math.Logic.{inl, inr}
use Rattle.std.proofs.Math.Bool.{true, false, cond}
use Rattle.std.proofs.Math.Decide.{dec_lt}
use borrow.Author.Tests.{ltb-true, lt-ltb, leb-false}
use Rattle.std.proofs.Math.Dec.{ltb, leb→le}
use Rattle.std.proofs.Math.IntN.{pos}
use Rattle.std.specs.Float.{fin}
use Rattle.std.specs.Float.Ieee.{binary64, round}
use Rattle.std.specs.Float.Ieee.Positive.{num, den}
use Rattle.std.specs.Float.Ieee.Scale as float
use Rattle.base_integers.specs.Meaning.Ranges.{range, outside}
use Rattle.base_integers.specs.Steps.Ranges.{is_true, not_is, nat-inside}
use Rattle.base_limits.specs.Meaning.Limits as limits
use Rattle.dump_binary64.specs.Meaning.Value.{finite, minus, units, negative, above_one, product, cut, nearest}
use Rattle.dump_binary64.proofs.Promised.PlainBits.{below-zero, above-one}
use Rattle.dump_binary64.proofs.Promised.Within.{share-within, share-finite}
use Rattle.dump_binary64.proofs.Promised.Taken.{rounded, cut-above, nearest-above}
use Rattle.dump_values.specs.Meaning.Field.{Kind, share-of, flow, system-price, shadow-price, factor, product_of, converted, forbidden, field_range, fault}

-- BELOW ZERO: the sign's bit is set, and another. ABOVE ONE: more than the bits of 1.0
abbrev pub BelowZero : ℕ → Type 0
BelowZero b = (2 ^ 63 ≤ b) × (0 < b % 2 ^ 63)

abbrev pub AboveOne : ℕ → Type 0
AboveOne b = 1023 * 2 ^ 52 < b % 2 ^ 63

-- THE PRODUCT with q, rounded once: infinite, n or more, n halves or more
abbrev pub Infinite : ℕ → ℕ → Type 0
Infinite b q = float.finite (rounded b q) ≡ false

abbrev pub Reaches : ℕ → ℕ → ℕ → Type 0
Reaches b q n = n * den (rounded b q) ≤ num (rounded b q)

abbrev pub Halves : ℕ → ℕ → ℕ → Type 0
Halves b q n = n * den (rounded b q) ≤ 2 * num (rounded b q)

-- WHAT 59 REFUSES
abbrev pub ShareRefused : ℕ → Type 0
ShareRefused b = BelowZero b ⊎ AboveOne b

abbrev pub FlowRefused : ℕ → Type 0
FlowRefused b = BelowZero b ⊎ (Infinite b 10 ⊎ Reaches b 10 4294967296)

abbrev pub ShadowRefused : ℕ → Type 0
ShadowRefused b = BelowZero b ⊎ (Infinite b 100 ⊎ Halves b 100 2000001)

abbrev pub SystemRefused : ℕ → Type 0
SystemRefused b = Infinite b 100 ⊎ (((b < 2 ^ 63) × Halves b 100 4294967295) ⊎ ((2 ^ 63 ≤ b) × Halves b 100 4294967297))

-- TESTS AND WHAT THEY SAY
or-says : (a b : Bool) {A B : Type 0} → (a ≡ true) ↔ A → (b ≡ true) ↔ B → (a || b ≡ true) ↔ (A ⊎ B)
or-says true b f g = (λ e. inl (f.0 refl), λ x. refl)
or-says false b {A} {B} f g = (λ e. inr (g.0 e), λ x. by x)
  where
    by : A ⊎ B → b ≡ true
    by (inl x) = absurd (true≢false (sym (f.1 x)))
    by (inr x) = g.1 x

not-says : (t : Bool) → (not t ≡ true) ↔ (t ≡ false)
not-says true = (λ e. absurd (true≢false (sym e)), λ e. absurd (true≢false e))
not-says false = (λ e. refl, λ e. refl)

less-says : (a b : ℕ) → (ltb a b ≡ true) ↔ (a < b)
less-says a b = (ltb-true a b, lt-ltb a b)

-- past either end of 32 signed bits
above-says : (n : ℕ) → (outside limits.system_price (pos n) ≡ true) ↔ (2147483647 < n)
unfolding outside
above-says n = less-says 2147483647 n

below-says : (n : ℕ) → (outside limits.system_price (neg_ℤ (pos n)) ≡ true) ↔ (2147483648 < n)
unfolding outside
below-says zero = (λ e. absurd (true≢false (sym e)), λ h. absurd (never h))
  where
    never : 2147483648 < 0 → ⊥
    never h = omega arith
below-says (suc n) = (λ e. up ((or-says (ltb 2147483647 n) false (less-says 2147483647 n) (λ q. absurd (true≢false (sym q)), λ (x : ⊥). absurd x)).0 e), λ h. ap (λ (t : Bool). t || false) (lt-ltb 2147483647 n (omega (arith, h))))
  where
    up : (2147483647 < n) ⊎ ⊥ → 2147483648 < suc n
    up (inl h) = omega arith
    up (inr x) = absurd x

-- past the end of a range from zero
outside-says : (g n : ℕ) → (outside (range (pos 0) (pos g)) (pos n) ≡ true) ↔ (g < n)
unfolding outside
outside-says g n = (λ e. past ((or-says (ltb n 0) (ltb g n) (less-says n 0) (less-says g n)).0 e), λ h. (or-says (ltb n 0) (ltb g n) (less-says n 0) (less-says g n)).1 (inr h))
  where
    never : (n : ℕ) → n < 0 → ⊥
    never n h = omega arith

    past : (n < 0) ⊎ (g < n) → g < n
    past (inl h) = absurd (never n h)
    past (inr h) = h

-- SHARES, of a value that 58 leaves and a whole of at most 100,000: the product needs no test
module _ (q b : ℕ) (f : finite b ≡ true) (h : q ≤ 100000) where
  pub share-held : negative b ≡ false → above_one b ≡ false → fault (share-of q) b ≡ false
  unfolding fault converted product_of
  share-held n o =
      let in-range : outside (range (pos 0) (pos q)) (pos (cut (product b q))) ≡ false = not_is _ (nat-inside 0 q (cut (product b q)) (omega arith) (share-within b q f n o (omega arith)).most) in
      (λ i. (n i || o i) || (not (share-finite b q f n o (le_trans h (lit≤ tt)) i) || in-range i))

  pub share-refused : (fault (share-of q) b ≡ true) ↔ ShareRefused b
  share-refused = (λ e. by (negative b) refl (above_one b) refl e, λ x. back x)
    where
      by : (n : Bool) → negative b ≡ n → (o : Bool) → above_one b ≡ o → fault (share-of q) b ≡ true → ShareRefused b
      by true n o e r = inl ((below-zero b).0 n)
      by false n true e r = inr ((above-one b).0 e)
      by false n false e r = absurd (true≢false (sym r ∙ share-held n e))

      back : ShareRefused b → fault (share-of q) b ≡ true
      back x = unfold fault in (or-says (negative b || above_one b) _ (or-says (negative b) (above_one b) (below-zero b) (above-one b)) (λ e. e, λ e. e)).1 (inl x)

module _ (b : ℕ) where
  -- FLOWS
  pub flow-refused : (fault flow b ≡ true) ↔ FlowRefused b
  unfolding fault converted product_of product
  flow-refused =
      let w = outside-says 4294967295 (cut (product b 10)) in
      or-says (negative b) _ (below-zero b)
      (or-says (not (float.finite (rounded b 10))) _ (not-says (float.finite (rounded b 10))) (λ e. (cut-above b 10 4294967295).0 (w.0 e), λ x. w.1 ((cut-above b 10 4294967295).1 x)))

  -- SHADOW PRICES
  pub shadow-refused : (fault shadow-price b ≡ true) ↔ ShadowRefused b
  unfolding fault converted product_of product
  shadow-refused =
      let w = outside-says 1000000 (nearest (product b 100)) in
      or-says (negative b) _ (below-zero b)
      (or-says (not (float.finite (rounded b 100))) _ (not-says (float.finite (rounded b 100))) (λ e. (nearest-above b 100 1000000).0 (w.0 e), λ x. w.1 ((nearest-above b 100 1000000).1 x)))

  -- SYSTEM PRICES
  pub system-refused : (fault system-price b ≡ true) ↔ SystemRefused b
  unfolding fault converted product_of product
  system-refused = or-says (not (float.finite (rounded b 100))) _ (not-says (float.finite (rounded b 100))) (by (minus b) refl)
    where
      by : (m : Bool) → minus b ≡ m → (outside limits.system_price (cond m (neg_ℤ (pos (nearest (rounded b 100)))) (pos (nearest (rounded b 100)))) ≡ true)
          ↔ (((b < 2 ^ 63) × Halves b 100 4294967295) ⊎ ((2 ^ 63 ≤ b) × Halves b 100 4294967297))
      by true m =
          let w = below-says (nearest (rounded b 100)) in
          let a = nearest-above b 100 2147483648 in
          let set : 2 ^ 63 ≤ b = leb→le (2 ^ 63) b (is_true m) in
          (λ e. inr (set, a.0 (w.0 e)), λ x. w.1 (a.1 (right set x)))
        where
          right : 2 ^ 63 ≤ b → ((b < 2 ^ 63) × Halves b 100 4294967295) ⊎ ((2 ^ 63 ≤ b) × Halves b 100 4294967297) → Halves b 100 4294967297
          right h (inl x) = absurd (not-le_of_lt x.0 h)
          right h (inr x) = x.1
      by false m =
          let w = above-says (nearest (rounded b 100)) in
          let a = nearest-above b 100 2147483647 in
          let clear : b < 2 ^ 63 = leb-false (2 ^ 63) b m in
          (λ e. inl (clear, a.0 (w.0 e)), λ x. w.1 (a.1 (left clear x)))
        where
          left : b < 2 ^ 63 → ((b < 2 ^ 63) × Halves b 100 4294967295) ⊎ ((2 ^ 63 ≤ b) × Halves b 100 4294967297) → Halves b 100 4294967295
          left h (inl x) = x.1
          left h (inr x) = absurd (not-le_of_lt h x.0)

-- MINUS ZERO IS ZERO, for every kind: both are taken, and their number is 0
zero-product : (s : Bool) (q : ℕ) → round binary64 s (0 * q) (2 ^ 1074) ≡ fin s 0 (pos 0)
unfolding round
zero-product s q = ap (λ (n : ℕ). round binary64 s n (2 ^ 1074)) (zero-mul q) ∙ by s
  where
    by : (s : Bool) → round binary64 s 0 (2 ^ 1074) ≡ fin s 0 (pos 0)
    by true = refl
    by false = refl

abbrev Zero : Kind → ℕ → Type 0
Zero k b = (fault k b ≡ false) × (converted k b ≡ pos 0)

module _ (b : ℕ) (z : units b ≡ 0) where
  zero_is : (q : ℕ) → product b q ≡ fin (minus b) 0 (pos 0)
  unfolding product
  zero_is q = ap (λ (n : ℕ). round binary64 (minus b) (n * q) (2 ^ 1074)) z ∙ zero-product (minus b) q

  not-below : negative b ≡ false
  unfolding negative
  not-below = ap (λ (n : ℕ). minus b && ltb 0 n) z ∙ by (minus b)
    where
      by : (m : Bool) → m && ltb 0 0 ≡ false
      by true = refl
      by false = refl

  not-above : above_one b ≡ false
  unfolding above_one
  not-above = ap (λ (n : ℕ). ltb (2 ^ 1074) n) z

  cut-zero : (q : ℕ) → cut (product b q) ≡ 0
  unfolding cut
  cut-zero q = ap cut (zero_is q)

  nearest_zero : (q : ℕ) → nearest (product b q) ≡ 0
  unfolding nearest
  nearest_zero q = ap nearest (zero_is q)

  number-zero : (k : Kind) → converted k b ≡ pos 0
  unfolding converted product_of
  number-zero (share-of q) = ap pos (cut-zero q)
  number-zero flow = ap pos (cut-zero 10)
  number-zero system-price = (λ i. cond (minus b) (neg_ℤ (pos (nearest_zero 100 i))) (pos (nearest_zero 100 i))) ∙ by (minus b)
    where
      by : (m : Bool) → cond m (neg_ℤ (pos 0)) (pos 0) ≡ pos 0
      by true = refl
      by false = refl
  number-zero shadow-price = ap pos (nearest_zero 100)

  allowed-zero : (k : Kind) → (forbidden k b ≡ false) × (outside (field_range k) (pos 0) ≡ false)
  unfolding outside
  allowed-zero (share-of q) = ((λ i. not-below i || not-above i), not_is _ (nat-inside 0 q 0 (omega arith) (omega arith)))
  allowed-zero flow = (not-below, refl)
  allowed-zero system-price = (refl, refl)
  allowed-zero shadow-price = (not-below, refl)

  taken-zero : (k : Kind) → Zero k b
  unfolding fault product_of
  taken-zero k = ((λ i. (allowed-zero k).0 i || (not (float.finite (zero_is (factor k) i)) || outside (field_range k) (number-zero k i))) ∙ (allowed-zero k).1, number-zero k)

pub minus-zero : (k : Kind) → Zero k (2 ^ 63)
minus-zero k = taken-zero (2 ^ 63) (unfold units in refl) k

pub plus-zero : (k : Kind) → Zero k 0
plus-zero k = taken-zero 0 (unfold units in refl) k

-- THE SIGN of a system price is its value's: a number below zero comes from a value below zero, and one above zero
-- from a value without sign
module _ (b : ℕ) where
  abbrev size : ℕ
  size = nearest (product b 100)

  not-less : (n : ℕ) → pos n <ℤ pos 0 → ⊥
  not-less n h = never (ltb→lt n 0 h.lt)
    where
      never : n < 0 → ⊥
      never l = omega arith

  not_more : (n : ℕ) → pos 0 <ℤ neg_ℤ (pos n) → ⊥
  not_more zero h = not-less 0 h
  not_more (suc n) h = h.lt

  pub below-only : converted system-price b <ℤ pos 0 → BelowZero b
  below-only h = elim (dec_lt 0 (units b)) [ yes l ↦ (below-zero b).0 (signed l) | no g ↦ absurd (not-less 0 (subst (λ (z : ℤ). z <ℤ pos 0) (number-zero b (none g) system-price) h)) ]
    where
      none : (0 < units b → ⊥) → units b ≡ 0
      none g = omega arith

      by : (m : Bool) → minus b ≡ m → cond m (neg_ℤ (pos size)) (pos size) <ℤ pos 0 → minus b ≡ true
      by true e k = e
      by false e k = absurd (not-less size k)

      signed : 0 < units b → negative b ≡ true
      signed l = unfold negative converted product_of in (λ i. by (minus b) refl h i && lt-ltb 0 (units b) l i)

  pub above-only : pos 0 <ℤ converted system-price b → b < 2 ^ 63
  unfolding converted product_of
  above-only h = by (minus b) refl h
    where
      by : (m : Bool) → minus b ≡ m → pos 0 <ℤ cond m (neg_ℤ (pos size)) (pos size) → b < 2 ^ 63
      by true e k = absurd (not_more size k)
      by false e k = leb-false (2 ^ 63) b e
