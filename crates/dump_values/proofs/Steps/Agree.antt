-- A field by the machine's value is the field by the bits: the code's tests are those of the meaning.
-- Assumes nothing.
use Rattle.std.specs.Prelude.{◌≡◌, refl, Bool, true, false, cond, ◌&&◌, ◌||◌, ℕ, zero, suc, ◌≤◌, ◌<◌, T, leb, ltb, pos, neg_ℤ, Float, None}
use Rattle.std.proofs.Math.Path.{sym, ap}
use Rattle.std.proofs.Common.{◌∙◌, subst, le_trans, arith, lt-ltb, le-ltb, le-leb, lit≤}
use Rattle.std.proofs.Math.Bool.{not}
use Rattle.std.proofs.Math.Decide.{dec_lt}
use Rattle.std.proofs.lemmas.Bool.{lt-leb}
use Rattle.std.specs.Float.Ieee.{nan, neg, le, lt, of_bits, of_int, round}
use Rattle.std.specs.Float.{inf, fin, binary64}
use Rattle.std.specs.Float.Ieee.Scale as float
use Rattle.base_integers.specs.Meaning.Ranges.{range, outside}
use Rattle.base_integers.specs.Steps.Ranges.{is_true, not_is, nat-inside}
use Rattle.base_limits.specs.Meaning.Limits as limits
use Rattle.dump_binary64.specs.Meaning.Value.{minus, finite, negative, above_one, product, cut, nearest}
use Rattle.dump_binary64.specs.Meaning.Machine.{zero64, one64, times}
use Rattle.dump_binary64.proofs.Steps.Cutting.{times-not-negative, minus-zero}
use Rattle.dump_binary64.proofs.Steps.Half.{nearest_zero}
use Rattle.dump_binary64.proofs.Steps.Patterns.{finite-value}
use Rattle.dump_binary64.proofs.Steps.Products.{Signs, product_is, product-signs, not_negative, not-above-one, plus-from-zero}
use Rattle.dump_binary64.proofs.Steps.Whole.{word_end, word_test}
use Rattle.dump_values.specs.Meaning.Field as kind
use Rattle.dump_values.specs.Meaning.Field.{Kind, product_of, converted, forbidden, field_range, fault}
use Rattle.dump_values.proofs.Promised.PlainFaults.{share-held}
use Rattle.dump_values.specs.Meaning.Answer.{field_by, field_of}
use Rattle.dump_values.specs.Meaning.Fields.{share_field, sign_of, signed_of, system_by, system_field}
use Rattle.dump_values.specs.Steps.Fields.{flow_field, shadow_field}

-- TESTS. A number without sign against a range from zero, and a number of either sign against 32 signed bits
pub outside_above : (g n : ℕ) → outside (range (pos 0) (pos g)) (pos n) ≡ not (leb n g)
outside_above g n = elim (dec_lt g n) [
  | yes l ↦ unfold outside in past g n l ∙ sym (ap not (lt-leb n g l))
  | no k ↦ not_is _ (nat-inside 0 g n (omega arith) (omega arith)) ∙ sym (ap not (le-leb n g (omega arith)))
]
  where
    past : (g n : ℕ) → g < n → ltb n 0 || ltb g n ≡ true
    past g n l = ap (λ (b : Bool). ltb n 0 || b) (lt-ltb g n l) ∙ or-true (ltb n 0)
      where
        or-true : (a : Bool) → a || true ≡ true
        or-true true = refl
        or-true false = refl

not-past : (g n : ℕ) → ltb g n ≡ not (leb n g)
not-past g n = elim (dec_lt g n) [
  | yes l ↦ lt-ltb g n l ∙ sym (ap not (lt-leb n g l))
  | no k ↦ le-ltb g n (omega arith) ∙ sym (ap not (le-leb n g (omega arith)))
]

outside-plus : (n : ℕ) → outside limits.system_price (pos n) ≡ not (leb n 2147483647)
unfolding outside
outside-plus n = not-past 2147483647 n

outside-minus : (n : ℕ) → outside limits.system_price (neg_ℤ (pos n)) ≡ not (leb n 2147483648)
unfolding outside
outside-minus zero = refl
outside-minus (suc n) = or-none (ltb 2147483647 n) ∙ not-past 2147483647 n ∙ ap not (less n)
  where
    or-none : (a : Bool) → a || false ≡ a
    or-none true = refl
    or-none false = refl

    less : (n : ℕ) → leb n 2147483647 ≡ leb (suc n) 2147483648
    less n = elim (dec_lt 2147483647 n) [
      | yes l ↦ lt-leb n 2147483647 l ∙ sym (lt-leb (suc n) 2147483648 (omega arith))
      | no k ↦ le-leb n 2147483647 (omega arith) ∙ sym (le-leb (suc n) 2147483648 (omega arith))
    ]

twice-not : (b : Bool) → not (not b) ≡ b
twice-not true = refl
twice-not false = refl

-- neither of two
neither : (a b : Bool) → not (not a || b) ≡ a && not b
neither true b = refl
neither false b = refl

-- THE FAULT: something forbidden, or else the product
module _ (k : Kind) (b : ℕ) where
  forbidden-fault : forbidden k b ≡ true → fault k b ≡ true
  unfolding fault
  forbidden-fault e = ap (λ (t : Bool). t || (not (float.finite (product_of k b)) || outside (field_range k) (converted k b))) e

  allowed-fault : forbidden k b ≡ false → not (fault k b) ≡ float.finite (product_of k b) && not (outside (field_range k) (converted k b))
  unfolding fault
  allowed-fault e = ap (λ (t : Bool). not (t || (not (float.finite (product_of k b)) || outside (field_range k) (converted k b)))) e ∙ neither (float.finite (product_of k b)) (outside (field_range k) (converted k b))

  refused : forbidden k b ≡ true → None ≡ field_of k b
  refused e = ap (λ (t : Bool). field_by (not t) (converted k b)) (sym (forbidden-fault e))

module _ (b : ℕ) (f : finite b ≡ true) where
  abbrev x : Float
  x = of_bits binary64 b

  below : negative b ≡ true → le zero64 x ≡ false
  below e = not_negative b f ∙ ap not e

  from : negative b ≡ false → le zero64 x ≡ true
  from e = not_negative b f ∙ ap not e

  -- SHARES
  module _ (q : ℕ) (h : q ≤ 100000) where
    same-part : times x q ≡ product b q
    same-part = product_is b q f (le_trans h (lit≤ tt))

    share-taken : (n : negative b ≡ false) (o : above_one b ≡ false) → field_by true (pos (cut (product b q))) ≡ field_of (kind.share-of q) b
    unfolding converted product_of
    share-taken n o = ap (λ (t : Bool). field_by (not t) (pos (cut (product b q)))) (sym (share-held q b f h n o))

    pub share-agrees : share_field x q ≡ field_of (kind.share-of q) b
    share-agrees = by (negative b) refl (above_one b) refl
      where
        by : (n : Bool) → negative b ≡ n → (o : Bool) → above_one b ≡ o → share_field x q ≡ field_of (kind.share-of q) b
        by true n o e = ap (λ (t : Bool). field_by (t && le x one64) (pos (cut (times x q)))) (below n) ∙ refused (kind.share-of q) b (ap (λ (t : Bool). t || above_one b) n)
        by false n true e =
            (λ i. field_by (from n i && (not-above-one b f n ∙ ap not e) i) (pos (cut (times x q))))
            ∙ refused (kind.share-of q) b (λ i. n i || e i)
        by false n false e = (λ i. field_by (from n i && (not-above-one b f n ∙ ap not e) i) (pos (cut (same-part i)))) ∙ share-taken n e

  -- FLOWS
  pub flow-agrees : flow_field x ≡ field_of kind.flow b
  flow-agrees = by (negative b) refl
    where
      same : times x 10 ≡ product b 10
      same = product_is b 10 f (lit≤ tt)

      tested : negative b ≡ false → lt (times x 10) word_end ≡ not (fault kind.flow b)
      tested n =
          word_test (times x 10) (times-not-negative x 10 (finite-value b f) (lit≤ tt) (is_true (from n)))
          ∙ (λ i. float.finite (same i) && leb (cut (same i)) 4294967295)
          ∙ ap (λ (t : Bool). float.finite (product b 10) && t) (sym (ap not (outside_above 4294967295 (cut (product b 10))) ∙ twice-not (leb (cut (product b 10)) 4294967295)))
          ∙ (unfold converted product_of in sym (allowed-fault kind.flow b n))

      by : (n : Bool) → negative b ≡ n → flow_field x ≡ field_of kind.flow b
      by true n = ap (λ (t : Bool). field_by (t && lt (times x 10) word_end) (pos (cut (times x 10)))) (below n) ∙ refused kind.flow b n
      by false n = (λ i. field_by (from n i && tested n i) (pos (cut (same i)))) ∙ (unfold converted product_of in refl)

  -- SHADOW PRICES
  pub shadow-agrees : shadow_field x ≡ field_of kind.shadow-price b
  shadow-agrees = by (negative b) refl
    where
      same : times x 100 ≡ product b 100
      same = product_is b 100 f (lit≤ tt)

      by : (n : Bool) → negative b ≡ n → shadow_field x ≡ field_of kind.shadow-price b
      by true n = ap (λ (t : Bool). field_by (t && (float.finite (times x 100) && not (outside limits.shadow_price (pos (nearest (times x 100)))))) (pos (nearest (times x 100)))) (below n) ∙ refused kind.shadow-price b n
      by false n =
          (λ i. field_by (from n i && (float.finite (same i) && not (outside limits.shadow_price (pos (nearest (same i)))))) (pos (nearest (same i))))
          ∙ (unfold converted product_of in ap (λ (t : Bool). field_by t (converted kind.shadow-price b)) (sym (allowed-fault kind.shadow-price b n)))

  -- SYSTEM PRICES
  pub system-agrees : system_field x ≡ field_of kind.system-price b
  system-agrees =
      ap system_by (product_is b 100 f (lit≤ tt))
      ∙ (λ i. field_by (float.finite (product b 100) && not (outside limits.system_price (signed i))) (signed i))
      ∙ (unfold converted product_of in ap (λ (t : Bool). field_by t (converted kind.system-price b)) (sym (allowed-fault kind.system-price b refl)))
    where
      sign-is : (s : Bool) (p : Float) → Signs s p → sign_of p ≡ s
      sign-is s nan v = absurd v
      sign-is s (inf t) v = v
      sign-is s (fin t m e) v = v

      signed : signed_of (product b 100) ≡ cond (minus b) (neg_ℤ (pos (nearest (product b 100)))) (pos (nearest (product b 100)))
      signed = ap (λ (t : Bool). cond t (neg_ℤ (pos (nearest (product b 100)))) (pos (nearest (product b 100)))) (sign-is (minus b) (product b 100) (product-signs b 100))

-- A SYSTEM PRICE, for a product on either side of zero
pub system-up : (p : Float) → T (le zero64 p) → system_by p ≡ field_by (float.finite p && leb (nearest p) 2147483647) (pos (nearest p))
system-up nan g = refl
system-up (inf s) g = refl
system-up (fin false m e) g = ap (λ (t : Bool). field_by t (pos (nearest (fin false m e)))) (ap not (outside-plus (nearest (fin false m e))) ∙ twice-not (leb (nearest (fin false m e)) 2147483647))
system-up (fin true m e) g =
    let z : nearest (fin true m e) ≡ 0 = nearest_zero true m e (minus-zero m e g) in
    (λ i. field_by (not (outside limits.system_price (neg_ℤ (pos (z i))))) (neg_ℤ (pos (z i))))
    ∙ ap (λ (t : Bool). field_by (not t) (pos 0)) (outside-plus 0)
    ∙ sym (λ i. field_by (leb (z i) 2147483647) (pos (z i)))

pub system-down : (p : Float) (s : Bool) → Signs s p → le zero64 p ≡ false
    → system_by p ≡ field_by (float.finite (neg p) && leb (nearest (neg p)) 2147483648) (neg_ℤ (pos (nearest (neg p))))
unfolding neg
system-down nan s v g = absurd v
system-down (inf t) s v g = refl
system-down (fin false m e) s v g = absurd (subst T g (plus-from-zero m e))
system-down (fin true m e) s v g =
    ap (λ (t : Bool). field_by t (neg_ℤ (pos (nearest (fin true m e))))) (ap not (outside-minus (nearest (fin true m e))) ∙ twice-not (leb (nearest (fin true m e)) 2147483648))
    ∙ (unfold nearest in refl)

-- the other side
pub down-from-zero : (p : Float) (s : Bool) → Signs s p → le zero64 p ≡ false → T (le zero64 (neg p))
unfolding neg le
down-from-zero nan s v g = absurd v
down-from-zero (inf true) s v g = tt
down-from-zero (inf false) s v g = absurd (subst T g tt)
down-from-zero (fin false m e) s v g = absurd (subst T g (plus-from-zero m e))
down-from-zero (fin true m e) s v g = plus-from-zero m e

-- the code's factors by their bits
pub ten-bits : of_bits binary64 0x4024_0000_0000_0000 ≡ of_int binary64 (pos 10)
unfolding of_bits of_int round
ten-bits = refl

pub hundred-bits : of_bits binary64 0x4059_0000_0000_0000 ≡ of_int binary64 (pos 100)
unfolding of_bits of_int round
hundred-bits = refl
