-- A field, from the answers of the code's calls. Assumes nothing.
use Rattle.std.specs.Prelude.{◌≡◌, refl, Bool, true, false, not, ◌&&◌, ℕ, ◌≤◌, ◌<◌, T, leb, ℤ, pos, neg_ℤ, ◌-ℤ◌, Float, Some, None}
use Rattle.std.proofs.Common.{sym, ap, ◌∙◌, arith, leb-false, leb→le, lit≤, to_z, of_z, to_z-of_z}
use Rattle.std.proofs.lemmas.Bool.{lt-leb}
use Rattle.std.proofs.Math.IntN.{+ℤ_idl}
use Rattle.std.specs.Int.{w64}
use Rattle.std.specs.Float.{nan, inf, fin}
use Rattle.std.specs.Float.Ieee.{le, lt, neg}
use Rattle.base_integers.specs.Steps.Size.{near-pos, near-neg, near_fits}
use Rattle.std.specs.Float.Ieee.Scale as float
use Rattle.base_integers.specs.Meaning.Ranges.{outside}
use Rattle.base_integers.specs.Steps.Ranges.{is_true, and_right}
use Rattle.base_limits.specs.Meaning.Limits as limits
use Rattle.base_integers.specs.declared.Bits.{Bits}
use Rattle.base_measures.specs.declared.Cents.{Cents}
use Rattle.base_measures.specs.Meaning.Held.{cents_by, cents_in}
use Rattle.dump_binary64.specs.Meaning.Value.{cut, nearest}
use Rattle.dump_binary64.specs.Meaning.Answer.{whole_by, whole_below, whole_up_to}
use Rattle.dump_binary64.specs.Meaning.Machine.{zero64, times}
use Rattle.dump_binary64.proofs.Steps.Products.{Signs, times-signs}
use Rattle.dump_binary64.proofs.Steps.Whole.{word_end}
use Rattle.dump_values.specs.Meaning.Answer.{field_by}
use Rattle.dump_values.specs.Meaning.Fields.{sign_of, system_by}
use Rattle.dump_values.specs.Steps.Fields.{flow_field, shadow_field}
use Rattle.dump_values.proofs.Steps.Agree.{outside_above, system-up, system-down}

-- a number as bits of its measure
pub bits_are : {b : Bits} {n : ℕ} → b.0 ≡ n → Some b ≡ Some (record { 0 = n })
bits_are e = λ i. Some (record { 0 = e i })

-- what an answer implies
whole-held : (t : Bool) (n m : ℕ) → whole_by t n ≡ Some m → (t ≡ true) × (n ≡ m)
whole-held true n m e = (refl, cc)
whole-held false n m e = (cc, cc)

whole-outside : (t : Bool) (n : ℕ) → whole_by t n ≡ None → t ≡ false
whole-outside true n e = cc
whole-outside false n e = refl

cents-held : (z : ℤ) (t : Bool) (c : Cents) → cents_by z t ≡ Some c → t ≡ false
cents-held z true c e = cc
cents-held z false c e = refl

cents-outside : (z : ℤ) (t : Bool) → cents_by z t ≡ None → t ≡ true
cents-outside z true e = refl
cents-outside z false e = cc

-- a field of the number
held-field : (t : Bool) (m n : ℕ) (z : ℕ → ℤ) → whole_by t m ≡ Some n → field_by true (z n) ≡ field_by t (z m)
held-field t m n z e = let w = whole-held t m n e in (λ i. field_by (sym w.0 i) (z (sym w.1 i)))

outside-field : (t : Bool) (m : ℕ) (z : ℤ) → whole_by t m ≡ None → None ≡ field_by t z
outside-field t m z e = ap (λ (b : Bool). field_by b z) (sym (whole-outside t m e))

-- FLOWS
module _ (x : Float) where
  pub flow-held : (n : ℕ) → le zero64 x ≡ true → whole_below (times x 10) ≡ Some n → field_by true (pos n) ≡ flow_field x
  flow-held n z e = held-field (lt (times x 10) word_end) (cut (times x 10)) n pos e ∙ ap (λ (b : Bool). field_by (b && lt (times x 10) word_end) (pos (cut (times x 10)))) (sym z)

  pub flow-outside : le zero64 x ≡ true → whole_below (times x 10) ≡ None → None ≡ flow_field x
  flow-outside z e = outside-field (lt (times x 10) word_end) (cut (times x 10)) (pos (cut (times x 10))) e ∙ ap (λ (b : Bool). field_by (b && lt (times x 10) word_end) (pos (cut (times x 10)))) (sym z)

-- SHADOW PRICES
module _ (x : Float) where
  abbrev p : Float
  p = times x 100

  pub shadow-held : (n : ℕ) (c : Cents) → le zero64 x ≡ true → whole_up_to p 4294967295 ≡ Some n → cents_in limits.shadow_price (pos n) ≡ Some c → field_by true (pos n) ≡ shadow_field x
  shadow-held n c z e o =
      let w = whole-held (float.finite p && leb (nearest p) 4294967295) (nearest p) n e in
      let f = both (float.finite p) (leb (nearest p) 4294967295) w.0 in
      ap (λ (b : Bool). field_by (not b) (pos n)) (sym (cents-held (pos n) (outside limits.shadow_price (pos n)) c o))
      ∙ (λ i. field_by (sym z i && (sym f i && not (outside limits.shadow_price (pos (sym w.1 i))))) (pos (sym w.1 i)))
    where
      both : (a b : Bool) → a && b ≡ true → a ≡ true
      both true b e = refl
      both false b e = e

  pub shadow-outside : (n : ℕ) → whole_up_to p 4294967295 ≡ Some n → cents_in limits.shadow_price (pos n) ≡ None → None ≡ shadow_field x
  shadow-outside n e o =
      let w = whole-held (float.finite p && leb (nearest p) 4294967295) (nearest p) n e in
      ap (λ (b : Bool). field_by b (pos (nearest p)))
      (sym (ap (λ (b : Bool). le zero64 x && (float.finite p && not b)) (ap (λ (m : ℕ). outside limits.shadow_price (pos m)) w.1 ∙ cents-outside (pos n) (outside limits.shadow_price (pos n)) o) ∙ none (le zero64 x) (float.finite p)))
    where
      none : (a b : Bool) → a && (b && false) ≡ false
      none true true = refl
      none true false = refl
      none false b = refl

  pub shadow-far : whole_up_to p 4294967295 ≡ None → None ≡ shadow_field x
  shadow-far e =
      ap (λ (b : Bool). field_by b (pos (nearest p)))
      (sym (ap (λ (b : Bool). le zero64 x && b) (far (float.finite p) (nearest p) (whole-outside (float.finite p && leb (nearest p) 4294967295) (nearest p) e)) ∙ none (le zero64 x)))
    where
      none : (a : Bool) → a && false ≡ false
      none true = refl
      none false = refl

      far : (a : Bool) (n : ℕ) → a && leb n 4294967295 ≡ false → a && not (outside limits.shadow_price (pos n)) ≡ false
      far false n e = refl
      far true n e = ap not (outside_above 1000000 n) ∙ ap (λ (b : Bool). not (not b)) (lt-leb n 1000000 (past n (leb-false n 4294967295 e)))
        where
          past : (n : ℕ) → 4294967295 < n → 1000000 < n
          past n h = omega arith

-- SYSTEM PRICES, by the product
module _ (p : Float) where
  most-of : (q : Float) (most n : ℕ) → whole_up_to q most ≡ Some n → n ≤ most
  most-of q most n e =
      let w = whole-held (float.finite q && leb (nearest q) most) (nearest q) n e in
      le-by w.1 (leb→le (nearest q) most (and_right (float.finite q) (leb (nearest q) most) (is_true w.0)))
    where
      le-by : {a b c : ℕ} → a ≡ b → a ≤ c → b ≤ c
      le-by e h = omega arith

  pub up-held : (n : ℕ) → T (le zero64 p) → whole_up_to p 2147483647 ≡ Some n → field_by true (pos n) ≡ system_by p
  up-held n g e = held-field (float.finite p && leb (nearest p) 2147483647) (nearest p) n pos e ∙ sym (system-up p g)

  pub up-outside : T (le zero64 p) → whole_up_to p 2147483647 ≡ None → None ≡ system_by p
  up-outside g e = outside-field (float.finite p && leb (nearest p) 2147483647) (nearest p) (pos (nearest p)) e ∙ sym (system-up p g)

  module _ (s : Bool) (v : Signs s p) (g : le zero64 p ≡ false) where
    pub down-held : (n : ℕ) → whole_up_to (neg p) 2147483648 ≡ Some n → field_by true (neg_ℤ (pos n)) ≡ system_by p
    down-held n e = held-field (float.finite (neg p) && leb (nearest (neg p)) 2147483648) (nearest (neg p)) n (λ k. neg_ℤ (pos k)) e ∙ sym (system-down p s v g)

    pub down-outside : whole_up_to (neg p) 2147483648 ≡ None → None ≡ system_by p
    down-outside e = outside-field (float.finite (neg p) && leb (nearest (neg p)) 2147483648) (nearest (neg p)) (neg_ℤ (pos (nearest (neg p)))) e ∙ sym (system-down p s v g)

  pub down-most : (n : ℕ) → whole_up_to (neg p) 2147483648 ≡ Some n → n ≤ 2147483648
  down-most n e = most-of (neg p) 2147483648 n e

-- the sign of a price's product
pub price-signs : (x : Float) → T (float.finite x) → Signs (sign_of x) (times x 100)
price-signs nan f = absurd f
price-signs (inf s) f = absurd f
price-signs (fin s m e) f = times-signs s m e 100 (lit≤ tt)

-- A SIZE BELOW ZERO, as the code takes it
pub minus_is : (n : ℕ) (z : ℤ) → n ≤ 2147483648 → z ≡ pos n → to_z w64 (of_z w64 (pos 0 -ℤ to_z w64 (of_z w64 z))) ≡ neg_ℤ (pos n)
minus_is n z h e =
    ap (λ (y : ℤ). to_z w64 (of_z w64 (pos 0 -ℤ to_z w64 (of_z w64 y)))) e
    ∙ ap (λ (y : ℤ). to_z w64 (of_z w64 (pos 0 -ℤ y))) (to_z-of_z (near_fits w64 (omega arith) (near-pos n)))
    ∙ ap (λ (y : ℤ). to_z w64 (of_z w64 y)) (+ℤ_idl (neg_ℤ (pos n)))
    ∙ to_z-of_z (near_fits w64 (omega arith) (near-neg (near-pos n)))
