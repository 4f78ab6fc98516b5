-- Two's complement in 64 bits: the highest bit says whether the number is below zero, and how far from zero it then
-- is. Assumes nothing.
use Rattle.std.specs.Prelude.{◌≡◌, refl, Bool, true, false, ℕ, suc, ◌+◌, ◌-◌, ◌^◌, ◌<◌, ◌≤◌, T, ltb, ℤ, pos, negsuc, nat_abs}
use Rattle.std.proofs.Common.{sym, ap, subst, ◌∙◌, add-one, arith, ltb-true, lt-ltb, le-ltb, to_z-of_z}
use Rattle.std.proofs.Math.Decide.{dec_lt}
use Rattle.std.specs.Int.Signed.{lt_z}
use Rattle.std.specs.Int.{w64}
use mir.Val.{sel, SFits, to_z, of_z}
use Rattle.std.proofs.Math.Facts.{to_z_pos, to_z-neg}
use Rattle.text_rules.specs.Meaning.Text.{amount_text}

below : (n : ℕ) → 9223372036854775807 < n → n < 18446744073709551616 → to_z w64 n ≡ negsuc (18446744073709551615 - n)
below n h l = ap (λ (m : ℕ). to_z w64 m) back ∙ to_z-neg w64 (18446744073709551615 - n) (omega arith)
  where
    back : n ≡ 18446744073709551616 - suc (18446744073709551615 - n)
    back = omega arith

above : (n : ℕ) → n ≤ 9223372036854775807 → to_z w64 n ≡ pos n
above n h = to_z_pos w64 {n = n} (omega arith)

pub sign : (n : ℕ) → n < 18446744073709551616 → ltb 9223372036854775807 n ≡ lt_z (to_z w64 n) (pos 0)
sign n l = elim (dec_lt 9223372036854775807 n) [
  | yes h ↦ lt-ltb 9223372036854775807 n h ∙ ap (λ (z : ℤ). lt_z z (pos 0)) (sym (below n h l))
  | no g ↦ le-ltb 9223372036854775807 n (omega arith) ∙ sym (le-ltb n 0 (omega arith)) ∙ ap (λ (z : ℤ). lt_z z (pos 0)) (sym (above n (omega arith)))
]

pub high_bit : (n : ℕ) → n < 18446744073709551616 → lt_z (to_z w64 n) (pos 0) ≡ true → 9223372036854775807 < n
high_bit n l e = ltb-true 9223372036854775807 n (sign n l ∙ e)

-- how far from zero, by the sign
pub size_below : (n : ℕ) → n < 18446744073709551616 → lt_z (to_z w64 n) (pos 0) ≡ true → 18446744073709551615 - n + 1 ≡ nat_abs (to_z w64 n)
size_below n l e = add-one (18446744073709551615 - n) ∙ ap nat_abs (sym (below n (high_bit n l e) l))

pub size_above : (n : ℕ) → lt_z (to_z w64 n) (pos 0) ≡ false → n ≡ nat_abs (to_z w64 n)
size_above n e = by (ltb n (2 ^ 63)) e
  where
    by : (b : Bool) → lt_z (sel b (pos n) (negsuc (2 ^ 64 - suc n))) (pos 0) ≡ false → n ≡ nat_abs (sel b (pos n) (negsuc (2 ^ 64 - suc n)))
    by true e = refl
    by false e = absurd (subst T e tt)

-- an amount's text, from the bits that are printed
pub bits-text : (decimals : ℕ) {b : ℕ} {z : ℤ} → SFits w64 z → b ≡ of_z w64 z → amount_text decimals (to_z w64 b) ≡ amount_text decimals z
bits-text decimals {b} {z} f e = ap (λ (n : ℕ). amount_text decimals (to_z w64 n)) e ∙ ap (λ (x : ℤ). amount_text decimals x) (to_z-of_z {w = w64} {z = z} f)
