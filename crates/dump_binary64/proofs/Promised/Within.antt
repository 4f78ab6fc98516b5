-- A SHARE'S PRODUCT, rounded once and cut to a whole number, is never above the whole, and differs from the exact
-- product, the fraction units b * q / 2 ^ 1074, by less than one. Assumes nothing.
use Rattle.std.specs.Prelude.{◌≡◌, ℕ, ◌+◌, ◌*◌, ◌^◌, ◌<◌, ◌≤◌, Bool, true, false, not, T, from_bits, Float}
use Rattle.std.proofs.Common.{sym, ap, ◌∙◌, subst, le_of_lt, mul_comm, mul_right_comm, add-mul, lt_of_mul-lt-mul_right, mul-lt-mul_of_pos_right, pow_pos}
use Rattle.std.specs.Float.{nan, inf, fin, binary64}
use Rattle.std.specs.Float.Ieee.{le}
use Rattle.std.specs.Float.Ieee.Exact.{HasValue}
use Rattle.std.specs.Float.Ieee.Positive.{num, den, den_pos}
use Rattle.std.specs.Float.Ieee.Scale as float
use Rattle.base_integers.specs.Steps.Ranges.{is_true}
use Rattle.dump_binary64.specs.Meaning.Value.{minus, finite, units, negative, above_one, product, cut, ShareWithin}
use Rattle.dump_binary64.specs.Meaning.Machine.{zero64, one64, times}
use Rattle.dump_binary64.proofs.Steps.Cutting.{Part, share_part, share-of, share-in-range}
use Rattle.dump_binary64.proofs.Steps.Patterns.{bits-value}
use Rattle.dump_binary64.proofs.Steps.Products.{product_is, not_negative, not-above-one}
use Rattle.dump_binary64.proofs.Steps.Whole.{ranged-finite}

value-cross : (x : Float) (s : Bool) (a c : ℕ) → HasValue x s a c → num x * c ≡ a * den x
value-cross nan s a c h = absurd h
value-cross (inf t) s a c h = absurd h
value-cross (fin t m e) s a c h = h.1

scaled-over : (r n d a k q : ℕ) → 0 < d → 0 < k → n * k ≡ a * d → r * d < n * q + d → r * k < a * q + k
scaled-over r n d a k q D K e h =
    lt_of_mul-lt-mul_right d
    (subst (λ (x : ℕ). x < (a * q + k) * d) (mul_right_comm r d k)
    (subst (λ (x : ℕ). r * d * k < x) (turned n d a k q e) (mul-lt-mul_of_pos_right h K)))
  where
    turned : (n d a k q : ℕ) → n * k ≡ a * d → (n * q + d) * k ≡ (a * q + k) * d
    turned n d a k q e =
        add-mul (n * q) d k
        ∙ ap (λ (x : ℕ). x + d * k) (mul_right_comm n q k ∙ ap (λ (x : ℕ). x * q) e ∙ mul_right_comm a d q)
        ∙ ap (λ (x : ℕ). a * q * d + x) (mul_comm d k)
        ∙ sym (add-mul (a * q) k d)

scaled_under : (r n d a k q : ℕ) → 0 < d → 0 < k → n * k ≡ a * d → n * q < r * d + d → a * q < r * k + k
scaled_under r n d a k q D K e h =
    lt_of_mul-lt-mul_right d
    (subst (λ (x : ℕ). x < (r * k + k) * d) (mul_right_comm n q k ∙ ap (λ (x : ℕ). x * q) e ∙ mul_right_comm a d q)
    (subst (λ (x : ℕ). n * q * k < x) (turned r d k) (mul-lt-mul_of_pos_right h K)))
  where
    turned : (r d k : ℕ) → (r * d + d) * k ≡ (r * k + k) * d
    turned r d k = add-mul (r * d) d k ∙ ap (λ (x : ℕ). x + d * k) (mul_right_comm r d k) ∙ ap (λ (x : ℕ). r * k * d + x) (mul_comm d k) ∙ sym (add-mul (r * k) k d)

share-unit : (b : ℕ) → finite b ≡ true → negative b ≡ false → above_one b ≡ false → T (le zero64 (from_bits binary64 b)) × T (le (from_bits binary64 b) one64)
share-unit b f n o = (is_true (not_negative b f ∙ ap not n), is_true (not-above-one b f n ∙ ap not o))

-- the product is finite
pub share-finite : (b q : ℕ) → finite b ≡ true → negative b ≡ false → above_one b ≡ false → q ≤ 2 ^ 53 → float.finite (product b q) ≡ true
share-finite b q f n o l =
    let u = share-unit b f n o in
    ap float.finite (sym (product_is b q f l)) ∙ ranged-finite (times (from_bits binary64 b) q) (share-in-range (from_bits binary64 b) q (share-of (from_bits binary64 b) u.0 u.1) l)

pub share-within : (b q : ℕ) → finite b ≡ true → negative b ≡ false → above_one b ≡ false → q < 2 ^ 53 → ShareWithin b q (cut (product b q))
share-within b q f n o l =
    let x = from_bits binary64 b in
    let u = share-unit b f n o in
    let e : num x * 2 ^ 1074 ≡ units b * den x = value-cross x (minus b) (units b) (2 ^ 1074) (bits-value b f) in
    let p : Part x q (cut (product b q)) = subst (λ (z : Float). Part x q (cut z)) (product_is b q f (le_of_lt l)) (share_part x q u.0 u.1 l) in
    record {
      most = p.most;
      over = scaled-over (cut (product b q)) (num x) (den x) (units b) (2 ^ 1074) q (den_pos x) (pow_pos 1074) e p.over;
      under = scaled_under (cut (product b q)) (num x) (den x) (units b) (2 ^ 1074) q (den_pos x) (pow_pos 1074) e p.under;
    }
