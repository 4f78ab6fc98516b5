-- How long the texts can be, for callers that must show that there is room. Assumes nothing.
use Rattle.std.specs.Prelude.{◌≡◌, ℕ, suc, ◌+◌, ◌/◌, ◌-◌, ◌^◌, ◌<◌, ◌≤◌, length, ℤ, pos, negsuc}
use Rattle.std.proofs.Common.{subst, ◌∙◌, div-lt_iff_lt-mul, arith, length-append, pow-add, SFits}
use Rattle.std.specs.Int.{w64}
use Rattle.text_rules.specs.Meaning.Text.{count_text, size_text, amount_text}
use Rattle.text_rules.proofs.Steps.Places.{places-at-most}
use Rattle.text_rules.proofs.Promised.Value.{power-positive, last-length, count-length}

-- a count of at most k + 1 digits
pub count-at-most : (k n : ℕ) → n < 10 ^ suc k → length (count_text n) ≤ suc k
count-at-most k n h = omega (arith, count-length n, places-at-most k n h)

pub size-length : (k n : ℕ) → length (size_text k n) ≡ length (count_text (n / 10 ^ k)) + (1 + k)
unfolding size_text
size-length k n = length-append (count_text (n / 10 ^ k)) _ ∙ omega (arith, last-length k n)

-- a size with at most j + 1 digits before the point
size-at-most : (j k n : ℕ) → n < 10 ^ (suc j + k) → length (size_text k n) ≤ suc j + (1 + k)
size-at-most j k n h = omega (arith, size-length k n, count-at-most j (n / 10 ^ k) ((div-lt_iff_lt-mul (power-positive k)).1 (subst (λ (p : ℕ). n < p) (pow-add 10 (suc j) k) h)))

-- any signed 64-bit number, with at most eighteen decimals: a sign, nineteen digits, a point
size_64 : (k n : ℕ) → k ≤ 18 → n < 10 ^ 19 → length (size_text k n) ≤ 20
size_64 k n h l =
    let e : 19 ≡ suc (18 - k) + k = omega arith in
    omega (arith, size-at-most (18 - k) k n (subst (λ (j : ℕ). n < 10 ^ j) e l))

pub amount-at-most : (k : ℕ) (x : ℤ) → k ≤ 18 → SFits w64 x → length (amount_text k x) ≤ 21
unfolding amount_text
amount-at-most k (pos n) h f = omega (arith, size_64 k n h (omega (arith, f.sfits)))
amount-at-most k (negsuc n) h f = omega (arith, size_64 k (suc n) h (omega (arith, f.sfits)))
