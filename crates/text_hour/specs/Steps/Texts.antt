-- The price lines zone by zone. Assumes nothing.
use Rattle.std.specs.Prelude.{◌≡◌, refl, ◌++◌, ℕ, zero, suc, ◌+◌, ◌≤◌, ◌<◌, length, ℤ}
use Rattle.std.proofs.Common.{sym, ap, add-one, arith, length-append}
use Rattle.std.proofs.Math.Decide.{dec_lt}
use Rattle.rules.specs.Meaning.Lines.{price_line, price_lines}

-- one zone more
pub prices-more : (z : ℕ) (price : ℕ → ℤ) → price_lines z price ++ price_line z (price z) ≡ price_lines (z + 1) price
unfolding price_lines
prices-more z price = ap (λ (n : ℕ). price_lines n price) (sym (add-one z))

-- a zone's line has room where all have
pub prices-within : (z n : ℕ) (price : ℕ → ℤ) → z < n → length (price_lines z price) + length (price_line z (price z)) ≤ length (price_lines n price)
unfolding price_lines
prices-within z zero price h = absurd (omega arith)
prices-within z (suc n) price h = elim (dec_lt z n) [
  | yes l ↦ omega (arith, prices-within z n price l, length-append (price_lines n price) (price_line n (price n)))
  | no g ↦ last (omega arith)
]
  where
    last : z ≡ n → length (price_lines z price) + length (price_line z (price z)) ≤ length (price_lines n price ++ price_line n (price n))
    last e = omega (arith, length-append (price_lines n price) (price_line n (price n)), ap (λ (k : ℕ). length (price_lines k price)) e, ap (λ (k : ℕ). length (price_line k (price k))) e)

-- the same prices below n give the same lines
pub prices-same : (n : ℕ) (a b : ℕ → ℤ) → ((z : ℕ) → z < n → a z ≡ b z) → price_lines n a ≡ price_lines n b
unfolding price_lines
prices-same zero a b h = refl
prices-same (suc n) a b h = λ i. prices-same n a b (λ z l. h z (omega arith)) i ++ price_line n (h n (omega arith) i)
