-- Integers in the machine: sums that a loop adds up in 64 bits, and 32 bits read as two's complement.
-- A loop over `f 0, f 1, ..` with the invariant `total ≡ sum_to i f` answers its needs so, from `fit : SumsFit f n`:
--
--     term-requires c κs = fit.term i taken                        -- the term of this turn fits
--     plus-requires c κs = step_fits fit i taken inv term           -- the sum of this turn fits
--     loop-again c       = (omega arith, step fit i inv term sum)    -- and is `sum_to (i + 1) f`
--
-- `fit` comes from `small-sums`: each term is within b of zero, and n * b is below 2 ^ 63. Assumes nothing.
use Rattle.std.specs.Prelude.{◌≡◌, refl, ℕ, suc, ◌+◌, ◌*◌, ◌-◌, ◌<◌, ◌≤◌, ℤ, pos, negsuc, ◌+ℤ◌, ◌-ℤ◌}
use Rattle.std.proofs.Common.{sym, ap, subst, ◌∙◌, mul-le-mul_right, arith, SFits, to_z}
use Rattle.std.specs.Int.{Width, w32, w64}
use Rattle.std.proofs.Math.Facts.{to_z_pos, to_z-neg}
use Rattle.base_integers.specs.Steps.Difference.{at, ◌⊖◌, eq-by}
use Rattle.base_integers.specs.Meaning.Sums.{sum_to}
use Rattle.base_integers.specs.Steps.Sums.{sum_more, sum-ext}
use Rattle.base_integers.specs.Steps.Size.{Near, near-sum, near_fits}
use Rattle.base_integers.specs.Meaning.Machine.{SumsFit}

-- a number equal to one that fits fits
pub sfits-by : (w : Width) {x y : ℤ} → x ≡ y → SFits w y → SFits w x
sfits-by w e f = subst (SFits w) (sym e) f

pub small-sums : (f : ℕ → ℤ) (b n : ℕ) → ((k : ℕ) → k < n → Near b (f k)) → n * b < 9223372036854775808 → SumsFit f n
small-sums f b n each room = record {
  term = λ i h. near_fits w64 (omega (arith, mul-le-mul_right {m = 1} {n = n} b (omega arith))) (each i h);
  fits = λ i h. near_fits w64 (omega (arith, mul-le-mul_right b h)) (near-sum i b f (λ k l. each k (omega arith)));
}

-- sums of equal terms fit alike
pub fit-ext : (f g : ℕ → ℤ) (n : ℕ) → ((i : ℕ) → i < n → g i ≡ f i) → SumsFit f n → SumsFit g n
fit-ext f g n e h = record {
  term = λ i l. sfits-by w64 (e i l) (h.term i l);
  fits = λ i l. sfits-by w64 (sum-ext i g f (λ j m. e j (omega arith))) (h.fits i l);
}

-- a turn: x is the sum so far, t the machine's term
module _ {f : ℕ → ℤ} {n : ℕ} (fit : SumsFit f n) (i : ℕ) where
  pub step : {x t r : ℤ} → x ≡ sum_to i f → t ≡ f i → r ≡ x +ℤ t → r ≡ sum_to (i + 1) f
  step e d q = q ∙ (λ j. e j +ℤ d j) ∙ sym (sum_more i f)

  pub step_fits : i < n → {x t : ℤ} → x ≡ sum_to i f → t ≡ f i → SFits w64 (x +ℤ t)
  step_fits h e d = sfits-by w64 (step e d refl) (fit.fits (i + 1) (omega arith))

-- the upper half of 32 bits, as a wider number less 2 ^ 32
pub twos : (v : ℕ) → 2147483648 ≤ v → v < 4294967296 → to_z w64 v -ℤ pos 4294967296 ≡ to_z w32 v
twos v h k =
    ap (λ (z : ℤ). z -ℤ pos 4294967296) (to_z_pos w64 {n = v} (omega arith))
    ∙ eq-by (at (pos v) ⊖ at (pos 4294967296)) (at (negsuc (4294967296 - suc v))) (omega arith)
    ∙ sym (to_z-neg w32 (4294967296 - suc v) (omega arith)) ∙ ap (to_z w32) back
  where
    back : 4294967296 - suc (4294967296 - suc v) ≡ v
    back = omega arith
