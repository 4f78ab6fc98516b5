-- A load at a price, in two numbers: the products with its whole tenths and with its rest fit 64 bits, and together
-- they are the product. Over plain numbers: l the load, a the price. Assumes nothing.
use Rattle.std.specs.Prelude.{◌≡◌, ℕ, ◌+◌, ◌*◌, ◌/◌, ◌%◌, ◌≤◌, ◌<◌, ◌^◌, T, ℤ, pos, negsuc, nat_abs, ◌*ℤ◌, ◌≤ℤ◌}
use Rattle.std.proofs.Common.{ap, mul-le-mul, arith, SFits, Fits, to_z, of_z, to_z-of_z}
use Rattle.std.specs.Int.Signed.{non_neg}
use Rattle.std.specs.Int.{w64}
use Rattle.std.proofs.Math.Facts.{Fits-nat_abs}
use Rattle.base_integers.specs.Steps.Difference.{at, le-fact}
use Rattle.base_limits.specs.Meaning.Exact.{exactly, Costs}

module _ (l a : ℕ) (price-small : a ≤ 100000000000) (small : l * a ≤ 900000000000000000000000) where
  abbrev tenths : ℕ
  tenths = l / 100000

  abbrev left : ℕ
  left = l % 100000

  whole_is : l * a ≡ tenths * a * 100000 + left * a
  whole_is = let e : l ≡ tenths * 100000 + left = omega arith in omega (arith, ap (λ (k : ℕ). k * a) e)

  left-small : left * a ≤ 9999900000000000
  left-small = let h : left ≤ 99999 = omega arith in mul-le-mul h price-small

  pub left-fits : left * a < 2 ^ 64
  left-fits = omega (arith, left-small)

  pub tenths-fit : tenths * a < 2 ^ 64
  tenths-fit = omega (arith, whole_is)

  pub whole-fits : tenths * a + left * a / 100000 < 2 ^ 64
  whole-fits = omega (arith, whole_is, left-small)

  pub cost-is : exactly (tenths * a) (left * a) ≡ l * a
  cost-is = omega (arith, whole_is)

-- a number from zero on, as the machine reads it back and casts it
abbrev pub read : ℤ → ℕ
read z = nat_abs (to_z w64 (of_z w64 z))

pub cast_fits : (z : ℤ) → SFits w64 z → pos 0 ≤ℤ z → T (non_neg (to_z w64 (of_z w64 z))) × Fits w64 (read z)
cast_fits z f h = rw (to_z-of_z f) (above z h, Fits-nat_abs tt f)
  where
    above : (z : ℤ) → pos 0 ≤ℤ z → T (non_neg z)
    above (pos n) h = tt
    above (negsuc n) h = absurd h.le

pub read_is : (z : ℤ) → SFits w64 z → pos 0 ≤ℤ z → pos (read z) ≡ z
read_is z f h = rw (to_z-of_z f) (back z h)
  where
    back : (z : ℤ) → pos 0 ≤ℤ z → pos (nat_abs z) ≡ z
    back (pos n) h = ap pos (omega arith)
    back (negsuc n) h = absurd h.le

-- the same bounds for the numbers read
module _ (load price : ℤ) (f : SFits w64 load) (g : SFits w64 price) (c : Costs load price) where
  pub price-read : read price ≤ 100000000000
  price-read = omega (arith, le-fact (at (pos (read price))) (at (pos 100000000000)) (rw (read_is price g c.price-in) c.price-small))

  pub product_is : pos (read load * read price) ≡ load *ℤ price
  product_is = λ i. read_is load f c.load-in i *ℤ read_is price g c.price-in i

  pub product-read : read load * read price ≤ 900000000000000000000000
  product-read = omega (arith, le-fact (at (pos (read load * read price))) (at (pos 900000000000000000000000)) (rw product_is c.small))
