-- How far an integer is from zero: `Near k z` is -k ≤ z ≤ k, in a form that `omega` reads. Sums, products, sums by
-- key; such a number fits a signed width. Assumes nothing.
use Rattle.std.specs.Prelude.{◌≡◌, Bool, true, false, not, cond, T, eqb, ltb, ℕ, zero, suc, ◌+◌, ◌*◌, ◌-◌, ◌^◌, ◌≤◌, ◌<◌, ℤ, pos, negsuc, neg_ℤ, ◌+ℤ◌, ◌-ℤ◌, ◌*ℤ◌}
use Rattle.std.proofs.Common.{sym, ◌∙◌, ltb→lt, nltb→le, mul-le-mul, arith}
use Rattle.std.proofs.Math.Decide.{dec_lt}
use Rattle.std.specs.Int.Signed.{mag, lt_z}
use Rattle.std.specs.Int.{Width, w32}
use mir.Val.{SFits, hbits, to_z, sel}
use Rattle.base_integers.specs.Meaning.Difference.{up, dn}
use Rattle.base_integers.specs.Steps.Difference.{at, ◌⊖◌, le-fact, add-fact, neg-fact, mul-fact}
use Rattle.base_integers.specs.Meaning.Sums.{sum_to, only}
use Rattle.base_integers.specs.Steps.Sums.{sum-ext, sum-scale, sum-swap, sum-only, sum-none}
use Rattle.base_integers.specs.Meaning.Order.{larger, positive}
use Rattle.base_integers.specs.Meaning.Ranges.{Range, Within}

pub record Near (k : ℕ) (z : ℤ) : Type 0 where
  pub hi : up z ≤ k + dn z
  pub lo : dn z ≤ k + up z

pub near_le : {j k : ℕ} {z : ℤ} → j ≤ k → Near j z → Near k z
near_le h n = omega arith

pub near-pos : (n : ℕ) → Near n (pos n)
near-pos n = omega arith

pub near_add : {j k : ℕ} {x y : ℤ} → Near j x → Near k y → Near (j + k) (x +ℤ y)
near_add {x = x} {y = y} a b = omega (arith, add-fact x y)

pub near-neg : {k : ℕ} {x : ℤ} → Near k x → Near k (neg_ℤ x)
near-neg {x = x} a = omega (arith, neg-fact x)

pub near_sub : {j k : ℕ} {x y : ℤ} → Near j x → Near k y → Near (j + k) (x -ℤ y)
near_sub a b = near_add a (near-neg b)

prod : (a b c d : ℕ) → a ≤ c → b ≤ d → a * b ≤ c * d
prod a b c d h l = mul-le-mul h l

pub near_mul : {j k : ℕ} {x y : ℤ} → Near j x → Near k y → Near (j * k) (x *ℤ y)
near_mul {j} {k} {x} {y} a b = go x y a b
  where
    go : (x y : ℤ) → Near j x → Near k y → Near (j * k) (x *ℤ y)
    go (pos m) (pos n) a b = omega (arith, prod m n j k (omega arith) (omega arith))
    go (pos m) (negsuc n) a b = omega (arith, mul-fact (pos m) (negsuc n), prod m (suc n) j k (omega arith) (omega arith))
    go (negsuc m) (pos n) a b = omega (arith, mul-fact (negsuc m) (pos n), prod (suc m) n j k (omega arith) (omega arith))
    go (negsuc m) (negsuc n) a b = omega (arith, prod (suc m) (suc n) j k (omega arith) (omega arith))

pub near-sum : (n k : ℕ) (f : ℕ → ℤ) → ((i : ℕ) → i < n → Near k (f i)) → Near (n * k) (sum_to n f)
unfolding sum_to
near-sum zero k f h = omega arith
near-sum (suc n) k f h = near_le (omega arith) (near_add (near-sum n k f (λ i l. h i (omega arith))) (h n (omega arith)))

near-mag : (z : ℤ) (k : ℕ) → Near k z → mag z ≤ k
near-mag (pos n) k a = omega arith
near-mag (negsuc n) k a = omega arith

pub near_fits : (w : Width) {k : ℕ} {z : ℤ} → k < 2 ^ hbits w → Near k z → SFits w z
near_fits w {k} {z} h a = record { sfits = omega (arith, near-mag z k a) }

-- a number within a range whose ends are within k of zero
pub near_within : (k : ℕ) (r : Range) (x : ℤ) → Near k r.least → Near k r.greatest → Within r x → Near k x
near_within k r x a b w = omega (arith, le-fact (at r.least) (at x) w.least-le, le-fact (at x) (at r.greatest) w.le-greatest)

-- amounts added up by key and weighed key by key: the first m keys, even if there are more, are no farther from
-- zero than the amounts weighed one by one
pub near-gathered : (n m k : ℕ) (key : ℕ → ℕ) (x w : ℕ → ℤ) → ((i : ℕ) → i < n → key i < m → Near k (x i *ℤ w (key i)))
    → Near (n * k) (sum_to m (λ z. sum_to n (λ i. only (eqb (key i) z) (x i)) *ℤ w z))
near-gathered n m k key x w h = rw swapped (near-sum n k _ each)
  where
    swapped : sum_to m (λ z. sum_to n (λ i. only (eqb (key i) z) (x i)) *ℤ w z) ≡ sum_to n (λ i. sum_to m (λ z. only (eqb (key i) z) (x i) *ℤ w z))
    swapped = sum-ext m _ _ (λ z l. sym (sum-scale n (λ i. only (eqb (key i) z) (x i)) (w z))) ∙ sum-swap m n (λ z i. only (eqb (key i) z) (x i) *ℤ w z)

    each : (i : ℕ) → i < n → Near k (sum_to m (λ z. only (eqb (key i) z) (x i) *ℤ w z))
    each i l = elim (dec_lt (key i) m) [
      | yes b ↦ rw (sum-only m (key i) (x i) w b) (h i l b)
      | no g ↦ rw (sum-none m (key i) (x i) w (omega arith)) (near_le (omega arith) (near-pos 0))
    ]

-- two numbers of one range are no farther apart than its ends
pub apart : (k : ℕ) (r : Range) (x y : ℤ) → Near k (r.greatest -ℤ r.least) → Within r x → Within r y → Near k (x -ℤ y)
apart k r x y n h l = omega (
  arith,
  (at x ⊖ at y).is,
  (at r.greatest ⊖ at r.least).is,
  le-fact (at r.least) (at x) h.least-le,
  le-fact (at x) (at r.greatest) h.le-greatest,
  le-fact (at r.least) (at y) l.least-le,
  le-fact (at y) (at r.greatest) l.le-greatest,
)

near-cond : (b : Bool) (k : ℕ) (x y : ℤ) → Near k x → Near k y → Near k (cond b x y)
near-cond true k x y h l = h
near-cond false k x y h l = l

pub near-larger : (k : ℕ) (x y : ℤ) → Near k x → Near k y → Near k (larger x y)
near-larger k x y h l = near-cond (lt_z x y) k y x l h

pub near-positive : (k : ℕ) (x : ℤ) → Near k x → Near k (positive x)
near-positive k x h = near-larger k (pos 0) x (near_le (omega arith) (near-pos 0)) h

pub near-only : (b : Bool) (k : ℕ) (x : ℤ) → Near k x → Near k (only b x)
near-only true k x h = h
near-only false k x h = near_le (omega arith) (near-pos 0)

pub near-unsigned : (n k : ℕ) → n ≤ k → Near k (pos n)
near-unsigned n k h = near_le h (near-pos n)

-- any 32 bits read as a signed number
pub near-32 : (v : ℕ) → Near 2147483648 (to_z w32 v)
near-32 v = by (ltb v 2147483648) (ltb→lt v 2147483648) (nltb→le v 2147483648)
  where
    by : (t : Bool) → (T t → v < 2147483648) → (T (not t) → 2147483648 ≤ v) → Near 2147483648 (sel t (pos v) (negsuc (4294967296 - suc v)))
    by true f g = omega (arith, f tt)
    by false f g = omega (arith, g tt)
