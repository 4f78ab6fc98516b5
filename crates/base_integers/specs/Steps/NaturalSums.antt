-- Sums of naturals over the indices below a count. Where all terms are naturals, `omega` need not read integers as
-- differences. `gather` turns sums by key into one sum over the entries, `sum-parts` an integer sum into the sums
-- of its positive and negative terms. Assumes nothing.
use Rattle.std.specs.Prelude.{◌≡◌, refl, Bool, true, false, ℕ, zero, suc, ◌+◌, ◌*◌, ◌-◌, ◌≤◌, ◌<◌, eqb, ℤ}
use Rattle.std.proofs.Common.{sym, ap, ◌∙◌, arith, add-one, eq-eqb, ne_eqb}
use Rattle.std.proofs.Math.Decide.{dec_lt}
use Rattle.base_integers.specs.Meaning.Difference.{up, dn}
use Rattle.base_integers.specs.Steps.Difference.{add-fact}
use Rattle.base_integers.specs.Meaning.Sums.{sum_to}
use Rattle.base_integers.specs.Meaning.NaturalSums.{sum_nat, only}

-- a turn of a loop, whose counter is `n + 1` and not `suc n`
pub sum_more : (n : ℕ) (f : ℕ → ℕ) → sum_nat (n + 1) f ≡ sum_nat n f + f n
unfolding sum_nat
sum_more n f = rw (add-one n)

pub sum-ext : (n : ℕ) (f g : ℕ → ℕ) → ((i : ℕ) → i < n → f i ≡ g i) → sum_nat n f ≡ sum_nat n g
unfolding sum_nat
sum-ext zero f g h = refl
sum-ext (suc n) f g h = cc (sum-ext n f g (λ i l. h i (omega arith)), h n (omega arith))

pub sum-le : (n : ℕ) (f g : ℕ → ℕ) → ((i : ℕ) → i < n → f i ≤ g i) → sum_nat n f ≤ sum_nat n g
unfolding sum_nat
sum-le zero f g h = omega arith
sum-le (suc n) f g h = omega (arith, sum-le n f g (λ i l. h i (omega arith)), h n (omega arith))

pub sum-zero : (n : ℕ) → sum_nat n (λ i. 0) ≡ 0
unfolding sum_nat
sum-zero zero = refl
sum-zero (suc n) = omega (arith, sum-zero n)

pub sum-add : (n : ℕ) (f g : ℕ → ℕ) → sum_nat n (λ i. f i + g i) ≡ sum_nat n f + sum_nat n g
unfolding sum_nat
sum-add zero f g = refl
sum-add (suc n) f g = omega (arith, sum-add n f g)

pub sum-scale : (n d : ℕ) (f : ℕ → ℕ) → sum_nat n (λ i. d * f i) ≡ d * sum_nat n f
unfolding sum_nat
sum-scale zero d f = omega arith
sum-scale (suc n) d f = omega (arith, sum-scale n d f)

pub sum-swap : (n m : ℕ) (f : ℕ → ℕ → ℕ) → sum_nat n (λ i. sum_nat m (λ j. f i j)) ≡ sum_nat m (λ j. sum_nat n (λ i. f i j))
unfolding sum_nat
sum-swap zero m f = sym (sum-zero m)
sum-swap (suc n) m f = ap (λ (z : ℕ). z + sum_nat m (λ j. f n j)) (sum-swap n m f)
    ∙ sym (sum-add m (λ j. sum_nat n (λ i. f i j)) (λ j. f n j))

-- FLAGS
pub only-add : (b : Bool) (x y : ℕ) → only b (x + y) ≡ only b x + only b y
only-add true x y = refl
only-add false x y = refl

pub only-le : (b : Bool) (x : ℕ) → only b x ≤ x
only-le true x = omega arith
only-le false x = omega arith

pub only-mono : (b : Bool) (x y : ℕ) → x ≤ y → only b x ≤ only b y
only-mono true x y h = h
only-mono false x y h = omega arith

pub only_zero : (b : Bool) → ◌≡◌ {A = ℕ} (only b 0) 0
only_zero true = refl
only_zero false = refl

pub only-scale : (b : Bool) (d x : ℕ) → only b (d * x) ≡ d * only b x
only-scale true d x = refl
only-scale false d x = omega arith

only-both : (a b : Bool) (x : ℕ) → only a (only b x) ≡ only b (only a x)
only-both true b x = refl
only-both false true x = refl
only-both false false x = refl

-- a flag on a sum is a flag on each term
pub only_sum : (b : Bool) (n : ℕ) (f : ℕ → ℕ) → only b (sum_nat n f) ≡ sum_nat n (λ i. only b (f i))
only_sum true n f = refl
only_sum false n f = sym (sum-zero n)

-- BOUNDS
pub sum_bound : (n k : ℕ) (f : ℕ → ℕ) → ((i : ℕ) → i < n → f i ≤ k) → sum_nat n f ≤ n * k
unfolding sum_nat
sum_bound zero k f h = omega arith
sum_bound (suc n) k f h = omega (arith, sum_bound n k f (λ i l. h i (omega arith)), h n (omega arith))

pub one-le-sum : (n k : ℕ) (f : ℕ → ℕ) → k < n → f k ≤ sum_nat n f
unfolding sum_nat
one-le-sum zero k f h = omega arith
one-le-sum (suc n) k f h = elim (dec_lt k n)
    [ yes l ↦ omega (arith, one-le-sum n k f l) | no l ↦ let q : k ≡ n = omega arith in omega (arith, ap f q) ]

-- if no term is larger and the sums are equal, the terms are equal
pub each-equal : (n : ℕ) (f g : ℕ → ℕ) → ((i : ℕ) → i < n → f i ≤ g i) → sum_nat n f ≡ sum_nat n g → (i : ℕ) → i < n → f i ≡ g i
each-equal n f g h e i l =
    let s = sum-ext n (λ k. f k + (g k - f k)) g (λ k p. diff (f k) (g k) (h k p)) in
    omega (arith, s, sum-add n f (λ k. g k - f k), one-le-sum n i (λ k. g k - f k) l, h i l)
  where
    diff : (a b : ℕ) → a ≤ b → a + (b - a) ≡ b
    diff a b h = omega arith

-- ONE TERM CHANGES: the sum changes by as much
pub sum_one : (n k : ℕ) (f g : ℕ → ℕ) → k < n → ((i : ℕ) → i < n → (i ≡ k → ⊥) → g i ≡ f i) → sum_nat n g + f k ≡ sum_nat n f + g k
unfolding sum_nat
sum_one zero k f g h e = omega arith
sum_one (suc n) k f g h e = elim (dec_lt k n) [
  | yes l ↦ omega (arith, sum_one n k f g l (λ i p q. e i (omega arith) q), e n (omega arith) (λ q. omega arith))
  | no l ↦
      let q : k ≡ n = omega arith in
      let r : sum_nat n g ≡ sum_nat n f = sum-ext n g f (λ i p. e i (omega arith) (λ w. omega arith)) in
      omega (arith, ap f q, ap g q)
]

-- KEYS. Among all z only the one equal to k is left
pub sum-key : (n k : ℕ) (x : ℕ → ℕ) → k < n → sum_nat n (λ z. only (eqb k z) (x z)) ≡ x k
sum-key n k x h =
    let e = sum_one n k (λ z. 0) (λ z. only (eqb k z) (x z)) h (λ i p q. ap (λ (b : Bool). only b (x i)) (ne_eqb k i (λ w. q (sym w)))) in
    let s = ap (λ (b : Bool). only b (x k)) (eq-eqb k k refl) in
    omega (arith, e, s, sum-zero n)

-- adding amounts up by key and picking keys by a flag is picking each amount by its key's flag
pub gather : (n m : ℕ) (key : ℕ → ℕ) (x : ℕ → ℕ) (s : ℕ → Bool) → ((i : ℕ) → i < n → key i < m)
    → sum_nat m (λ z. only (s z) (sum_nat n (λ i. only (eqb (key i) z) (x i)))) ≡ sum_nat n (λ i. only (s (key i)) (x i))
gather n m key x s h =
    sum-ext m (λ z. only (s z) (sum_nat n (λ i. only (eqb (key i) z) (x i)))) (λ z. sum_nat n (λ i. only (s z) (only (eqb (key i) z) (x i))))
    (λ z l. only_sum (s z) n (λ i. only (eqb (key i) z) (x i)))
    ∙ sum-swap m n (λ z i. only (s z) (only (eqb (key i) z) (x i)))
    ∙ sum-ext n (λ i. sum_nat m (λ z. only (s z) (only (eqb (key i) z) (x i)))) (λ i. only (s (key i)) (x i))
    (λ i l. sum-ext m (λ z. only (s z) (only (eqb (key i) z) (x i))) (λ z. only (eqb (key i) z) (only (s z) (x i))) (λ z p. only-both (s z) (eqb (key i) z) (x i))
    ∙ sum-key m (key i) (λ z. only (s z) (x i)) (h i l))

-- AN INTEGER SUM is the sum of its positive terms less the sum of its negative ones
pub sum-parts : (f : ℕ → ℤ) (n : ℕ) → up (sum_to n f) + sum_nat n (λ z. dn (f z)) ≡ sum_nat n (λ z. up (f z)) + dn (sum_to n f)
unfolding sum_to sum_nat
sum-parts f zero = refl
sum-parts f (suc n) = omega (arith, sum-parts f n, add-fact (sum_to n f) (f n))
