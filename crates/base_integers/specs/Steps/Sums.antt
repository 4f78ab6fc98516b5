-- Sums of integers over the indices below a count, in the order in which a loop adds them: `sum_to (suc n) f` is
-- `sum_to n f` plus `f n`. A loop's invariant is `total ≡ sum_to i f`, and a turn is `sum_more`. `gather` turns sums
-- by key into one sum over the entries. Assumes nothing.
use Rattle.std.specs.Prelude.{◌≡◌, refl, ◌≢◌, Bool, true, false, not, ◌&&◌, ℕ, zero, suc, ◌+◌, ◌-◌, ◌≤◌, ◌<◌, T, eqb, ℤ, pos, ◌+ℤ◌, ◌-ℤ◌, ◌*ℤ◌, ◌≤ℤ◌}
use Rattle.std.proofs.Common.{sym, ap, ◌∙◌, add-one, arith, eqb→eq, T_not}
use Rattle.std.proofs.Math.Decide.{dec_lt}
use Rattle.std.proofs.Math.Dec.{eqb_refl}
use Rattle.std.specs.Int.Signed.{≤ℤ_refl}
use Rattle.base_integers.specs.Steps.Difference.{at, ◌⊕◌, ◌⊖◌, ◌⊗◌, le-by, eq-by, le-fact}
use Rattle.base_integers.specs.Meaning.Sums.{sum_to, only}

-- a turn of a loop, whose counter is `n + 1` and not `suc n`
pub sum_more : (n : ℕ) (f : ℕ → ℤ) → sum_to (n + 1) f ≡ sum_to n f +ℤ f n
unfolding sum_to
sum_more n f = rw (add-one n)

pub sum-ext : (n : ℕ) (f g : ℕ → ℤ) → ((i : ℕ) → i < n → f i ≡ g i) → sum_to n f ≡ sum_to n g
unfolding sum_to
sum-ext zero f g h = refl
sum-ext (suc n) f g h = cc (sum-ext n f g (λ i l. h i (omega arith)), h n (omega arith))

pub sum-le : (n : ℕ) (f g : ℕ → ℤ) → ((i : ℕ) → i < n → f i ≤ℤ g i) → sum_to n f ≤ℤ sum_to n g
unfolding sum_to
sum-le zero f g h = ≤ℤ_refl (pos 0)
sum-le (suc n) f g h = le-by (at (sum_to n f) ⊕ at (f n)) (at (sum_to n g) ⊕ at (g n))
    (omega (arith, le-fact (at (sum_to n f)) (at (sum_to n g)) (sum-le n f g (λ i l. h i (omega arith))), le-fact (at (f n)) (at (g n)) (h n (omega arith))))

pub sum-zero : (n : ℕ) → sum_to n (λ i. pos 0) ≡ pos 0
unfolding sum_to
sum-zero zero = refl
sum-zero (suc n) = ap (λ (z : ℤ). z +ℤ pos 0) (sum-zero n)

pub sum-add : (n : ℕ) (f g : ℕ → ℤ) → sum_to n (λ i. f i +ℤ g i) ≡ sum_to n f +ℤ sum_to n g
unfolding sum_to
sum-add zero f g = refl
sum-add (suc n) f g = ap (λ (z : ℤ). z +ℤ (f n +ℤ g n)) (sum-add n f g)
    ∙ eq-by (at (sum_to n f) ⊕ at (sum_to n g) ⊕ (at (f n) ⊕ at (g n))) (at (sum_to n f) ⊕ at (f n) ⊕ (at (sum_to n g) ⊕ at (g n))) (omega arith)

pub sum-sub : (n : ℕ) (f g : ℕ → ℤ) → sum_to n (λ i. f i -ℤ g i) ≡ sum_to n f -ℤ sum_to n g
unfolding sum_to
sum-sub zero f g = refl
sum-sub (suc n) f g = ap (λ (z : ℤ). z +ℤ (f n -ℤ g n)) (sum-sub n f g)
    ∙ eq-by (at (sum_to n f) ⊖ at (sum_to n g) ⊕ (at (f n) ⊖ at (g n))) (at (sum_to n f) ⊕ at (f n) ⊖ (at (sum_to n g) ⊕ at (g n))) (omega arith)

pub sum-scale : (n : ℕ) (f : ℕ → ℤ) (c : ℤ) → sum_to n (λ i. f i *ℤ c) ≡ sum_to n f *ℤ c
unfolding sum_to
sum-scale zero f c = eq-by (at (pos 0)) (at (pos 0) ⊗ at c) (omega arith)
sum-scale (suc n) f c = ap (λ (z : ℤ). z +ℤ f n *ℤ c) (sum-scale n f c)
    ∙ eq-by (at (sum_to n f) ⊗ at c ⊕ at (f n) ⊗ at c) ((at (sum_to n f) ⊕ at (f n)) ⊗ at c) (omega arith)

pub sum-scale-l : (n : ℕ) (f : ℕ → ℤ) (c : ℤ) → sum_to n (λ i. c *ℤ f i) ≡ c *ℤ sum_to n f
sum-scale-l n f c = sum-ext n (λ i. c *ℤ f i) (λ i. f i *ℤ c) (λ i l. eq-by (at c ⊗ at (f i)) (at (f i) ⊗ at c) (omega arith))
    ∙ sum-scale n f c ∙ eq-by (at (sum_to n f) ⊗ at c) (at c ⊗ at (sum_to n f)) (omega arith)

-- a sum in two parts, the second from n on
pub sum-split : (n m : ℕ) (f : ℕ → ℤ) → sum_to (n + m) f ≡ sum_to n f +ℤ sum_to m (λ i. f (n + i))
unfolding sum_to
sum-split n zero f = let e : n + zero ≡ n = omega arith in ap (λ (k : ℕ). sum_to k f) e ∙ eq-by (at (sum_to n f)) (at (sum_to n f) ⊕ at (pos 0)) (omega arith)
sum-split n (suc m) f =
    let e : n + suc m ≡ suc (n + m) = omega arith in
    ap (λ (k : ℕ). sum_to k f) e ∙ ap (λ (x : ℤ). x +ℤ f (n + m)) (sum-split n m f)
    ∙ eq-by (at (sum_to n f) ⊕ at (sum_to m (λ i. f (n + i))) ⊕ at (f (n + m))) (at (sum_to n f) ⊕ (at (sum_to m (λ i. f (n + i))) ⊕ at (f (n + m)))) (omega arith)

pub sum-swap : (n m : ℕ) (f : ℕ → ℕ → ℤ) → sum_to n (λ i. sum_to m (λ j. f i j)) ≡ sum_to m (λ j. sum_to n (λ i. f i j))
unfolding sum_to
sum-swap zero m f = sym (sum-zero m)
sum-swap (suc n) m f = ap (λ (z : ℤ). z +ℤ sum_to m (λ j. f n j)) (sum-swap n m f)
    ∙ sym (sum-add m (λ j. sum_to n (λ i. f i j)) (λ j. f n j))

pub only-on : (b : Bool) (x : ℤ) → T b → only b x ≡ x
only-on true x t = refl
only-on false x t = absurd t

pub only-off : (b : Bool) (x : ℤ) → (T b → ⊥) → only b x ≡ pos 0
only-off true x f = absurd (f tt)
only-off false x f = refl

off-term : (k z : ℕ) (x c : ℤ) → k ≢ z → only (eqb k z) x *ℤ c ≡ pos 0
off-term k z x c h = ap (λ (y : ℤ). y *ℤ c) (only-off (eqb k z) x (λ t. h (eqb→eq k z t))) ∙ eq-by (at (pos 0) ⊗ at c) (at (pos 0)) (omega arith)

pub sum-none : (n k : ℕ) (x : ℤ) (w : ℕ → ℤ) → n ≤ k → sum_to n (λ z. only (eqb k z) x *ℤ w z) ≡ pos 0
sum-none n k x w h = sum-ext n (λ z. only (eqb k z) x *ℤ w z) (λ z. pos 0) (λ z l. off-term k z x (w z) (omega arith)) ∙ sum-zero n

-- among all z only the one equal to k is left
pub sum-only : (n k : ℕ) (x : ℤ) (w : ℕ → ℤ) → k < n → sum_to n (λ z. only (eqb k z) x *ℤ w z) ≡ x *ℤ w k
unfolding sum_to
sum-only zero k x w h = absurd (f k h)
  where
    f : (k : ℕ) → k < zero → ⊥
    f k h = omega arith
sum-only (suc n) k x w h = elim (dec_lt k n) [ yes l ↦ inside l (sum-only n k x w l) | no f ↦ last (omega arith) ]
  where
    before : ℤ
    before = sum_to n (λ z. only (eqb k z) x *ℤ w z)

    inside : k < n → before ≡ x *ℤ w k → before +ℤ only (eqb k n) x *ℤ w n ≡ x *ℤ w k
    inside l ih = cc (off-term k n x (w n) (omega arith), eq-by (at (x *ℤ w k) ⊕ at (pos 0)) (at (x *ℤ w k)) (omega arith))

    last : k ≡ n → before +ℤ only (eqb k n) x *ℤ w n ≡ x *ℤ w k
    last e = cc (sum-none n k x w (omega arith), only-on (eqb k k) x (eqb_refl k), e, eq-by (at (pos 0) ⊕ at (x *ℤ w k)) (at (x *ℤ w k)) (omega arith))

-- adding amounts up by key and weighing each sum is weighing each amount at its key
pub gather : (n m : ℕ) (key : ℕ → ℕ) (x w : ℕ → ℤ) → ((i : ℕ) → i < n → key i < m)
    → sum_to m (λ z. sum_to n (λ i. only (eqb (key i) z) (x i)) *ℤ w z) ≡ sum_to n (λ i. x i *ℤ w (key i))
gather n m key x w h =
    sum-ext m (λ z. sum_to n (λ i. only (eqb (key i) z) (x i)) *ℤ w z) (λ z. sum_to n (λ i. only (eqb (key i) z) (x i) *ℤ w z))
    (λ z l. sym (sum-scale n (λ i. only (eqb (key i) z) (x i)) (w z)))
    ∙ sum-swap m n (λ z i. only (eqb (key i) z) (x i) *ℤ w z)
    ∙ sum-ext n (λ i. sum_to m (λ z. only (eqb (key i) z) (x i) *ℤ w z)) (λ i. x i *ℤ w (key i)) (λ i l. sum-only m (key i) (x i) w (h i l))

pub sum_nonneg : (n : ℕ) (f : ℕ → ℤ) → ((i : ℕ) → i < n → pos 0 ≤ℤ f i) → pos 0 ≤ℤ sum_to n f
sum_nonneg n f h = rw (sum-zero n) at (sum-le n (λ i. pos 0) f h)

-- where no term is negative, each is at most the sum
pub one-le-sum : (n : ℕ) (f : ℕ → ℤ) → ((i : ℕ) → i < n → pos 0 ≤ℤ f i) → (i : ℕ) → i < n → f i ≤ℤ sum_to n f
unfolding sum_to
one-le-sum zero f h i l = absurd (none i l)
  where
    none : (i : ℕ) → i < 0 → ⊥
    none i l = omega arith
one-le-sum (suc n) f h i l = elim (dec_lt i n) [ yes m ↦ earlier (f i) (sum_to n f) (f n) (one-le-sum n f (λ j k. h j (omega arith)) i m) (h n (omega arith)) | no g ↦ here g (sum_nonneg n f (λ j k. h j (omega arith))) ]
  where
    earlier : (a b c : ℤ) → a ≤ℤ b → pos 0 ≤ℤ c → a ≤ℤ (b +ℤ c)
    earlier a b c h k = le-by (at a) (at b ⊕ at c) (omega (arith, le-fact (at a) (at b) h, le-fact (at (pos 0)) (at c) k))

    later : (b c : ℤ) → pos 0 ≤ℤ b → c ≤ℤ (b +ℤ c)
    later b c h = le-by (at c) (at b ⊕ at c) (omega (arith, le-fact (at (pos 0)) (at b) h))

    here : (i < n → ⊥) → pos 0 ≤ℤ sum_to n f → f i ≤ℤ (sum_to n f +ℤ f n)
    here g t = let e : i ≡ n = omega arith in rw e (later (sum_to n f) (f n) t)

-- flags one after the other
pub only-both : (a b : Bool) (x : ℤ) → only (a && b) x ≡ only a (only b x)
only-both true b x = refl
only-both false b x = refl

pub only-swap : (a b : Bool) (x : ℤ) → only a (only b x) ≡ only b (only a x)
only-swap true true x = refl
only-swap true false x = refl
only-swap false true x = refl
only-swap false false x = refl

-- only the term at k is not zero
pub sum_one : (n k : ℕ) (f : ℕ → ℤ) → k < n → ((i : ℕ) → i < n → k ≢ i → f i ≡ pos 0) → sum_to n f ≡ f k
sum_one n k f h off =
    sum-ext n f (λ i. only (eqb k i) (pos 1) *ℤ f i) (λ i l. pick (eqb k i) (f i) (λ t. off i l (λ e. T_not (eqb k i) t (rw e (eqb_refl i)))))
    ∙ sum-only n k (pos 1) f h ∙ eq-by (at (pos 1) ⊗ at (f k)) (at (f k)) (omega arith)
  where
    pick : (b : Bool) (x : ℤ) → (T (not b) → x ≡ pos 0) → x ≡ only b (pos 1) *ℤ x
    pick true x g = eq-by (at x) (at (pos 1) ⊗ at x) (omega arith)
    pick false x g = g tt ∙ eq-by (at (pos 0)) (at (pos 0) ⊗ at x) (omega arith)

-- the same without weights
pub sum-key : (n k : ℕ) (x : ℤ) → k < n → sum_to n (λ z. only (eqb k z) x) ≡ x
sum-key n k x h = sum_one n k (λ z. only (eqb k z) x) h (λ i l ne. only-off (eqb k i) x (λ t. ne (eqb→eq k i t))) ∙ only-on (eqb k k) x (eqb_refl k)

-- the exchanges of n with each other, in less out, sum to zero
pub sum-exchanged : (n : ℕ) (f : ℕ → ℕ → ℤ) → sum_to n (λ l. sum_to n (λ k. f k l) -ℤ sum_to n (λ k. f l k)) ≡ pos 0
sum-exchanged n f = sum-sub n (λ l. sum_to n (λ k. f k l)) (λ l. sum_to n (λ k. f l k))
    ∙ (rw (sum-swap n n (λ l k. f k l)) (eq-by (at (sum_to n (λ l. sum_to n (λ k. f l k))) ⊖ at (sum_to n (λ l. sum_to n (λ k. f l k)))) (at (pos 0)) (omega arith)))

-- a double sum with a weight on each side, in the other order
pub sum-weights : (n m : ℕ) (a b : ℕ → ℤ) (g : ℕ → ℕ → ℤ) → sum_to n (λ z. a z *ℤ sum_to m (λ j. g j z *ℤ b j)) ≡ sum_to m (λ j. sum_to n (λ z. g j z *ℤ a z) *ℤ b j)
sum-weights n m a b g =
    sum-ext n _ _ (λ z l. sym (sum-scale-l m (λ j. g j z *ℤ b j) (a z)))
    ∙ sum-swap n m (λ z j. a z *ℤ (g j z *ℤ b j))
    ∙ sum-ext m _ _ (λ j l.
    sum-ext n _ _ (λ z h. eq-by (at (a z) ⊗ (at (g j z) ⊗ at (b j))) (at (g j z) ⊗ at (a z) ⊗ at (b j)) (omega arith)) ∙ sum-scale n (λ z. g j z *ℤ a z) (b j))
