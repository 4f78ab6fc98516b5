-- The order of ℤ: products of numbers that are not negative, the larger of two, and the machine's test `lt_z` as the
-- order. Assumes nothing.
use Rattle.std.specs.Prelude.{◌≡◌, refl, Bool, true, false, not, cond, ℕ, ◌*◌, ◌≤◌, T, ℤ, pos, negsuc, ◌+ℤ◌, ◌-ℤ◌, ◌*ℤ◌, ◌≤ℤ◌}
use Rattle.std.proofs.Common.{mul-le-mul_left, arith, ltb→lt}
use Rattle.std.specs.Int.Signed.{≤ℤ_refl, lt_z, lt_z_no, le_z_yes}
use Rattle.base_integers.specs.Steps.Difference.{at, ◌⊕◌, ◌⊖◌, ◌⊗◌, le-by, eq-by, le-fact}
use Rattle.base_integers.specs.Meaning.Order.{larger, positive}

pub le_trans : {x y z : ℤ} → x ≤ℤ y → y ≤ℤ z → x ≤ℤ z
le_trans {x} {y} {z} h k = le-by (at x) (at z) (omega (arith, le-fact (at x) (at y) h, le-fact (at y) (at z) k))

pub le_antisym : {x y : ℤ} → x ≤ℤ y → y ≤ℤ x → x ≡ y
le_antisym {x} {y} h k = eq-by (at x) (at y) (omega (arith, le-fact (at x) (at y) h, le-fact (at y) (at x) k))

-- a larger number less a smaller
pub diff-nonneg : {x y : ℤ} → x ≤ℤ y → pos 0 ≤ℤ (y -ℤ x)
diff-nonneg {x} {y} h = le-by (at (pos 0)) (at y ⊖ at x) (omega (arith, le-fact (at x) (at y) h))

pub add-nonneg : {x y : ℤ} → pos 0 ≤ℤ x → pos 0 ≤ℤ y → pos 0 ≤ℤ (x +ℤ y)
add-nonneg {x} {y} h k = le-by (at (pos 0)) (at x ⊕ at y) (omega (arith, le-fact (at (pos 0)) (at x) h, le-fact (at (pos 0)) (at y) k))

pub less-le : (k : ℤ) {x y : ℤ} → x ≤ℤ y → (x -ℤ k) ≤ℤ (y -ℤ k)
less-le k {x} {y} h = le-by (at x ⊖ at k) (at y ⊖ at k) (omega (arith, le-fact (at x) (at y) h))

-- a fact times a natural number
pub scaled : (k : ℕ) {x y : ℤ} → x ≤ℤ y → (pos k *ℤ x) ≤ℤ (pos k *ℤ y)
scaled k {x} {y} h = le-by (at (pos k) ⊗ at x) (at (pos k) ⊗ at y) (omega (arith, mul-le-mul_left k (le-fact (at x) (at y) h)))

pub times-nonneg : (k : ℕ) {x : ℤ} → pos 0 ≤ℤ x → pos 0 ≤ℤ (pos k *ℤ x)
times-nonneg k {x} h = le-by (at (pos 0)) (at (pos k) ⊗ at x) (omega (arith, mul-le-mul_left k (le-fact (at (pos 0)) (at x) h)))

pub mul-nonneg : (x y : ℤ) → pos 0 ≤ℤ x → pos 0 ≤ℤ y → pos 0 ≤ℤ (x *ℤ y)
mul-nonneg (pos k) y h l = times-nonneg k l
mul-nonneg (negsuc k) y h l = absurd h.le

pub lt-le : (a b : ℤ) → T (lt_z a b) → a ≤ℤ b
lt-le (pos a) (pos b) t = le-by (at (pos a)) (at (pos b)) (omega (arith, ltb→lt a b t))
lt-le (pos a) (negsuc b) t = absurd t
lt-le (negsuc a) (pos b) t = le_z_yes tt
lt-le (negsuc a) (negsuc b) t = le-by (at (negsuc a)) (at (negsuc b)) (omega (arith, ltb→lt b a t))

-- a choice between two numbers, taken apart
pub cond_ind : (c : Bool) (x y : ℤ) (P : ℤ → Type 0) → (T c → P x) → (T (not c) → P y) → P (cond c x y)
cond_ind true x y P f g = f tt
cond_ind false x y P f g = g tt

pub larger-left : (a b : ℤ) → a ≤ℤ larger a b
larger-left a b = cond_ind (lt_z a b) b a (λ z. a ≤ℤ z) (λ t. lt-le a b t) (λ t. ≤ℤ_refl a)

pub larger-right : (a b : ℤ) → b ≤ℤ larger a b
larger-right a b = cond_ind (lt_z a b) b a (λ z. b ≤ℤ z) (λ t. ≤ℤ_refl b) (λ t. lt_z_no t)

-- the larger of two, less either of them
pub larger-less-left : (a b : ℤ) → larger a b -ℤ a ≡ positive (b -ℤ a)
larger-less-left a b = le_antisym
    (cond_ind (lt_z a b) b a (λ z. (z -ℤ a) ≤ℤ positive (b -ℤ a)) (λ t. larger-right (pos 0) (b -ℤ a)) (λ t. le_trans (le-by (at a ⊖ at a) (at (pos 0)) (omega arith)) (larger-left (pos 0) (b -ℤ a))))
    (cond_ind (lt_z (pos 0) (b -ℤ a)) (b -ℤ a) (pos 0) (λ z. z ≤ℤ (larger a b -ℤ a)) (λ t. less-le a (larger-right a b)) (λ t. diff-nonneg (larger-left a b)))

pub larger-less-right : (a b : ℤ) → larger a b -ℤ b ≡ positive (a -ℤ b)
larger-less-right a b = le_antisym
    (cond_ind (lt_z a b) b a (λ z. (z -ℤ b) ≤ℤ positive (a -ℤ b)) (λ t. le_trans (le-by (at b ⊖ at b) (at (pos 0)) (omega arith)) (larger-left (pos 0) (a -ℤ b))) (λ t. larger-right (pos 0) (a -ℤ b)))
    (cond_ind (lt_z (pos 0) (a -ℤ b)) (a -ℤ b) (pos 0) (λ z. z ≤ℤ (larger a b -ℤ b)) (λ t. less-le b (larger-left a b)) (λ t. diff-nonneg (larger-right a b)))

-- a number that is not negative is its own positive part
pub positive-nat : (n : ℕ) → positive (pos n) ≡ pos n
positive-nat n = cond_ind (lt_z (pos 0) (pos n)) (pos n) (pos 0) (λ z. z ≡ pos n) (λ t. refl) (λ t. le_antisym (le-by (at (pos 0)) (at (pos n)) (omega arith)) (lt_z_no t))

-- a natural number times a positive part
pub times-positive : (k : ℕ) (x : ℤ) → pos k *ℤ positive x ≡ positive (pos k *ℤ x)
times-positive k x = le_antisym
    (cond_ind (lt_z (pos 0) x) x (pos 0) (λ z. (pos k *ℤ z) ≤ℤ positive (pos k *ℤ x)) (λ t. larger-right (pos 0) (pos k *ℤ x))
    (λ t. le_trans (le-by (at (pos k) ⊗ at (pos 0)) (at (pos 0)) (omega arith)) (larger-left (pos 0) (pos k *ℤ x))))
    (cond_ind (lt_z (pos 0) (pos k *ℤ x)) (pos k *ℤ x) (pos 0) (λ z. z ≤ℤ (pos k *ℤ positive x)) (λ t. scaled k (larger-right (pos 0) x)) (λ t. times-nonneg k (larger-left (pos 0) x)))
