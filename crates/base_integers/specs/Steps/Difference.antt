-- Equations and inequalities over ℤ by `omega`, which reads only ℕ: an integer is a difference of two naturals,
-- `up z` less `dn z`.
-- `As z` is a pair p, n with z = p - n. `at`, `⊕`, `⊖`, `⊗` build one along an expression; `le-by`, `eq-by` turn a
-- goal over ℤ into one over ℕ, and `le-fact`, `eq-fact` a hypothesis. `omega` multiplies products out, so one call
-- does ring arithmetic and linear combination:
--
--     ring : (a b c : ℤ) → (a +ℤ b) *ℤ c ≡ c *ℤ b +ℤ a *ℤ c
--     ring a b c = eq-by ((at a ⊕ at b) ⊗ at c) (at c ⊗ at b ⊕ at a ⊗ at c) (omega arith)
--
--     linear : (a b c : ℤ) → a ≤ℤ b → (a +ℤ c) ≤ℤ (c +ℤ b)
--     linear a b c h = le-by (at a ⊕ at c) (at c ⊕ at b) (omega (arith, le-fact (at a) (at b) h))
--
-- Multiply a product of facts before passing it (`mul-le-mul_left k (le-fact ..)`). `omega` takes 64 atoms: give
-- subterms plain names first. `◌≤ℤ◌` binds tighter than `◌+ℤ◌`: write parentheses on both sides. Assumes nothing.
use Rattle.std.specs.Prelude.{◌≡◌, refl, Bool, true, false, not, cond, ℕ, zero, suc, ◌+◌, ◌*◌, ◌-◌, ◌≤◌, ◌<◌, T, ltb, ℤ, pos, negsuc, neg_ℤ, ◌+ℤ◌, ◌-ℤ◌, ◌*ℤ◌, ◌≤ℤ◌}
use Rattle.std.proofs.Common.{ap, arith, ltb→lt, nltb→le, leb→le, le→leb}
use Rattle.std.proofs.Math.IntN.{sub_ℕ}
use Rattle.std.specs.Int.Signed.{le_z}
use Rattle.base_integers.specs.Meaning.Difference.{up, dn}

cond_ind : (c : Bool) (x y : ℤ) (P : ℤ → Type 0) → (T c → P x) → (T (not c) → P y) → P (cond c x y)
cond_ind true x y P f g = f tt
cond_ind false x y P f g = g tt

sub-fact : (a b : ℕ) → up (sub_ℕ a b) + b ≡ a + dn (sub_ℕ a b)
sub-fact a b = cond_ind (ltb a b) (negsuc (b - suc a)) (pos (a - b)) (λ z. up z + b ≡ a + dn z)
    (λ t. s₁ a b (ltb→lt a b t)) (λ t. s₂ a b (nltb→le a b t))
  where
    s₁ : (a b : ℕ) → a < b → zero + b ≡ a + suc (b - suc a)
    s₁ a b h = omega arith

    s₂ : (a b : ℕ) → b ≤ a → (a - b) + b ≡ a + zero
    s₂ a b h = omega arith

pub add-fact : (x y : ℤ) → up (x +ℤ y) + (dn x + dn y) ≡ (up x + up y) + dn (x +ℤ y)
add-fact (pos a) (pos b) = omega arith
add-fact (pos a) (negsuc b) = omega (arith, sub-fact a (suc b))
add-fact (negsuc a) (pos b) = omega (arith, sub-fact b (suc a))
add-fact (negsuc a) (negsuc b) = omega arith

pub neg-fact : (x : ℤ) → up (neg_ℤ x) + up x ≡ dn x + dn (neg_ℤ x)
neg-fact (pos zero) = refl
neg-fact (pos (suc n)) = omega arith
neg-fact (negsuc n) = omega arith

pub mul-fact : (x y : ℤ) → up (x *ℤ y) + (up x * dn y + dn x * up y) ≡ (up x * up y + dn x * dn y) + dn (x *ℤ y)
mul-fact (pos a) (pos b) = omega arith
mul-fact (pos a) (negsuc b) = omega (arith, neg-fact (pos (a * suc b)))
mul-fact (negsuc a) (pos b) = omega (arith, neg-fact (pos (suc a * b)))
mul-fact (negsuc a) (negsuc b) = omega arith

-- z is p less n
pub record As (z : ℤ) : Type 0 where
  pub p : ℕ
  pub n : ℕ
  pub is : up z + n ≡ p + dn z

abbrev pub at : (z : ℤ) → As z
at z = record { p = up z; n = dn z; is = refl }

infixl 6 ◌⊕◌ ◌⊖◌
infixl 7 ◌⊗◌
pub add_is : (x y : ℤ) (r : As x) (s : As y) → up (x +ℤ y) + (r.n + s.n) ≡ (r.p + s.p) + dn (x +ℤ y)
add_is x y r s = omega (arith, add-fact x y, r.is, s.is)

pub neg_is : (x : ℤ) (r : As x) → up (neg_ℤ x) + r.p ≡ r.n + dn (neg_ℤ x)
neg_is x r = omega (arith, neg-fact x, r.is)

pub mul_is : (x y : ℤ) (r : As x) (s : As y) → up (x *ℤ y) + (r.p * s.n + r.n * s.p) ≡ (r.p * s.p + r.n * s.n) + dn (x *ℤ y)
mul_is x y r s =
    omega (arith, mul-fact x y, ap (λ (k : ℕ). k * s.p) r.is, ap (λ (k : ℕ). k * s.n) r.is, ap (λ (k : ℕ). up x * k) s.is, ap (λ (k : ℕ). dn x * k) s.is)

abbrev pub ◌⊕◌ : {x y : ℤ} → As x → As y → As (x +ℤ y)
◌⊕◌ {x} {y} r s = record { p = r.p + s.p; n = r.n + s.n; is = add_is x y r s }

abbrev pub ⊝◌ : {x : ℤ} → As x → As (neg_ℤ x)
⊝◌ {x} r = record { p = r.n; n = r.p; is = neg_is x r }

abbrev pub ◌⊖◌ : {x y : ℤ} → As x → As y → As (x -ℤ y)
r ⊖ s = r ⊕ (⊝◌ s)

abbrev pub ◌⊗◌ : {x y : ℤ} → As x → As y → As (x *ℤ y)
◌⊗◌ {x} {y} r s = record { p = r.p * s.p + r.n * s.n; n = r.p * s.n + r.n * s.p; is = mul_is x y r s }

le→ : (x y : ℤ) → up x + dn y ≤ up y + dn x → T (le_z x y)
le→ (pos a) (pos b) h = le→leb a b (omega arith)
le→ (pos a) (negsuc b) h = absurd (f a b h)
  where
    f : (a b : ℕ) → a + suc b ≤ zero + zero → ⊥
    f a b h = omega arith
le→ (negsuc a) (pos b) h = tt
le→ (negsuc a) (negsuc b) h = le→leb b a (omega arith)

→le : (x y : ℤ) → T (le_z x y) → up x + dn y ≤ up y + dn x
→le (pos a) (pos b) h = omega (arith, leb→le a b h)
→le (pos a) (negsuc b) h = absurd h
→le (negsuc a) (pos b) h = omega arith
→le (negsuc a) (negsuc b) h = omega (arith, leb→le b a h)

eq→ : (x y : ℤ) → up x + dn y ≡ up y + dn x → x ≡ y
eq→ (pos a) (pos b) h = ap pos (omega arith)
eq→ (pos a) (negsuc b) h = absurd (f a b h)
  where
    f : (a b : ℕ) → a + suc b ≡ zero + zero → ⊥
    f a b h = omega arith
eq→ (negsuc a) (pos b) h = absurd (f a b h)
  where
    f : (a b : ℕ) → zero + zero ≡ b + suc a → ⊥
    f a b h = omega arith
eq→ (negsuc a) (negsuc b) h = ap negsuc (omega arith)

pub le-by : {x y : ℤ} (r : As x) (s : As y) → r.p + s.n ≤ s.p + r.n → x ≤ℤ y
le-by {x} {y} r s h = record { le = le→ x y (omega (arith, r.is, s.is)) }

pub eq-by : {x y : ℤ} (r : As x) (s : As y) → r.p + s.n ≡ s.p + r.n → x ≡ y
eq-by {x} {y} r s h = eq→ x y (omega (arith, r.is, s.is))

pub le-fact : {x y : ℤ} (r : As x) (s : As y) → x ≤ℤ y → r.p + s.n ≤ s.p + r.n
le-fact {x} {y} r s h = omega (arith, →le x y h.le, r.is, s.is)

pub eq-fact : {x y : ℤ} (r : As x) (s : As y) → x ≡ y → r.p + s.n ≡ s.p + r.n
eq-fact {x} {y} r s h = omega (arith, r.is, s.is, ap up h, ap dn h)
