-- THE COMMON FORM OF THE THREE SHORTFALLS: a room at a price where that is above zero, less what is used of it at
-- the price, in hundred-thousandths of a microcent. For either sign of the price it is one product of two numbers
-- that are not negative. Over plain variables. Assumes nothing.
use Rattle.std.specs.Prelude.{◌≡◌, not, ℕ, ◌*◌, T, ℤ, pos, negsuc, ◌-ℤ◌, ◌*ℤ◌, ◌≤ℤ◌}
use Rattle.std.proofs.Common.{sym, ap, subst, ◌∙◌, arith, ltb→lt, SFits}
use Rattle.std.specs.Int.Signed.{lt_z, lt_z_no}
use Rattle.std.specs.Int.{w64}
use Rattle.base_integers.specs.Steps.Difference.{at, ◌⊖◌, ◌⊗◌, le-by, eq-by, le-fact}
use Rattle.base_integers.specs.Meaning.Order.{positive}
use Rattle.base_integers.specs.Steps.Order.{positive-nat, lt-le, diff-nonneg, times-positive}
use Rattle.base_integers.specs.Steps.Size.{Near, near_fits, near_sub, near-pos}
use Rattle.base_limits.specs.Meaning.Limits.{parts_in_one}
use Rattle.base_limits.specs.Meaning.Exact.{Costs}
use Rattle.base_measures.specs.declared.ExactMicrocents.{ExactMicrocents}
use Rattle.short_single.specs.Meaning.Short.{Exact}

abbrev pub short_of : ℤ → ℤ → ℤ → ℤ
short_of room used price = room *ℤ positive price -ℤ used *ℤ price

-- what can be computed in 64 bits
pub record Shortable (room used price : ℤ) : Type 0 where
  pub room-near : Near 250000000000000 room
  pub used-near : Near 250000000000000 used
  pub price-near : Near 100000000000 price
  pub used-in : used ≤ℤ room
  pub turned-in : T (lt_z price (pos 0)) → pos 0 ≤ℤ used
  pub small : short_of room used price ≤ℤ pos 900000000000000000000000

pub exact-by : {x y : ℤ} {r : ExactMicrocents} → x ≡ y → Exact x r → Exact y r
exact-by {r = r} e x = record { value = x.value ∙ e; parts_in = x.parts_in }

-- equal numbers
pub shortable-by : {r u x r' u' x' : ℤ} → r ≡ r' → u ≡ u' → x ≡ x' → Shortable r' u' x' → Shortable r u x
shortable-by {r} {u} {x} {r'} {u'} {x'} e f g h =
    subst (λ (y : ℤ). Shortable y u x) (sym e) (subst (λ (y : ℤ). Shortable r' y x) (sym f) (subst (λ (y : ℤ). Shortable r' u' y) (sym g) h))

-- BY THE SIGN OF THE PRICE
pub turned-is : (r u x : ℤ) → T (lt_z x (pos 0)) → u *ℤ (pos 0 -ℤ x) ≡ short_of r u x
turned-is r u (negsuc n) t = eq-by (at u ⊗ (at (pos 0) ⊖ at (negsuc n))) (at r ⊗ at (pos 0) ⊖ at u ⊗ at (negsuc n)) (omega arith)
turned-is r u (pos n) t = absurd (none n t)
  where
    none : (n : ℕ) → T (lt_z (pos n) (pos 0)) → ⊥
    none n t = omega (arith, ltb→lt n 0 t)

pub kept-is : (r u x : ℤ) → T (not (lt_z x (pos 0))) → (r -ℤ u) *ℤ x ≡ short_of r u x
kept-is r u (negsuc n) t = absurd t
kept-is r u (pos n) t =
    eq-by ((at r ⊖ at u) ⊗ at (pos n)) (at r ⊗ at (pos n) ⊖ at u ⊗ at (pos n)) (omega arith)
    ∙ ap (λ (z : ℤ). r *ℤ z -ℤ u *ℤ pos n) (sym (positive-nat n))

module _ (r u x : ℤ) (h : Shortable r u x) where
  pub turned-costs : T (lt_z x (pos 0)) → Costs u (pos 0 -ℤ x)
  turned-costs t = record {
    load-in = h.turned-in t;
    price-in = le-by (at (pos 0)) (at (pos 0) ⊖ at x) (omega (arith, le-fact (at x) (at (pos 0)) (lt-le x (pos 0) t)));
    price-small = le-by (at (pos 0) ⊖ at x) (at (pos 100000000000)) (omega (arith, h.price-near));
    small = subst (λ (z : ℤ). z ≤ℤ pos 900000000000000000000000) (sym (turned-is r u x t)) h.small;
  }

  pub turned-fits : SFits w64 (pos 0 -ℤ x)
  turned-fits = near_fits w64 (omega arith) (near_sub (near-pos 0) h.price-near)

  pub left-fits : SFits w64 (r -ℤ u)
  left-fits = near_fits w64 (omega arith) (near_sub h.room-near h.used-near)

  pub kept-costs : T (not (lt_z x (pos 0))) → Costs (r -ℤ u) x
  kept-costs t = record {
    load-in = diff-nonneg h.used-in;
    price-in = lt_z_no t;
    price-small = le-by (at x) (at (pos 100000000000)) (omega (arith, h.price-near));
    small = subst (λ (z : ℤ). z ≤ℤ pos 900000000000000000000000) (sym (kept-is r u x t)) h.small;
  }

-- THE THREE KINDS IN THIS FORM. An order: q its quantity, v its volume, a what a unit gains
pub order-as : (q v : ℕ) (a : ℤ) → short_of (pos q *ℤ pos parts_in_one) (pos v *ℤ pos parts_in_one) a ≡ pos parts_in_one *ℤ (positive (pos q *ℤ a) -ℤ pos v *ℤ a)
order-as q v a =
    eq-by (at (pos q) ⊗ at (pos parts_in_one) ⊗ at (positive a) ⊖ at (pos v) ⊗ at (pos parts_in_one) ⊗ at a) (at (pos parts_in_one) ⊗ (at (pos q) ⊗ at (positive a) ⊖ at (pos v) ⊗ at a)) (omega arith)
    ∙ ap (λ (z : ℤ). pos parts_in_one *ℤ (z -ℤ pos v *ℤ a)) (times-positive q a)

-- a branch: r its room, u its use, s its shadow price
pub branch-as : (s : ℕ) (r u : ℤ) → short_of r u (pos parts_in_one *ℤ pos s) ≡ pos parts_in_one *ℤ (pos s *ℤ (r -ℤ u))
branch-as s r u =
    ap (λ (z : ℤ). r *ℤ z -ℤ u *ℤ (pos parts_in_one *ℤ pos s)) (positive-nat (parts_in_one * s))
    ∙ eq-by (at r ⊗ (at (pos parts_in_one) ⊗ at (pos s)) ⊖ at u ⊗ (at (pos parts_in_one) ⊗ at (pos s))) (at (pos parts_in_one) ⊗ (at (pos s) ⊗ (at r ⊖ at u))) (omega arith)

-- a link: k its capacity, a the LTA share, f its flow, t its spread
pub link-as : (k a f : ℕ) (t : ℤ) → short_of (pos a *ℤ pos k) (pos f *ℤ pos parts_in_one) t ≡ pos k *ℤ pos a *ℤ positive t -ℤ pos parts_in_one *ℤ (pos f *ℤ t)
link-as k a f t = eq-by (at (pos a) ⊗ at (pos k) ⊗ at (positive t) ⊖ at (pos f) ⊗ at (pos parts_in_one) ⊗ at t) (at (pos k) ⊗ at (pos a) ⊗ at (positive t) ⊖ at (pos parts_in_one) ⊗ (at (pos f) ⊗ at t)) (omega arith)
