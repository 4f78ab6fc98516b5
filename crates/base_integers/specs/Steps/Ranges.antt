-- Ranges with both ends within, and the test that a number lies outside of one. Assumes nothing.
use Rattle.std.specs.Prelude.{◌≡◌, refl, Bool, true, false, not, ◌&&◌, ◌||◌, ℕ, ◌≤◌, ◌<◌, T, ltb, ℤ, pos, negsuc, ◌≤ℤ◌}
use Rattle.std.proofs.Common.{sym, subst, arith, leb→le, ltb→lt}
use Rattle.std.proofs.Math.Dec.{not_T}
use Rattle.std.specs.Int.Signed.{lt_z, lt_z_no}
use Rattle.base_integers.specs.Steps.Difference.{at, le-by}
use Rattle.base_integers.specs.Steps.Order.{le_antisym}
use Rattle.base_integers.specs.Meaning.Ranges.{Range, range, outside, Within, is_zero}

-- a test by its value, and conversely
pub is_true : {b : Bool} → b ≡ true → T b
is_true e = subst T (sym e) tt

pub is_false : {b : Bool} → b ≡ false → T (not b)
is_false e = subst (λ (b : Bool). T (not b)) (sym e) tt

-- for a flag whose negation is set
pub not_some : (b : Bool) {f : Bool} → b ≡ f → not b ≡ true → T (not f)
not_some true e q = absurd (is_true q)
not_some false e q = is_false (sym e)

pub not_is : (b : Bool) → T (not b) → b ≡ false
not_is true t = absurd t
not_is false t = refl

pub nor-left : (a b : Bool) → T (not (a || b)) → T (not a)
nor-left true b t = absurd t
nor-left false b t = tt

pub nor-right : (a b : Bool) → T (not (a || b)) → T (not b)
nor-right true b t = absurd t
nor-right false b t = t

pub nor-both : (a b : Bool) → T (not a) → T (not b) → T (not (a || b))
nor-both true b t u = absurd t
nor-both false b t u = u

pub or_left : (a b : Bool) → T a → T (a || b)
or_left true b t = tt
or_left false b t = absurd t

pub or_right : (a b : Bool) → T b → T (a || b)
or_right true b t = tt
or_right false b t = t

pub and_both : (a b : Bool) → T a → T b → T (a && b)
and_both true b t u = u
and_both false b t u = absurd t

pub and_left : (a b : Bool) → T (a && b) → T a
and_left true b t = tt
and_left false b t = absurd t

pub and_right : (a b : Bool) → T (a && b) → T b
and_right true b t = t
and_right false b t = absurd t

pub within : (r : Range) (x : ℤ) → T (not (outside r x)) → Within r x
unfolding outside
within r x t = record {
  least-le = lt_z_no (nor-left (lt_z x r.least) (lt_z r.greatest x) t);
  le-greatest = lt_z_no (nor-right (lt_z x r.least) (lt_z r.greatest x) t);
}

-- and conversely
le_not_lt : (a b : ℤ) → b ≤ℤ a → T (not (lt_z a b))
le_not_lt (pos a) (pos b) h = not_T (ltb a b) (λ t. never (ltb→lt a b t) (leb→le b a h.le))
  where
    never : a < b → b ≤ a → ⊥
    never l g = omega arith
le_not_lt (pos a) (negsuc b) h = tt
le_not_lt (negsuc a) (pos b) h = absurd h.le
le_not_lt (negsuc a) (negsuc b) h = not_T (ltb b a) (λ t. never (ltb→lt b a t) (leb→le a b h.le))
  where
    never : b < a → a ≤ b → ⊥
    never l g = omega arith

pub inside : (r : Range) (x : ℤ) → Within r x → T (not (outside r x))
unfolding outside
inside r x w = nor-both (lt_z x r.least) (lt_z r.greatest x) (le_not_lt x r.least w.least-le) (le_not_lt r.greatest x w.le-greatest)

-- naturals in a range of naturals
pub nat-within : (a b x : ℕ) → T (not (outside (range (pos a) (pos b)) (pos x))) → (a ≤ x) × (x ≤ b)
nat-within a b x t = let w = within (range (pos a) (pos b)) (pos x) t in (leb→le a x w.least-le.le, leb→le x b w.le-greatest.le)

pub nat-inside : (a b x : ℕ) → a ≤ x → x ≤ b → T (not (outside (range (pos a) (pos b)) (pos x)))
nat-inside a b x h l = inside (range (pos a) (pos b)) (pos x) (record { least-le = le-by (at (pos a)) (at (pos x)) (omega (arith, h)); le-greatest = le-by (at (pos x)) (at (pos b)) (omega (arith, l)) })

pub zero_is : (x : ℤ) → T (is_zero x) → x ≡ pos 0
unfolding is_zero
zero_is x t = let w = within (range (pos 0) (pos 0)) x t in le_antisym w.le-greatest w.least-le
