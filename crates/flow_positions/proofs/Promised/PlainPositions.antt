-- NET POSITIONS IN PLAIN NUMBERS (S-3), both ways: which position row 82 names, and when the sum passes. The number
-- of zone z is `get_or xs z (pos 0)`, the one at place z of the list, counted from 0. The numbers are the paper's own
-- and cite no limit. Assumes nothing.
use Rattle.std.specs.Prelude.{◌≡◌, Bool, true, false, not, ◌↔◌, List, ℕ, ◌<◌, T, length, get_or, ℤ, pos, neg_ℤ, ◌≤ℤ◌}
use Rattle.std.proofs.Common.{sym, subst, T_not}
use Rattle.base_integers.specs.Meaning.Ranges.{Range, outside, is_zero}
use Rattle.base_integers.specs.Steps.Ranges.{zero_is}
use Rattle.base_integers.specs.Meaning.Sums.{sum_to}
use Rattle.base_limits.proofs.Promised.Numbers.{Allows, net-position-is}
use Rattle.base_causes.specs.Meaning.Causes.{Pass, each}
use Rattle.base_causes.proofs.Promised.CauseLaws.{First}
use Rattle.flow_positions.specs.Meaning.Positions.{position_outside, unbalanced}

-- A LIST OF NUMBERS: the one at place z is from a to b, both included
abbrev pub Inside : ℤ → ℤ → List ℤ → ℕ → Type 0
Inside a b xs z = (a ≤ℤ get_or xs z (pos 0)) × (get_or xs z (pos 0) ≤ℤ b)

abbrev pub AllInside : ℤ → ℤ → List ℤ → Type 0
AllInside a b xs = (z : ℕ) → z < length xs → Inside a b xs z

-- and the first that does not
pub record FirstOutside (a b : ℤ) (xs : List ℤ) (z : ℕ) : Type 0 where
  pub is-place : z < length xs
  pub not-inside : Inside a b xs z → ⊥
  pub first_one : (y : ℕ) → y < z → Inside a b xs y

-- a row that tests each number by a limit, in these terms
module _ (r : Range) (a b : ℤ) (limit : Allows r a b) (xs : List ℤ) where
  abbrev test : ℕ → Bool
  test z = outside r (get_or xs z (pos 0))

  pub first-outside : (z : ℕ) → First (length xs) test z ↔ FirstOutside a b xs z
  first-outside z = (
    λ f. record {
      is-place = f.place_in;
      not-inside = λ w. T_not (test z) ((limit (get_or xs z (pos 0))).1 w) f.holds;
      first_one = λ y h. (limit (get_or xs y (pos 0))).0 (f.none_before y h);
    },
    λ f. record {
      place_in = f.is-place;
      holds = found (test z) (λ t. f.not-inside ((limit (get_or xs z (pos 0))).0 t));
      none_before = λ y h. (limit (get_or xs y (pos 0))).1 (f.first_one y h);
    },
  )
    where
      found : (t : Bool) → (T (not t) → ⊥) → T t
      found true n = tt
      found false n = absurd (n tt)

  pub all-inside : (number : ℕ) → Pass (each number (length xs) test) ↔ AllInside a b xs
  all-inside number = (λ p z h. (limit (get_or xs z (pos 0))).0 (p.pass z h), λ f. record { pass = λ z h. (limit (get_or xs z (pos 0))).1 (f z h) })

-- EVERY POSITION from -51,200,000 to 51,200,000, and the first that is not
pub positions-inside : (net_exports : List ℤ) (number : ℕ) → Pass (each number (length net_exports) (position_outside net_exports)) ↔ AllInside (neg_ℤ (pos 51200000)) (pos 51200000) net_exports
positions-inside net_exports = all-inside _ (neg_ℤ (pos 51200000)) (pos 51200000) net-position-is net_exports

pub first-position : (net_exports : List ℤ) (z : ℕ) → First (length net_exports) (position_outside net_exports) z ↔ FirstOutside (neg_ℤ (pos 51200000)) (pos 51200000) net_exports z
first-position net_exports = first-outside _ (neg_ℤ (pos 51200000)) (pos 51200000) net-position-is net_exports

-- THEIR SUM IS ZERO
abbrev pub SumZero : List ℤ → Type 0
SumZero net_exports = sum_to (length net_exports) (λ z. get_or net_exports z (pos 0)) ≡ pos 0

pub sum-zero : (net_exports : List ℤ) → T (not (unbalanced net_exports)) ↔ SumZero net_exports
unfolding is_zero outside
sum-zero net_exports = (λ t. zero_is (total net_exports) (twice (is_zero (total net_exports)) t), λ e. subst (λ (x : ℤ). T (not (not (is_zero x)))) (sym e) tt)
  where
    total : List ℤ → ℤ
    total net_exports = sum_to (length net_exports) (λ z. get_or net_exports z (pos 0))

    twice : (b : Bool) → T (not (not b)) → T b
    twice true t = tt
    twice false t = absurd t

pub sum-not-zero : (net_exports : List ℤ) → T (unbalanced net_exports) ↔ (SumZero net_exports → ⊥)
sum-not-zero net_exports = (λ t e. T_not (unbalanced net_exports) ((sum-zero net_exports).1 e) t, λ n. found (unbalanced net_exports) (λ t. n ((sum-zero net_exports).0 t)))
  where
    found : (t : Bool) → (T (not t) → ⊥) → T t
    found true n = tt
    found false n = absurd (n tt)
