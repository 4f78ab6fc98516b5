-- Rearranging the indices below a count changes no sum over them. Assumes nothing.
use Rattle.std.specs.Prelude.{◌≡◌, Bool, ℕ, ◌<◌, eqb, ℤ, pos, ◌*ℤ◌}
use Rattle.std.proofs.Common.{sym, ap, ◌∙◌, arith, eq-eqb, ne_eqb}
use Rattle.std.proofs.Math.Decide.{ℕ_discrete}
use Rattle.base_integers.specs.Steps.Difference.{at, ◌⊗◌, eq-by}
use Rattle.base_integers.specs.Meaning.Sums.{sum_to, only}
use Rattle.base_integers.specs.Steps.Sums.{sum-ext, sum-only, gather}
use Rattle.rules_rearranged.specs.Meaning.Permutation.{Permutation}

module _ {n : ℕ} (π : Permutation n) where
  -- i takes from z where z goes to i
  meets : (i z : ℕ) → i < n → z < n → eqb (π.source i) z ≡ eqb (π.target z) i
  meets i z h l = elim (ℕ_discrete (π.source i) z) [
    | yes e ↦ eq-eqb (π.source i) z e ∙ sym (eq-eqb (π.target z) i (sym (ap π.target e) ∙ π.target-source i h))
    | no g ↦ ne_eqb (π.source i) z g ∙ sym (ne_eqb (π.target z) i (λ e. g (sym (ap π.source e) ∙ π.source-target z l)))
  ]

  times-one : (x : ℤ) → x *ℤ pos 1 ≡ x
  times-one x = eq-by (at x ⊗ at (pos 1)) (at x) (omega arith)

  one-times : (x : ℤ) → pos 1 *ℤ x ≡ x
  one-times x = eq-by (at (pos 1) ⊗ at x) (at x) (omega arith)

  -- each index is taken once
  taken-once : (z : ℕ) → z < n → sum_to n (λ i. only (eqb (π.source i) z) (pos 1)) ≡ pos 1
  taken-once z l =
      sum-ext n (λ i. only (eqb (π.source i) z) (pos 1)) (λ i. only (eqb (π.target z) i) (pos 1) *ℤ pos 1)
      (λ i h. ap (λ (b : Bool). only b (pos 1)) (meets i z h l) ∙ sym (times-one (only (eqb (π.target z) i) (pos 1))))
      ∙ sum-only n (π.target z) (pos 1) (λ i. pos 1) (π.target-in z l)

  pub sum-permuted : (f : ℕ → ℤ) → sum_to n (λ i. f (π.source i)) ≡ sum_to n f
  sum-permuted f =
      sum-ext n (λ i. f (π.source i)) (λ i. pos 1 *ℤ f (π.source i)) (λ i h. sym (one-times (f (π.source i))))
      ∙ sym (gather n n π.source (λ i. pos 1) f π.source_in)
      ∙ sum-ext n (λ z. sum_to n (λ i. only (eqb (π.source i) z) (pos 1)) *ℤ f z) f (λ z l. ap (λ (x : ℤ). x *ℤ f z) (taken-once z l) ∙ one-times (f z))
