-- Volumes by zone: an array of sixteen that holds a definition's values; one entry changed; a sum by key with one
-- entry more. Assumes nothing.
use Rattle.std.specs.Prelude.{◌≡◌, refl, ◌≢◌, Bool, List, ℕ, ◌+◌, ◌<◌, set, replicate, eqb, ℤ, pos, ◌+ℤ◌}
use Rattle.std.proofs.Common.{sym, ap, subst, ◌∙◌, arith, eq-eqb, ne_eqb, length-set, get_or-set_same, get_or-set_other}
use Rattle.std.proofs.Math.Decide.{ℕ_discrete}
use Rattle.std.proofs.lemmas.List.{get_or-replicate}
use Rattle.std.proofs.Math.IntN.{+ℤ_idr}
use Rattle.base_integers.specs.Meaning.Sums.{sum_to, only}
use Rattle.base_integers.specs.Steps.Sums.{sum_more}
use Rattle.base_measures.specs.declared.Tenths.{Tenths}
use Rattle.base_measures.specs.Meaning.TenthsHold.{no_tenths, tenths_at, TenthsHold}

pub zeros-hold : (f : ℕ → ℤ) → ((z : ℕ) → f z ≡ pos 0) → TenthsHold f (replicate 16 no_tenths)
zeros-hold f h = record { long = refl; each = λ z l. ap (λ (t : Tenths). t.0) (get_or-replicate 16 z no_tenths no_tenths l) ∙ sym (h z) }

-- entry k is changed, and the definitions differ only at k
pub set_holds : (f g : ℕ → ℤ) (xs : List Tenths) (k : ℕ) (x : Tenths) → k < 16 → TenthsHold f xs → x.0 ≡ g k → ((z : ℕ) → z ≢ k → f z ≡ g z) → TenthsHold g (set xs k x)
set_holds f g xs k x h a e o = record {
  long = length-set xs k x ∙ a.long;
  each = λ z l. elim (ℕ_discrete z k) [
    | yes q ↦ subst (λ (j : ℕ). tenths_at (set xs k x) j ≡ g j) (sym q) (ap (λ (t : Tenths). t.0) (get_or-set_same xs k x no_tenths (omega (arith, a.long))) ∙ e)
    | no q ↦ ap (λ (t : Tenths). t.0) (get_or-set_other xs k z x no_tenths q) ∙ a.each z l ∙ o z q
  ];
}

-- the sum over those of the first i entries that have the key z
abbrev pub keyed : (ℕ → ℕ) → (ℕ → ℤ) → ℕ → ℕ → ℤ
keyed key x i z = sum_to i (λ j. only (eqb (key j) z) (x j))

-- with one entry more, only the sum of its own key grows by it
module _ (key : ℕ → ℕ) (x : ℕ → ℤ) (n : ℕ) where
  keyed-own : keyed key x (n + 1) (key n) ≡ keyed key x n (key n) +ℤ x n
  keyed-own = sum_more n (λ j. only (eqb (key j) (key n)) (x j)) ∙ ap (λ (b : Bool). keyed key x n (key n) +ℤ only b (x n)) (eq-eqb (key n) (key n) refl)

  pub keyed-other : (z : ℕ) → z ≢ key n → keyed key x n z ≡ keyed key x (n + 1) z
  keyed-other z h =
      sym (sum_more n (λ j. only (eqb (key j) z) (x j)) ∙ ap (λ (b : Bool). keyed key x n z +ℤ only b (x n)) (ne_eqb (key n) z (λ q. h (sym q))) ∙ +ℤ_idr (keyed key x n z))

  pub keyed-at : (z : ℕ) → z ≡ key n → keyed key x (n + 1) z ≡ keyed key x n z +ℤ x n
  keyed-at z e = subst (λ (k : ℕ). keyed key x (n + 1) k ≡ keyed key x n k +ℤ x n) (sym e) keyed-own

  -- the sum in the array
  pub keyed-next : (xs : List Tenths) (z : ℕ) → z ≡ key n → key n < 16 → TenthsHold (keyed key x n) xs → tenths_at xs z +ℤ x n ≡ keyed key x (n + 1) z
  keyed-next xs z e l h = subst (λ (k : ℕ). tenths_at xs k +ℤ x n ≡ keyed key x (n + 1) k) (sym e) (ap (λ (v : ℤ). v +ℤ x n) (h.each (key n) l) ∙ sym keyed-own)

  pub keyed-set : (xs : List Tenths) (z : ℕ) (next : Tenths) → z ≡ key n → key n < 16 → TenthsHold (keyed key x n) xs → next.0 ≡ tenths_at xs z +ℤ x n → TenthsHold (keyed key x (n + 1)) (set xs z next)
  keyed-set xs z next e l h q =
      set_holds (keyed key x n) (keyed key x (n + 1)) xs z next (omega (arith, e)) h (q ∙ keyed-next xs z e l h) (λ k d. keyed-other k (λ r. d (r ∙ sym e)))
